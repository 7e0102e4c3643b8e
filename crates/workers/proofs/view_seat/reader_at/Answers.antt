use Rattle.workers.proofs.Places.{reader_at, reader_there, stands}
use Rattle.workers.proofs.view_seat.reader_at.Goals as goal

pub returns-in-Some-clause-there : goal.returns-in-Some-clause-there
returns-in-Some-clause-there g c =
    let found = c.in-Some.ensures.lookup in
    let xs = c.readers.result.now in
    reader_there g.J.Naming.plan xs c.args.place c.in-Some.reader.now c.readers.ensures (stands xs c.args.place c.in-Some.reader.now found.3.0 found.1)

pub returns-in-Some-clause-place : goal.returns-in-Some-clause-place
returns-in-Some-clause-place g c =
    let found = c.in-Some.ensures.lookup in
    let xs = c.readers.result.now in
    reader_at g.J.Naming.plan xs c.args.place c.in-Some.reader.now c.readers.ensures (stands xs c.args.place c.in-Some.reader.now found.3.0 found.1)
