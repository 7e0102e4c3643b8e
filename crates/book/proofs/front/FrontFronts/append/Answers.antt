use Rattle.std.proofs.Common.{ap}
use Rattle.model.specs.Entries.{change_of}
use Rattle.book.specs.Fronts.{FrontView}
use Rattle.book.proofs.FrontLogs.{is_longer, may_append}
use Rattle.book.proofs.front.FrontFronts.append.Goals as goal

pub append-requires : goal.append-requires
append-requires g c = may_append g.J.Naming.plan c.args.right.now c.args.session c.args.number (change_of c.args.entry.now) c.len-len.ensures.within c.requires

pub returns-in-Err-clause-moved : goal.returns-in-Err-clause-moved
returns-in-Err-clause-moved g c =
    let m = c.in-Err.ensures.moved.1 in
    let u = c.catch_up.ensures in
    is_longer g.J.Naming.plan c.args.right.now c.in-Err.front c.catch_up.new.self c.len-len.ensures.within (ap (λ (f : FrontView). f.base) m.stays) (ap (λ (f : FrontView). f.len) m.stays) m.grown m.longer (ap (λ (f : FrontView). f.base) u.stays) u.seen u.whole
