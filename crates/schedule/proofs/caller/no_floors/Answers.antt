use Rattle.std.proofs.Common.{◌≡◌, [], length, arith}
use Rattle.packet.specs.Readers.{readers}
use Rattle.schedule.specs.Codes.{reader_in}
use Rattle.schedule.proofs.Images.{filled}
use Rattle.schedule.proofs.caller.no_floors.Goals as goal

pub returns : goal.returns
returns c =
    let shards = c.readers-reader-items.result.now in
    let size : length shards ≡ c.loop-reader._reader-index = omega (arith, c.loop-reader-test.false, c.loop-reader.auto._reader-index-end) in
    filled reader_in [] shards (readers c.args.places.now) c.loop-reader.floors.items c.loop-reader._reader-index c.readers-reader-items.ensures size c.loop-reader.invariant
