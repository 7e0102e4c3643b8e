use Rattle.std.proofs.Common.{◌≡◌, ◌<◌, ap, ◌∙◌, slice_get, rules, arith}
use Rattle.row.specs.Cells.{datum_of}
use Rattle.plan.specs.Layouts.{view_at}
use Rattle.model.specs.Histories.{view_shard}
use Rattle.packet.specs.Readers.{readers}
use Rattle.protocol.specs.WorldSteps.{reader_of}
use Rattle.schedule.proofs.Domains.{reader_there}
use Rattle.schedule.proofs.places.Places.reader_of.Goals as goal

pub returns-clause-there : goal.returns-clause-there
returns-clause-there c =
    let p = c.args.self.now in
    let i = c.args.view in
    let k = datum_of c.args.key.now in
    let place : c.reader_place.result ≡ reader_of p i k = search rules in
    let same : c.shard_of.result ≡ view_shard p i k = search rules in
    let shards : c.shards-shards.result ≡ (view_at p i).shards = search rules in
    let lt : view_shard p i k < (view_at p i).shards = omega (arith, same, shards, c.shard_of.ensures.below) in
    ap (slice_get (readers p)) place ∙ reader_there p i (view_shard p i k) c.requires lt
