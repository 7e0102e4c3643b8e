use Rattle.std.proofs.Common.{◌≡◌, Some, ap, ◌∙◌}
use Rattle.row.specs.Cells.{datum_of}
use Rattle.model.specs.Histories.{view_shard}
use Rattle.sessions.proofs.reads.key_place.Goals as goal

pub shard_place-requires-clause-shard : goal.shard_place-requires-clause-shard
shard_place-requires-clause-shard g c = rw c.plan.ensures at c.key_shard-shard.ensures.range

pub returns : goal.returns
returns g c =
    let p = g.J.Naming.plan in
    let shard : c.key_shard-shard.result ≡ view_shard p c.args.view (datum_of c.args.key.now) = rw c.plan.ensures at c.key_shard-shard.ensures.shard in
    c.shard_place.ensures ∙ ap (λ j. Some (record { view = c.args.view; shard = j })) shard
