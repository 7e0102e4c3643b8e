use Rattle.std.proofs.Common.{sym, ◌∙◌}
use Rattle.sessions.proofs.Found.{not_none, place_there}
use Rattle.sessions.proofs.Shards.{place_found}
use Rattle.sessions.proofs.reads.shard_place.Goals as goal

pub unreachable-requires : goal.unreachable-requires
unreachable-requires g c =
    let r = place_there g.J.Naming.plan c.readers.result.now c.args.view c.args.shard c.readers.ensures c.requires.view c.requires.shard in
    not_none c.place_of.result r.0 c.in-None.is (c.place_of.ensures ∙ r.1)

pub returns : goal.returns
returns g c = place_found g.J.Naming.plan c.readers.result.now c.args.view c.args.shard c.in-Some.place c.readers.ensures (sym c.place_of.ensures ∙ c.in-Some.is)
