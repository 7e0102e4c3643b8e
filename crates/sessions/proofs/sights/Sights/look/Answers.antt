use Rattle.model.specs.Histories.{view_shard}
use Rattle.row.specs.Cells.{datum_of}
use Rattle.sessions.proofs.Found.{finds, hides, looked_at}
use Rattle.sessions.proofs.sights.Sights.look.Goals as goal

pub invariant_of-self : goal.invariant_of-self
invariant_of-self g c = (looked_at g.J.Naming.plan c.self.inside.readers.items c.args.place c.args.view (view_shard g.J.Naming.plan c.args.view (datum_of c.args.key.now)) c.index_mut.result.now c.look.new.self c.self.invariant c.requires.place c.index_mut.ensures.value c.look.ensures.later).shards

pub returns-clause-later : goal.returns-clause-later
returns-clause-later g c = rw (← c.self.view_is) (looked_at g.J.Naming.plan c.self.inside.readers.items c.args.place c.args.view (view_shard g.J.Naming.plan c.args.view (datum_of c.args.key.now)) c.index_mut.result.now c.look.new.self c.self.invariant c.requires.place c.index_mut.ensures.value c.look.ensures.later).later

pub returns-clause-shards : goal.returns-clause-shards
returns-clause-shards g c = (looked_at g.J.Naming.plan c.self.inside.readers.items c.args.place c.args.view (view_shard g.J.Naming.plan c.args.view (datum_of c.args.key.now)) c.index_mut.result.now c.look.new.self c.self.invariant c.requires.place c.index_mut.ensures.value c.look.ensures.later).shards

pub returns-clause-hit : goal.returns-clause-hit
returns-clause-hit g c =
    let is = (looked_at g.J.Naming.plan c.self.inside.readers.items c.args.place c.args.view (view_shard g.J.Naming.plan c.args.view (datum_of c.args.key.now)) c.index_mut.result.now c.look.new.self c.self.invariant c.requires.place c.index_mut.ensures.value c.look.ensures.later).sight in
    finds g.J.Naming.plan _ c.args.view c.args.key.now c.look.new.self c.look.result _ _ is c.look.ensures.truth c.look.ensures.hit

pub returns-clause-miss : goal.returns-clause-miss
returns-clause-miss g c =
    let is = (looked_at g.J.Naming.plan c.self.inside.readers.items c.args.place c.args.view (view_shard g.J.Naming.plan c.args.view (datum_of c.args.key.now)) c.index_mut.result.now c.look.new.self c.self.invariant c.requires.place c.index_mut.ensures.value c.look.ensures.later).sight in
    hides g.J.Naming.plan _ c.args.view c.args.key.now c.look.new.self c.look.result is c.look.ensures.miss
