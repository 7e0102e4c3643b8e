use Rattle.std.proofs.Common.{refl, sym, subst}
use Rattle.stage_steps.specs.Outboxes.{AreEdges}
use Rattle.stage_steps.specs.Shards.{IsPut, Shard}
use Rattle.stage_steps.proofs.Moves.{entered}
use Rattle.stage_steps.proofs.shard.StageShard.take_entry.Goals as goal

pub returns-clause-done : goal.returns-clause-done
returns-clause-done g c = λ d put.
    let x : Shard = record { plan = c.self.inside.plan.now; shard = c.self.inside.shard; line = c.self.inside.line; rows = c.self.inside.rows; pending = c.self.inside.pending.items; marks = c.self.inside.marks } in
    entered d c.args.out.now c.tell.new.self x _ c.args.source c.args.packet c.in_ok-to.ensures.told.0 c.in_ok-to.told.items (subst (IsPut d c.args.out.now) (sym c.self.view_is) put)
    (subst (λ (x : Shard). AreEdges x.plan c.args.out.now) (sym c.self.view_is) c.requires.edges) refl refl refl refl c.in_ok-to.ensures.moved c.entry_packets.ensures.keys c.in_ok-to.ensures.told.1 c.in_ok-tell.ensures.told c.tell.ensures.requests
