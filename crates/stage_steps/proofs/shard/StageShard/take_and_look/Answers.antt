use Rattle.std.proofs.Common.{length, ap, sym, ◌∙◌, subst}
use Rattle.protocol.specs.StageSteps.{packet_taken}
use Rattle.right_rows.specs.Rights.{keys_in}
use Rattle.stage_sides.specs.Sides.{are_filled}
use Rattle.stage_steps.specs.Outboxes.{AreEdges}
use Rattle.stage_steps.specs.Shards.{Shard}
use Rattle.stage_steps.proofs.Puts.{after}
use Rattle.stage_steps.proofs.Settled.{has_begun, put_unlooked}
use Rattle.stage_steps.proofs.shard.StageShard.take_and_look.Goals as goal

pub returns-then-filled-clause-done : goal.returns-then-filled-clause-done
returns-then-filled-clause-done g c d put =
    let many = λ (x : Shard). length (are_filled (keys_in x.rows.right)) in
    let filled = ap many (sym c.self-2.view_is) ∙ (sym c.filled.ensures ∙ (c.if-filled.true ∙ (c.filled-filled.ensures ∙ ap many c.self.view_is))) in
    let edges = subst (λ p. AreEdges p c.take_packet.new.out) (sym c.in_ok-take_packet.ensures.same.plan) c.in_ok-take_packet.ensures.edges in
    put_unlooked c.args.self.now c.take_packet.new.self d c.args.out.now c.take_packet.new.out c.args.source c.args.packet put c.requires.whole.waits edges (sym c.brings_no_entry-has_no_entry.ensures ∙ c.if-not-has_no_entry.false) filled (c.in_ok-take_packet.ensures.done d put)

pub returns-then-not-has_no_entry-clause-done : goal.returns-then-not-has_no_entry-clause-done
returns-then-not-has_no_entry-clause-done g c d put =
    c.look.ensures.done (after d (packet_taken d.stage c.args.source c.args.packet c.args.packet.piece c.args.packet.marker)) (c.in_ok-take_packet.ensures.done d put)

pub answer_ready-requires-clause-begun : goal.answer_ready-requires-clause-begun
answer_ready-requires-clause-begun g c =
    has_begun c.args.self.now c.take_packet.new.self c.args.out.now c.take_packet.new.out c.args.source c.args.packet c.requires.silent c.requires.edges c.requires.whole.waits (sym c.brings_no_entry-has_no_entry.ensures ∙ c.if-not-has_no_entry.false) c.in_ok-take_packet.ensures.done

pub returns-clause-done : goal.returns-clause-done
returns-clause-done g c d put =
    c.answer_ready.ensures.done (after d (packet_taken d.stage c.args.source c.args.packet c.args.packet.piece c.args.packet.marker)) (c.in_ok-take_packet.ensures.done d put)
