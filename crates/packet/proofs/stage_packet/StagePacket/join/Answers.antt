use Rattle.std.proofs.Common.{◌≡◌, ◌++◌, ap, sym, subst, refl}
use Rattle.packet.specs.Codes.{stage_packet_of}
use Rattle.packet.specs.Joined.{at_most}
use Rattle.packet.specs.Lines.{AreOf, lengths_of, plan_of}
use Rattle.packet.specs.Truth.{IsTrueStage}
use Rattle.packet.proofs.Joins.{stage_joined, stage_holds}
use Rattle.packet.proofs.stage_packet.StagePacket.join.Goals as goal

pub invariant_of-self : goal.invariant_of-self
invariant_of-self g c =
    let was = c.self.inside.parts.value in
    let now = c.deref_mut.result.now in
    let held = stage_packet_of was.stage was.reader was.from.items was.to was.content in
    let same : stage_packet_of now.stage now.reader now.from.items now.to (record now.content { changes = c.append.new.all }) ≡ held =
    rw (c.in_err-append.ensures.err, c.deref_mut.ensures.value) (refl {a = held}) in
    (subst (λ line. AreOf (plan_of line) line) (sym (ap (λ p. p.to) c.deref_mut.ensures.value)) c.self.invariant.0, subst IsTrueStage (sym same) c.self.invariant.1)

pub invariant_of-self-2 : goal.invariant_of-self-2
invariant_of-self-2 g c =
    let was = c.self.inside.parts.value in
    let (from, there, rest) = c.into_parts-to.result in
    let all = record was.content { changes = c.append.new.all } in
    let put : all.changes.items ≡ was.content.changes.items ++ rest.changes.items = rw (← c.deref_mut.ensures.value) c.in_ok-append.ensures.ok in
    let now = c.end_at.new.self in
    let joined = stage_packet_of was.stage was.reader (at_most was.from.items (lengths_of was.to)) there all in
    let moved : stage_packet_of now.stage now.reader now.from.items now.to now.content ≡ joined =
    rw (c.end_at.ensures.stage, c.end_at.ensures.reader, c.end_at.ensures.from, c.end_at.ensures.to, c.end_at.ensures.content, c.deref_mut-2.ensures.value, c.deref_mut.ensures.value) (refl {a = joined}) in
    let held = stage_holds c.args.self.now c.args.next c.requires c.into_parts-to.ensures.truth was.stage was.reader was.from.items was.to there was.content all c.self.view_is from.items rest c.into_parts-to.ensures.parts put refl c.into_parts-to.ensures.of c.self.invariant in
    (subst (λ line. AreOf (plan_of line) line) (sym c.end_at.ensures.to) held.0, subst IsTrueStage (sym moved) held.1)

pub returns-clause-ok : goal.returns-clause-ok
returns-clause-ok g c =
    let was = c.self.inside.parts.value in
    let (from, there, rest) = c.into_parts-to.result in
    let all = record was.content { changes = c.append.new.all } in
    let put : all.changes.items ≡ was.content.changes.items ++ rest.changes.items = rw (← c.deref_mut.ensures.value) c.in_ok-append.ensures.ok in
    rw (c.end_at.ensures.stage, c.end_at.ensures.reader, c.end_at.ensures.from, c.end_at.ensures.to, c.end_at.ensures.content, c.deref_mut-2.ensures.value, c.deref_mut.ensures.value)
    (stage_joined c.args.self.now c.args.next c.requires c.into_parts-to.ensures.truth was.stage was.reader was.from.items was.to there was.content all c.self.view_is from.items rest c.into_parts-to.ensures.parts put refl)
