use Rattle.std.proofs.Common.{◌≡◌, ◌∷◌, ◌++◌, [], length, append_assoc, map, sym, ◌∙◌, ap, refl, subst}
use Rattle.std.proofs.lemmas.List.{append-nil}
use Rattle.packet.specs.Outboxes.{packets_on}
use Rattle.packet.proofs.Sends.{none_left}
use Rattle.protocol.specs.StageSteps.{append_each}
use Rattle.stage_steps.specs.Told.{perhaps}
use Rattle.stage_steps.proofs.Appends.{append_none, told_more, next_there, next_place}
use Rattle.stage_steps.proofs.outbox.StageOutbox.tell.Goals as goal

pub loop-packet-init : goal.loop-packet-init
loop-packet-init g c = ([], c.into_iter-packet-iterator.ensures.into_iter_gives.0, refl, sym (append_none (packets_on c.args.self.now.packets)), refl, refl)

pub tell_one-requires : goal.tell_one-requires
tell_one-requires g c =
    let i = c.loop-packet.invariant in
    next_there i.0 c.in-Some.packet c.next.new.self.rest.items c.args.packets.items c.loop-packet.reader (length c.loop-packet.self.packets) i.2 (ap (λ l. i.0 ++ l) (sym c.in-Some.ensures.steps.0) ∙ i.1) (c.requires ∙ sym i.4)

pub loop-packet-preserved : goal.loop-packet-preserved
loop-packet-preserved g c =
    let i = c.loop-packet.invariant in
    let whole = ap (λ l. i.0 ++ l) (sym c.in-Some.ensures.steps.0) ∙ i.1 in (
      i.0 ++ c.in-Some.packet ∷ [],
      append_assoc i.0 (c.in-Some.packet ∷ []) c.next.new.self.rest.items ∙ whole,
      next_place i.0 c.in-Some.packet c.loop-packet.reader i.2,
      told_more perhaps c.args.self.now.packets c.loop-packet.self.packets c.tell_one.new.self.packets i.0 c.in-Some.packet c.loop-packet.reader i.2
          (next_there i.0 c.in-Some.packet c.next.new.self.rest.items c.args.packets.items c.loop-packet.reader (length c.loop-packet.self.packets) i.2 whole (c.requires ∙ sym i.4)) i.4 i.3 c.in_ok-tell_one.ensures.told,
      c.tell_one.ensures.readers ∙ i.4,
      c.tell_one.ensures.requests ∙ i.5,
    )

pub returns-clause-told : goal.returns-clause-told
returns-clause-told g c =
    let i = c.loop-packet.invariant in
    let none = none_left c.loop-packet.packet-iterator.rest.items (sym (c.loop-packet.packet-iterator.rest.ok.0) ∙ c.in-None.ensures.steps.0) in
    let all = sym (append-nil i.0) ∙ ap (λ l. i.0 ++ l) (sym none) ∙ i.1 in
    subst (λ l. packets_on c.loop-packet.self.packets ≡ append_each (packets_on c.args.self.now.packets) (map perhaps l)) all i.3
