use Rattle.std.proofs.Common.{◌≡◌, ◌∷◌, ◌++◌, [], length, length-set, append_assoc, map, sym, ◌∙◌, ap, refl, subst}
use Rattle.std.proofs.lemmas.List.{append-nil}
use Rattle.packet.specs.Outboxes.{packets_on}
use Rattle.packet.proofs.Sends.{Filled, filled_none, next_room, next_filled, next_count, filled_all, none_left}
use Rattle.packet.proofs.edges.Edges.send_to_each.Goals as goal

pub loop-packet-init : goal.loop-packet-init
loop-packet-init g c = ([], c.into_iter-packet-iterator.ensures.into_iter_gives.0, refl, filled_none c.args.self.now c.requires.clear c.requires.room, refl)

pub push-requires-clause-room : goal.push-requires-clause-room
push-requires-clause-room g c =
    let i = c.loop-packet.invariant in
    next_room i.0 c.in-Some.packet c.next.new.self.rest.items c.args.packets.items c.loop-packet.self c.loop-packet.edge i.2 i.3 (ap (λ l. i.0 ++ l) (sym c.in-Some.ensures.steps.0) ∙ i.1) (c.requires.count ∙ sym i.4)

pub loop-packet-preserved : goal.loop-packet-preserved
loop-packet-preserved g c =
    let i = c.loop-packet.invariant in
    let whole = ap (λ l. i.0 ++ l) (sym c.in-Some.ensures.steps.0) ∙ i.1 in (
      i.0 ++ c.in-Some.packet ∷ [],
      append_assoc i.0 (c.in-Some.packet ∷ []) c.next.new.self.rest.items ∙ whole,
      next_count i.0 c.in-Some.packet c.loop-packet.edge i.2,
      subst (λ es. Filled (i.0 ++ c.in-Some.packet ∷ []) es) (sym c.push.ensures) (next_filled i.0 c.in-Some.packet c.next.new.self.rest.items c.args.packets.items c.loop-packet.self c.loop-packet.edge i.2 i.3 whole (c.requires.count ∙ sym i.4)),
      ap length c.push.ensures ∙ length-set c.loop-packet.self c.loop-packet.edge _ ∙ i.4,
    )

pub returns-clause-sent : goal.returns-clause-sent
returns-clause-sent g c =
    let i = c.loop-packet.invariant in
    let none = none_left c.loop-packet.packet-iterator.rest.items (sym (c.loop-packet.packet-iterator.rest.ok.0) ∙ c.in-None.ensures.steps.0) in
    let all = sym (append-nil i.0) ∙ ap (λ l. i.0 ++ l) (sym none) ∙ i.1 in
    subst (λ l. packets_on c.loop-packet.self ≡ map (λ x. x ∷ []) l) all (filled_all i.0 c.loop-packet.self i.3 (ap length all ∙ c.requires.count ∙ sym i.4))
