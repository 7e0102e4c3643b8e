use Rattle.std.proofs.Common.{◌∙◌, sym, ap, refl, subst, inl, inr, slice_set, Some}
use Rattle.plan.specs.Layouts.{ViewLayout}
use Rattle.packet.specs.Codes.{mark_in, marks_in}
use Rattle.packet.specs.Lines.{AreOf}
use Rattle.packet.specs.Messages.{StagePacketView, to_one}
use Rattle.packet.specs.Marks.{MarksView}
use Rattle.packet.specs.Truth.{Grows, sent_of}
use Rattle.protocol.specs.Views.{packet as sent_by}
use Rattle.protocol.specs.ViewSteps.{marks_with, step}
use Rattle.view_domain.specs.Domains.{HoldsTruth, domain_of, view_of}
use Rattle.view_domain.specs.Received.{IsDone}
use Rattle.view_domain.specs.Outboxes.{OutboxView}
use Rattle.packet.specs.declared.mode.Mode.TheVariants.{Stopped}
use Rattle.view_domain.proofs.Holds.{sound}
use Rattle.view_domain.proofs.Packets.{lines_meet, even, lengths_reach, not_next, mode_holds, all_apart, taken, packet_fits, packet_holds, packet_done, packet_shown, done_of, left_waiting}
use Rattle.view_domain.proofs.view_domain.ViewDomain.take.Goals as goal

pub starts_at-requires-clause-one : goal.starts_at-requires-clause-one
starts_at-requires-clause-one g c =
    let holds = c.self.invariant.1 (sound c.self.inside.mode (rw (← c.self.view_is) at c.requires.ready.running)) in
    lines_meet g.F.Fronts.are_one _ c.args.stage c.args.sent (rw (← c.self.view_is) at c.requires.from) holds c.index.result.now c.index.ensures c.into_parts-from.result.1 c.into_parts-from.ensures.of (ap (λ (x : StagePacketView). x.to) c.into_parts-from.ensures.parts)

pub starts_at-requires-clause-count : goal.starts_at-requires-clause-count
starts_at-requires-clause-count g c = rw c.deref.ensures
    (lengths_reach c.into_parts-from.result.0.items c.into_parts-from.result.1 (subst (λ (x : StagePacketView). Grows x.from x.to) c.into_parts-from.ensures.parts c.into_parts-from.ensures.truth.grows))

pub invariant_of-self : goal.invariant_of-self
invariant_of-self g c = (c.self.invariant.0, λ b. mode_holds _ Stopped (c.self.invariant.1 (sound c.self.inside.mode (rw (← c.self.view_is) at c.requires.ready.running))))

pub returns-then-not-starts_at-clause-refused : goal.returns-then-not-starts_at-clause-refused
returns-then-not-starts_at-clause-refused g c =
    let holds = c.self.invariant.1 (sound c.self.inside.mode (rw (← c.self.view_is) at c.requires.ready.running)) in
    rw (← c.self.view_is) (record {
      silent = c.requires.ready.clear;
      why = inl (refl, not_next g.F.Fronts.are_one _ c.args.stage c.args.sent (rw (← c.self.view_is) at c.requires.from) holds c.index.result.now c.index.ensures _ (ap (λ (x : StagePacketView). x.from) c.into_parts-from.ensures.parts) (rw c.deref.ensures at c.if-not-starts_at.ensures.1), refl);
    })

pub hold-requires : goal.hold-requires
hold-requires g c =
    let holds = c.self.invariant.1 (sound c.self.inside.mode (rw (← c.self.view_is) at c.requires.ready.running)) in
    even g.F.Fronts.are_one _ c.args.stage c.args.sent (rw (← c.self.view_is) at c.requires.from) holds c.index_mut.result.now c.index_mut.ensures.value c.into_parts-from.result.1 c.into_parts-from.ensures.of (ap (λ (x : StagePacketView). x.to) c.into_parts-from.ensures.parts)

pub prepare-requires-clause-may : goal.prepare-requires-clause-may
prepare-requires-clause-may g c =
    let holds = c.self.invariant.1 (sound c.self.inside.mode (rw (← c.self.view_is) at c.requires.ready.running)) in
    let t = taken g.F.Fronts.are_one _ c.args.stage c.args.sent (rw (← c.self.view_is) at c.requires.from) holds c.index.result.now c.index.ensures _ c.into_parts-from.ensures.parts c.into_parts-from.ensures.truth ((rw c.deref.ensures at c.if-not-starts_at.ensures.0) refl) in
    record {
      up = t.truth.order;
      apart = all_apart _ c.into_parts-from.result.2.changes.items t.truth.told;
      fits = packet_fits _ c.args.stage _ t.plan t.stage t.view t.shard t.holds t.truth t.next;
    }

pub returns-in_default-clause-refused : goal.returns-in_default-clause-refused
returns-in_default-clause-refused g c =
    let holds = c.self.invariant.1 (sound c.self.inside.mode (rw (← c.self.view_is) at c.requires.ready.running)) in
    let t = taken g.F.Fronts.are_one _ c.args.stage c.args.sent (rw (← c.self.view_is) at c.requires.from) holds c.index.result.now c.index.ensures _ c.into_parts-from.ensures.parts c.into_parts-from.ensures.truth ((rw c.deref.ensures at c.if-not-starts_at.ensures.0) refl) in
    rw (← c.self.view_is) (record {
      silent = c.requires.ready.clear;
      why = inr (refl, t.next ∙ ap (λ (x : StagePacketView). Some x.from) (sym c.into_parts-from.ensures.parts), refl);
    })

pub returns-in_default-prepare-clause-refused : goal.returns-in_default-prepare-clause-refused
returns-in_default-prepare-clause-refused g c =
    let holds = c.self.invariant.1 (sound c.self.inside.mode (rw (← c.self.view_is) at c.requires.ready.running)) in
    let t = taken g.F.Fronts.are_one _ c.args.stage c.args.sent (rw (← c.self.view_is) at c.requires.from) holds c.index.result.now c.index.ensures _ c.into_parts-from.ensures.parts c.into_parts-from.ensures.truth ((rw c.deref.ensures at c.if-not-starts_at.ensures.0) refl) in
    rw (← c.self.view_is) (record {
      silent = c.requires.ready.clear;
      why = inr (refl, t.next ∙ ap (λ (x : StagePacketView). Some x.from) (sym c.into_parts-from.ensures.parts), refl);
    })

pub invariant_of-self-2 : goal.invariant_of-self-2
invariant_of-self-2 g c = (
  c.self.invariant.0,
  λ b.
      let holds = c.self.invariant.1 (sound c.self.inside.mode (rw (← c.self.view_is) at c.requires.ready.running)) in
      let t = taken g.F.Fronts.are_one _ c.args.stage c.args.sent (rw (← c.self.view_is) at c.requires.from) holds c.index.result.now c.index.ensures _ c.into_parts-from.ensures.parts c.into_parts-from.ensures.truth ((rw c.deref.ensures at c.if-not-starts_at.ensures.0) refl) in
      subst (λ cut. HoldsTruth (domain_of c.self.inside.plan.now c.self.inside.reader.view c.self.inside.reader.shard cut c.prepare.new.kept c.count-self-inside.result c.prepare.new.marks c.self.inside.mode))
      (sym (ap (λ l. slice_set c.self.inside.cut.items c.args.stage l) c.in-Ok.ensures.held))
      (packet_holds _ c.args.stage _ t.plan t.stage t.view t.shard t.holds t.truth t.next c.prepare.new.kept c.into_parts-from.result.1 c.count-self-inside.result c.prepare.new.marks refl (subst (λ (y : StagePacketView). AreOf y.plan c.into_parts-from.result.1) c.into_parts-from.ensures.parts c.into_parts-from.ensures.of) c.in-Ok-prepare.ensures.sources c.in-Ok-prepare.ensures.truth
      (ap (λ (m : MarksView). m.senders) c.in-Ok-prepare.ensures.marks) (left_waiting c.prepare.new.marks c.self.inside.marks (marks_with c.self.inside.marks.senders c.args.stage (mark_in c.into_parts-from.result.2.marker) c.self.inside.marks.waiting) c.in-Ok-prepare.ensures.marks)),
)

pub returns-clause-done : goal.returns-clause-done
returns-clause-done g c =
    let running = rw (← c.self.view_is) at c.requires.ready.running in
    let holds = c.self.invariant.1 (sound c.self.inside.mode running) in
    let t = taken g.F.Fronts.are_one _ c.args.stage c.args.sent (rw (← c.self.view_is) at c.requires.from) holds c.index.result.now c.index.ensures _ c.into_parts-from.ensures.parts c.into_parts-from.ensures.truth ((rw c.deref.ensures at c.if-not-starts_at.ensures.0) refl) in
    let shown = ap (λ (o : OutboxView). o.shown) c.put.ensures.rest in
    let ack = ap (λ (o : OutboxView). marks_in o.ack) c.put.ensures.rest in
    let edges = rw (← c.self.view_is) at c.requires.ready.edges in
    rw (← c.self.view_is)
    (subst (λ cut. IsDone (sent_by c.args.stage (sent_of c.args.sent)) (step (view_of (domain_of c.self.inside.plan.now c.self.inside.reader.view c.self.inside.reader.shard c.self.inside.cut.items c.self.inside.kept c.self.inside.asked c.self.inside.marks c.self.inside.mode)) (sent_by c.args.stage (sent_of c.args.sent))) (domain_of c.self.inside.plan.now c.self.inside.reader.view c.self.inside.reader.shard c.self.inside.cut.items c.self.inside.kept c.self.inside.asked c.self.inside.marks c.self.inside.mode) c.put.new.self (domain_of c.self.inside.plan.now c.self.inside.reader.view c.self.inside.reader.shard cut c.prepare.new.kept c.count-self-inside.result c.prepare.new.marks c.self.inside.mode))
    (sym (ap (λ l. slice_set c.self.inside.cut.items c.args.stage l) c.in-Ok.ensures.held))
    (done_of _ c.args.stage _ t.plan t.stage t.view t.shard t.holds t.truth t.next c.args.sent c.put.new.self _ c.into_parts-from.ensures.parts
    (packet_done _ c.args.stage _ t.plan t.stage t.view t.shard t.holds t.truth t.next c.prepare.new.kept c.into_parts-from.result.1 c.count-self-inside.result c.len.result c.self.inside.tag.0 c.cap.result c.prepare.new.marks c.in-Ok-prepare.made.requests.items c.put.new.self
    running refl c.self.invariant.0 (c.cap.ensures ∙ ap (λ (v : ViewLayout). v.cap) c.view.ensures) c.in-Ok-prepare.ensures.stands (c.len.ensures ∙ c.in-Ok-prepare.made.requests.ok.0) c.count-self-inside.ensures c.in-Ok-prepare.ensures.requests
    (c.put.ensures.requests ∙ ap (λ n. to_one n c.args.stage c.in-Ok-prepare.made.requests.items) edges) c.in-Ok-prepare.ensures.marks (ack ∙ c.in-Ok-prepare.ensures.ack)
    (packet_shown _ c.args.stage _ t.plan t.stage t.view t.shard t.holds t.truth t.next c.prepare.new.kept c.into_parts-from.result.1 c.count-self-inside.result c.prepare.new.marks c.in-Ok-prepare.made.told.items c.in-Ok.line c.into_parts-from.result.2.piece c.into_parts-from.result.2.marker
    c.of-shown.result c.put.new.self.shown shown (rw (← c.self.view_is) at c.requires.from).place c.of-shown.ensures.parts refl (subst (λ (y : StagePacketView). AreOf y.plan c.into_parts-from.result.1) c.into_parts-from.ensures.parts c.into_parts-from.ensures.of) refl refl c.of-shown.ensures.keys c.in-Ok-prepare.ensures.shown c.of-shown.ensures.line c.of-shown.ensures.cut c.in-Ok.ensures.line c.of-shown.ensures.asked))))
