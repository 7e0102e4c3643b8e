use Rattle.std.proofs.Common.{◌<◌, length, map, true, None, slice_set, ap, sym, ◌∙◌, subst}
use Rattle.packet.specs.Lines.{AreOf, entries_of}
use Rattle.packet.specs.Readers.{readers}
use Rattle.packet.specs.Truth.{IsLine}
use Rattle.stage_sides.specs.Held.{untold_lefts}
use Rattle.stage_steps.specs.Sides.{names_of, passing_at}
use Rattle.stage_steps.specs.Told.{names_in, told_if}
use Rattle.stage_steps.proofs.Changed.{holds_so, is_place, moved_is, still_line, still_of, takes_so, told_as, told_so, untold_so}
use Rattle.stage_steps.proofs.entries.entry_packets.Goals as goal

pub change-requires-clause-covered : goal.change-requires-clause-covered
change-requires-clause-covered g c = takes_so c.args.plan.now c.args.stage c.args.line.now c.args.source c.args.packet (g.F.Fronts.log c.into_parts-front.result.0) c.keeps_profile.ensures c.requires.line c.requires.of c.requires.from c.requires.next c.into_parts-front.ensures.to c.is_log.ensures c.into_parts-front.ensures.truth c.args.rows.now c.requires.holds c.keeps_order.ensures c.source_side-side.result c.right_source.result c.passing-records.result.items c.source_side-side.ensures c.right_source.ensures (c.passing-records.ensures ∙ ap (passing_at c.args.plan.now c.source_side-side.result) c.into_parts-front.ensures.changes)

pub set-requires : goal.set-requires
set-requires g c = subst (λ l. c.args.source < length l) (sym c.in_ok-to.ensures) (is_place c.args.plan.now c.args.stage c.args.line.now c.args.source c.args.packet (g.F.Fronts.log c.into_parts-front.result.0) c.keeps_profile.ensures c.requires.line c.requires.of c.requires.from c.requires.next c.into_parts-front.ensures.to c.is_log.ensures c.into_parts-front.ensures.truth)

pub packets-requires-clause-of : goal.packets-requires-clause-of
packets-requires-clause-of g c = subst (AreOf c.args.plan.now) (sym (c.set.ensures ∙ ap (λ l. slice_set l c.args.source (g.F.Fronts.log c.into_parts-front.result.0)) c.in_ok-to.ensures)) (still_of c.args.plan.now c.args.stage c.args.line.now c.args.source c.args.packet (g.F.Fronts.log c.into_parts-front.result.0) c.keeps_profile.ensures c.requires.line c.requires.of c.requires.from c.requires.next c.into_parts-front.ensures.to c.is_log.ensures c.into_parts-front.ensures.truth)

pub packets-requires-clause-truth : goal.packets-requires-clause-truth
packets-requires-clause-truth g c = λ r lt.
    told_as c.args.plan.now c.args.stage (entries_of c.args.line.now) _ _ _ _ _ _ r (ap entries_of (c.set.ensures ∙ ap (λ l. slice_set l c.args.source (g.F.Fronts.log c.into_parts-front.result.0)) c.in_ok-to.ensures) ∙ moved_is c.args.plan.now c.args.stage c.args.line.now c.args.source c.args.packet (g.F.Fronts.log c.into_parts-front.result.0) c.keeps_profile.ensures c.requires.line c.requires.of c.requires.from c.requires.next c.into_parts-front.ensures.to c.is_log.ensures c.into_parts-front.ensures.truth) c.deref-2.ensures.value (ap names_in c.deref-3.ensures.value ∙ (c.in_ok-names.ensures ∙ ap (names_of c.args.plan.now) (ap (untold_lefts c.source_side-side.result c.args.rows.now) c.deref.ensures.value ∙ untold_so c.args.plan.now c.args.stage c.args.line.now c.args.source c.args.packet (g.F.Fronts.log c.into_parts-front.result.0) c.keeps_profile.ensures c.requires.line c.requires.of c.requires.from c.requires.next c.into_parts-front.ensures.to c.is_log.ensures c.into_parts-front.ensures.truth c.args.rows.now c.requires.holds c.keeps_order.ensures c.source_side-side.result c.passing-records.result.items c.source_side-side.ensures (c.passing-records.ensures ∙ ap (passing_at c.args.plan.now c.source_side-side.result) c.into_parts-front.ensures.changes))))
    (told_so c.args.plan.now c.args.stage c.args.line.now c.args.source c.args.packet (g.F.Fronts.log c.into_parts-front.result.0) c.keeps_profile.ensures c.requires.line c.requires.of c.requires.from c.requires.next c.into_parts-front.ensures.to c.is_log.ensures c.into_parts-front.ensures.truth c.args.rows.now c.requires.holds c.keeps_order.ensures c.change.new.rows c.in_ok-changes.changes.items c.args.alloc c.keeps_order-2.ensures r lt c.source_side-side.result c.right_source.result c.passing-records.result.items c.source_side-side.ensures c.right_source.ensures (c.passing-records.ensures ∙ ap (passing_at c.args.plan.now c.source_side-side.result) c.into_parts-front.ensures.changes) c.in_ok-changes.ensures.changed)

pub returns-clause-moved : goal.returns-clause-moved
returns-clause-moved g c = (ap entries_of (c.set.ensures ∙ ap (λ l. slice_set l c.args.source (g.F.Fronts.log c.into_parts-front.result.0)) c.in_ok-to.ensures) ∙ moved_is c.args.plan.now c.args.stage c.args.line.now c.args.source c.args.packet (g.F.Fronts.log c.into_parts-front.result.0) c.keeps_profile.ensures c.requires.line c.requires.of c.requires.from c.requires.next c.into_parts-front.ensures.to c.is_log.ensures c.into_parts-front.ensures.truth)

pub returns-clause-line : goal.returns-clause-line
returns-clause-line g c = subst (IsLine c.args.plan.now) (sym (ap entries_of (c.set.ensures ∙ ap (λ l. slice_set l c.args.source (g.F.Fronts.log c.into_parts-front.result.0)) c.in_ok-to.ensures) ∙ moved_is c.args.plan.now c.args.stage c.args.line.now c.args.source c.args.packet (g.F.Fronts.log c.into_parts-front.result.0) c.keeps_profile.ensures c.requires.line c.requires.of c.requires.from c.requires.next c.into_parts-front.ensures.to c.is_log.ensures c.into_parts-front.ensures.truth)) (still_line c.args.plan.now c.args.stage c.args.line.now c.args.source c.args.packet (g.F.Fronts.log c.into_parts-front.result.0) c.keeps_profile.ensures c.requires.line c.requires.of c.requires.from c.requires.next c.into_parts-front.ensures.to c.is_log.ensures c.into_parts-front.ensures.truth)

pub returns-clause-of : goal.returns-clause-of
returns-clause-of g c = subst (AreOf c.args.plan.now) (sym (c.set.ensures ∙ ap (λ l. slice_set l c.args.source (g.F.Fronts.log c.into_parts-front.result.0)) c.in_ok-to.ensures)) (still_of c.args.plan.now c.args.stage c.args.line.now c.args.source c.args.packet (g.F.Fronts.log c.into_parts-front.result.0) c.keeps_profile.ensures c.requires.line c.requires.of c.requires.from c.requires.next c.into_parts-front.ensures.to c.is_log.ensures c.into_parts-front.ensures.truth)

pub returns-clause-holds : goal.returns-clause-holds
returns-clause-holds g c = holds_so c.args.plan.now c.args.stage c.args.line.now c.args.source c.args.packet (g.F.Fronts.log c.into_parts-front.result.0) c.keeps_profile.ensures c.requires.line c.requires.of c.requires.from c.requires.next c.into_parts-front.ensures.to c.is_log.ensures c.into_parts-front.ensures.truth c.args.rows.now c.requires.holds c.keeps_order.ensures c.change.new.rows c.in_ok-changes.changes.items c.source_side-side.result c.right_source.result c.passing-records.result.items c.source_side-side.ensures c.right_source.ensures (c.passing-records.ensures ∙ ap (passing_at c.args.plan.now c.source_side-side.result) c.into_parts-front.ensures.changes) c.in_ok-changes.ensures.changed

pub returns-clause-told : goal.returns-clause-told
returns-clause-told g c = (
  c.deref-2.result.now,
  c.in_ok-told.ensures ∙ (λ i. map (told_if true c.args.plan.now c.args.stage (entries_of c.args.line.now) ((ap entries_of (c.set.ensures ∙ ap (λ l. slice_set l c.args.source (g.F.Fronts.log c.into_parts-front.result.0)) c.in_ok-to.ensures) ∙ moved_is c.args.plan.now c.args.stage c.args.line.now c.args.source c.args.packet (g.F.Fronts.log c.into_parts-front.result.0) c.keeps_profile.ensures c.requires.line c.requires.of c.requires.from c.requires.next c.into_parts-front.ensures.to c.is_log.ensures c.into_parts-front.ensures.truth) i) c.deref-2.result.now ((ap names_in c.deref-3.ensures.value ∙ (c.in_ok-names.ensures ∙ ap (names_of c.args.plan.now) (ap (untold_lefts c.source_side-side.result c.args.rows.now) c.deref.ensures.value ∙ untold_so c.args.plan.now c.args.stage c.args.line.now c.args.source c.args.packet (g.F.Fronts.log c.into_parts-front.result.0) c.keeps_profile.ensures c.requires.line c.requires.of c.requires.from c.requires.next c.into_parts-front.ensures.to c.is_log.ensures c.into_parts-front.ensures.truth c.args.rows.now c.requires.holds c.keeps_order.ensures c.source_side-side.result c.passing-records.result.items c.source_side-side.ensures (c.passing-records.ensures ∙ ap (passing_at c.args.plan.now c.source_side-side.result) c.into_parts-front.ensures.changes)))) i) None) (readers c.args.plan.now)),
)
