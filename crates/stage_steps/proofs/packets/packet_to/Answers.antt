use Rattle.std.proofs.Common.{◌≡◌, rules, true, Some, None, cond, refl, ap, sym, ◌∙◌, subst, map}
use Rattle.row.specs.Cells.{datum_of}
use Rattle.packet.specs.Codes.{mark_in}
use Rattle.packet.specs.Readers.{Reader}
use Rattle.packet.specs.Lines.{AreOf, entries_of, plan_of}
use Rattle.packet.specs.Truth.{IsTrueStage}
use Rattle.plan.specs.Layouts.{ViewLayout}
use Rattle.stage_steps.specs.Told.{evicts_at, is_told, names_in, told}
use Rattle.stage_steps.proofs.Readers.{told_is}
use Rattle.stage_steps.proofs.Lines.{plan_is, same_packet}
use Rattle.stage_steps.proofs.packets.packet_to.Goals as goal

pub new-requires-clause-of : goal.new-requires-clause-of
new-requires-clause-of g c =
    subst (λ l. AreOf (plan_of l) l) (sym c.in_ok-try_clone.ensures) (subst (λ p. AreOf p c.args.news.now.to.now) (sym (plan_is c.args.news.now.plan.now c.args.news.now.to.now c.keeps_profile.ensures c.requires.of)) c.requires.of)

pub new-requires-clause-truth : goal.new-requires-clause-truth
new-requires-clause-truth g c =
    let n = c.args.news.now in
    let r : Reader = record { view = c.args.reader.view; shard = c.args.reader.shard } in
    let keyed = told_is n.plan.now c.args.reader.view c.args.reader.shard c.key_place-column.result c.shards-shards.result n.records.now c.in_ok-keyed_for.field-0.items (map datum_of c.deref-2.result.now) (evicts_at n.plan.now (names_in n.names.now) r)
    c.in_ok-keyed_for.ensures c.key_place-column.ensures (c.shards-shards.ensures ∙ ap (λ (v : ViewLayout). v.shards) c.view.ensures) (ap (map datum_of) c.deref-2.ensures.value ∙ c.in_ok-evicts.ensures) in
    let same = same_packet n.plan.now n.stage c.args.reader c.in_ok-lengths.lengths.items n.from.now n.to.now c.in_ok-try_clone.field-0 n.records.now (names_in n.names.now) n.marker
    (record { changes = c.in_ok-keyed_for.field-0; evicts = c.in_ok-evicts.evicts; piece = None; marker = n.marker })
    (plan_is n.plan.now n.to.now c.keeps_profile.ensures c.requires.of) c.in_ok-try_clone.ensures c.in_ok-lengths.ensures c.requires.truth.grows c.in_ok-evicts.ensures keyed refl refl in
    subst IsTrueStage (sym same) c.requires.truth

pub returns : goal.returns
returns g c =
    let n = c.args.news.now in
    let r : Reader = record { view = c.args.reader.view; shard = c.args.reader.shard } in
    let evicts = evicts_at n.plan.now (names_in n.names.now) r in
    let keyed = told_is n.plan.now c.args.reader.view c.args.reader.shard c.key_place-column.result c.shards-shards.result n.records.now c.in_ok-keyed_for.field-0.items (map datum_of c.deref-2.result.now) evicts
    c.in_ok-keyed_for.ensures c.key_place-column.ensures (c.shards-shards.ensures ∙ ap (λ (v : ViewLayout). v.shards) c.view.ensures) (ap (map datum_of) c.deref-2.ensures.value ∙ c.in_ok-evicts.ensures) in
    let same = same_packet n.plan.now n.stage c.args.reader c.in_ok-lengths.lengths.items n.from.now n.to.now c.in_ok-try_clone.field-0 n.records.now (names_in n.names.now) n.marker
    (record { changes = c.in_ok-keyed_for.field-0; evicts = c.in_ok-evicts.evicts; piece = None; marker = n.marker })
    (plan_is n.plan.now n.to.now c.keeps_profile.ensures c.requires.of) c.in_ok-try_clone.ensures c.in_ok-lengths.ensures c.requires.truth.grows c.in_ok-evicts.ensures keyed refl refl in
    let yes : c.is_told.result ≡ true = search rules in
    let is : is_told c.args.each evicts ≡ true = sym (ap (is_told c.args.each) (ap (map datum_of) c.deref.ensures.value ∙ c.in_ok-evicts.ensures)) ∙ (sym c.is_told.ensures ∙ yes) in
    ap Some (c.in_ok-new.ensures ∙ same) ∙ sym (ap (λ b. cond b (Some (told n.plan.now n.stage (entries_of n.from.now) (entries_of n.to.now) n.records.now (names_in n.names.now) (mark_in n.marker) r)) None) is)
