use Rattle.std.proofs.Common.{◌≡◌, subst, sym, ◌∙◌, ap, List, true}
use Rattle.std.specs.List.{list_all}
use Rattle.model.specs.Cuts.{IsAtMost}
use Rattle.model.specs.Histories.{Lengths, floor_of}
use Rattle.model.specs.Queries.{Line}
use Rattle.plain.specs.Fitting.{is_line}
use Rattle.model.specs.Items.{history_of}
use Rattle.plain.proofs.LegalFits.{lines_are}
use Rattle.plain.proofs.legal.allows_read.Goals as goal

pub returns-then-not-is_at_most : goal.returns-then-not-is_at_most
returns-then-not-is_at_most c =
    let p = c.args.plan.now in
    let read = c.args.read.now in
    let floor = c.floor_of-floor.ensures ∙ ap (λ j. floor_of p read.session read.view j (history_of c.args.items.now)) c.view_shard-shard.ensures in
    λ a. c.if-not-is_at_most.ensures (subst (λ (f : Lengths). IsAtMost f read.cut) (sym floor) a.floor)

pub answer-requires-clause-lines : goal.answer-requires-clause-lines
answer-requires-clause-lines c =
    let p = c.args.plan.now in
    let h = history_of c.args.items.now in
    let same = c.deref.ensures.value ∙ c.in_ok-lines.ensures in
    subst (λ (fs : List Line). list_all (is_line p) fs ≡ true) (sym same) (lines_are p c.args.sessions h c.keeps_profile.ensures c.requires c.args.read.now.cut)
