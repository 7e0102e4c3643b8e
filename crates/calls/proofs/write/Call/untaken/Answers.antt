use Rattle.std.proofs.Common.{sym, ◌∙◌, inr}
use Rattle.model.specs.Entries.{change_of}
use Rattle.calls.proofs.Answered.{adopted_decides, decided}
use Rattle.calls.proofs.write.Call.untaken.Goals as goal

pub adopt-requires-clause-other : goal.adopt-requires-clause-other
adopt-requires-clause-other g c =
    let shown = sym c.into_parts-shown.ensures.front ∙ c.in-Some.is in
    (decided g.J.Naming.plan c.args.answer c.args.refused c.in-Some.shown c.requires.refused shown
    (λ e. let h = rw e at c.if-eq.ensures in absurd (cc h))
    (λ e. let h = rw e at c.if-eq-2.ensures in absurd (cc h))
    c.into_parts-shown.ensures.answer).all

pub returns-clause-untaken : goal.returns-clause-untaken
returns-clause-untaken g c =
    let shown = sym c.into_parts-shown.ensures.front ∙ c.in-Some.is in
    let d = decided g.J.Naming.plan c.args.answer c.args.refused c.in-Some.shown c.requires.refused shown
    (λ e. let h = rw e at c.if-eq.ensures in absurd (cc h))
    (λ e. let h = rw e at c.if-eq-2.ensures in absurd (cc h))
    c.into_parts-shown.ensures.answer in
    let grown = rw c.again-2.ensures at c.in_ok-seen.ensures.seen.0 in
    let same = sym c.base.ensures.base ∙ c.if-base-self.false in
    inr (adopted_decides g.J.Naming.plan c.args.seen.now c.args.front.now.seen c.in_ok-seen.seen c.args.answer c.in-Some.shown c.args.self.session c.args.self.number c.args.self.base (change_of c.args.entry.now) c.args.refused c.requires.own same d c.requires.seen grown c.in_ok-seen.ensures.told)
