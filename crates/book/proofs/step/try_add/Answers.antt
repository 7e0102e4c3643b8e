use Rattle.std.proofs.Common.{ap, rules, sym, ◌∙◌}
use Rattle.book.proofs.Steps.{ask_moves, told_yes, told_no}
use mathlib.Core.List.{IsPrefix}
use Rattle.book.specs.Pages.{IsTry}
use Rattle.book.proofs.step.try_add.Goals as goal

pub compare_exchange-found-requires : goal.compare_exchange-found-requires
compare_exchange-found-requires g c =
    let w = c.word.ensures in
    let i = c.requires in
    let offer = c.plain-offer.ensures in
    let pen = c.no_pen-pen.ensures in (
      ap (λ x. x.tracked) w,
      i.book ∙ sym (ap (λ x. x.book) w),
      pen.0 ∙ (i.book ∙ sym (ap (λ x. x.book) w)),
      offer.0,
      rw (ap (λ x. x.key) w, pen.1, offer.1, offer.3, i.fresh) (ask_moves g.J.Naming.plan g.J.Naming.sessions c.args.seen.now.log c.args.key c.args.old _ i.of i.ask),
    )

pub returns-then-found-old-clause-done : goal.returns-then-found-old-clause-done
returns-then-found-old-clause-done g c =
    let t : IsTry g.J.Naming.plan g.J.Naming.sessions c.args.key c.args.old (g.M.Plain.ask c.args.asked.now) c.compare_exchange-found.result c.args.seen.now.log c.compare_exchange-found.new.seen.log = search rules in
    told_yes _ _ _ _ _ _ _ _ t c.if-found-old.true

pub returns-clause-moved : goal.returns-clause-moved
returns-clause-moved g c =
    let t : IsTry g.J.Naming.plan g.J.Naming.sessions c.args.key c.args.old (g.M.Plain.ask c.args.asked.now) c.compare_exchange-found.result c.args.seen.now.log c.compare_exchange-found.new.seen.log = search rules in
    let grown : IsPrefix c.args.seen.now.log c.compare_exchange-found.new.seen.log = search rules in
    told_no _ _ _ _ _ _ c.args.seen.now.log c.compare_exchange-found.new.seen.log t c.requires.ask grown c.if-found-old.false
