use Rattle.std.proofs.Common.{◌≡◌, ℕ, replicate, length, ap, sym, ◌∙◌, subst}
use Rattle.plan.specs.Layouts.{Layout}
use Rattle.model.specs.Cuts.{IsWithin}
use Rattle.model.specs.Histories.{Lengths}
use Rattle.model.specs.Places.{sources}
use Rattle.book.specs.Pages.{history_of}
use Rattle.book.proofs.Lines.{zero_within}
use Rattle.book.proofs.cut.Cut.zeros.Given as given
use Rattle.book.proofs.cut.Cut.zeros.Goals as goal

is_zero : (g : given.Over) (c : goal.In_ok-lengths g) → c.in_ok-lengths.lengths ≡ replicate g.J.Naming.plan.stages (replicate (length (sources g.J.Naming.plan)) 0)
is_zero g c =
    c.in_ok-lengths.ensures ∙ (ap (λ (n : ℕ). replicate n c.as_slice.result.now) (c.stages.ensures ∙ ap (λ (p : Layout). p.stages) c.requires.plan)
    ∙ ap (replicate g.J.Naming.plan.stages) (c.as_slice.ensures.value ∙ (c.in_ok-line.ensures ∙ ap (λ (p : Layout). replicate (length (sources p)) 0) c.requires.plan)))

pub invariant_of-result : goal.invariant_of-result
invariant_of-result g c =
    let w = c.whole-seen.ensures in
    let h = history_of c.whole-seen.result.log in
    (w.book, w.log, subst (λ (x : Lengths). IsWithin g.J.Naming.plan h x) (sym (is_zero g c)) (zero_within g.J.Naming.plan h))
