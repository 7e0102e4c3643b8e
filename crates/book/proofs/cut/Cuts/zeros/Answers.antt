use Rattle.std.proofs.Common.{◌≡◌, replicate, length, ap, sym, ◌∙◌, subst}
use Rattle.plan.specs.Layouts.{Layout}
use Rattle.model.specs.Histories.{Floors}
use Rattle.model.specs.Places.{sources}
use Rattle.model.specs.Tables.{even_floors}
use Rattle.book.specs.Pages.{history_of}
use Rattle.book.specs.Sessions.{AreWithin}
use Rattle.book.proofs.Lines.{zeros_within}
use Rattle.book.proofs.cut.Cuts.zeros.Given as given
use Rattle.book.proofs.cut.Cuts.zeros.Goals as goal

are_zeros : (g : given.Over) (c : goal.In_ok-floors g) → c.in_ok-floors.floors ≡ even_floors g.J.Naming.plan (replicate (length (sources g.J.Naming.plan)) 0)
are_zeros g c = c.in_ok-floors.ensures ∙ (ap (λ (p : Layout). even_floors p c.as_slice.result.now) c.requires.plan ∙ ap (even_floors g.J.Naming.plan) (c.as_slice.ensures.value ∙ (c.in_ok-line.ensures ∙ ap (λ (p : Layout). replicate (length (sources p)) 0) c.requires.plan)))

pub invariant_of-result : goal.invariant_of-result
invariant_of-result g c =
    let w = c.whole-seen.ensures in
    let h = history_of c.whole-seen.result.log in
    (w.book, w.log, subst (λ (x : Floors). AreWithin g.J.Naming.plan (record { floors = x; seen = h })) (sym (are_zeros g c)) (zeros_within g.J.Naming.plan h))
