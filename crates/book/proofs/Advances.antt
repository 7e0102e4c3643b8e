-- A cut after one of its lengths was set.
use Rattle.std.proofs.Common.{◌≡◌, ℕ, ◌<◌, ◌≤◌, List, length, take, ap, sym, ◌∙◌, subst}
use mathlib.Core.List.{IsPrefix}
use Rattle.plan.specs.Layouts.{Layout}
use Rattle.model.specs.Places.{sources, source_at}
use Rattle.model.specs.Histories.{Item, Lengths, log_of}
use Rattle.model.specs.Cuts.{fronts_of, IsWithin}
use Rattle.book.specs.Pages.{Page, history_of}
use Rattle.book.specs.Fronts.{IsFront, entries}
use Rattle.model.specs.Tables.{with_length, with_front}
use Rattle.book.proofs.Steps.{rest_of}
use Rattle.model.proofs.Growth.{within_later, fronts_later}
use Rattle.model.proofs.CutLaws.{fronts_set, within_set}
use Rattle.book.proofs.Fronts.{front_at, front_later, entries_later}

pub cut_within : (p : Layout) (v o w : List Page) (cut : Lengths) (s j b n : ℕ) → IsWithin p (history_of v) cut → IsFront p (front_at b n o) → s < p.stages → j < length (sources p) → source_at p j ≡ b → IsPrefix v w → IsPrefix o w → IsWithin p (history_of w) (with_length cut s j n)
cut_within p v o w cut s j b n c f ls lj is vw ow =
    let r = rest_of v w vw in
    let g = front_later p o w b n f ow in
    within_set p (history_of w) cut s j n (subst (λ (h : List Item). IsWithin p h cut) (sym r.1) (within_later p (history_of v) r.0 cut c)) ls lj (subst (λ (x : ℕ). n ≤ length (log_of x (history_of w))) (sym is) g.len)

pub cut_fronts : (p : Layout) (v o w : List Page) (cut : Lengths) (s j b n : ℕ) → IsWithin p (history_of v) cut → IsFront p (front_at b n o) → j < length (sources p) → source_at p j ≡ b → IsPrefix v w → IsPrefix o w
    → fronts_of p (history_of w) (with_length cut s j n) ≡ with_front (fronts_of p (history_of v) cut) s j (entries (front_at b n o))
cut_fronts p v o w cut s j b n c f lj is vw ow =
    let r = rest_of v w vw in
    let all : fronts_of p (history_of w) cut ≡ fronts_of p (history_of v) cut = ap (λ h. fronts_of p h cut) r.1 ∙ fronts_later p (history_of v) r.0 cut c.lengths in
    let one : take n (log_of (source_at p j) (history_of w)) ≡ take n (log_of b (history_of o)) = ap (λ x. take n (log_of x (history_of w))) is ∙ entries_later p o w b n f ow in
    fronts_set p (history_of w) cut s j n lj ∙ (ap (λ fs. with_front fs s j (take n (log_of (source_at p j) (history_of w)))) all ∙ ap (with_front (fronts_of p (history_of v) cut) s j) one)
