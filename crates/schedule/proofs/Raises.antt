-- Floors raised by the acknowledgements of the first view shards.
use Rattle.std.proofs.Common.{◌≡◌, ℕ, zero, suc, ◌+◌, ◌<◌, List, [], ◌∷◌, Option, Some, None, take, length, slice_index_or, slice_set, refl, ap, sym, ◌∙◌, arith}
use Rattle.plan.specs.Layouts.{Layout}
use Rattle.model.specs.Histories.{Lengths}
use Rattle.protocol.specs.WorldSteps.{greatest, raised}

raised_none : (p : Layout) (floors : List Lengths) → raised p floors [] ≡ floors
raised_none p [] = refl
raised_none p (f ∷ floors) = refl

raised_suc : (p : Layout) (floors : List Lengths) (acks : List (Option Lengths)) (n : ℕ) (d : Option Lengths) (cut : Lengths) → n < length acks → slice_index_or acks n d ≡ Some cut
    → slice_set (raised p floors (take n acks)) n (greatest p (slice_index_or (raised p floors (take n acks)) n []) cut) ≡ raised p floors (take (suc n) acks)
raised_suc p floors [] n d cut lt at = absurd (omega (arith, lt))
raised_suc p [] (a ∷ acks) n d cut lt at = refl
raised_suc p (f ∷ floors) (a ∷ acks) zero d cut lt at =
    ap (λ l. greatest p f cut ∷ l) (sym (raised_none p floors)) ∙ ap (λ x. raised p (f ∷ floors) (x ∷ [])) (sym at)
raised_suc p (f ∷ floors) (None ∷ acks) (suc n) d cut lt at = ap (λ l. f ∷ l) (raised_suc p floors acks n d cut (omega (arith, lt)) at)
raised_suc p (f ∷ floors) (Some x ∷ acks) (suc n) d cut lt at = ap (λ l. greatest p f x ∷ l) (raised_suc p floors acks n d cut (omega (arith, lt)) at)

same_suc : (p : Layout) (floors : List Lengths) (acks : List (Option Lengths)) (n : ℕ) (d : Option Lengths) → n < length acks → slice_index_or acks n d ≡ None → raised p floors (take n acks) ≡ raised p floors (take (suc n) acks)
same_suc p floors [] n d lt at = absurd (omega (arith, lt))
same_suc p [] (a ∷ acks) n d lt at = refl
same_suc p (f ∷ floors) (a ∷ acks) zero d lt at = ap (λ l. f ∷ l) (sym (raised_none p floors)) ∙ ap (λ x. raised p (f ∷ floors) (x ∷ [])) (sym at)
same_suc p (f ∷ floors) (None ∷ acks) (suc n) d lt at = ap (λ l. f ∷ l) (same_suc p floors acks n d (omega (arith, lt)) at)
same_suc p (f ∷ floors) (Some x ∷ acks) (suc n) d lt at = ap (λ l. greatest p f x ∷ l) (same_suc p floors acks n d (omega (arith, lt)) at)

one_more : (n : ℕ) → suc n ≡ n + 1
one_more n = omega arith

-- before the first one
pub raised_first : (p : Layout) (floors : List Lengths) (acks : List (Option Lengths)) → floors ≡ raised p floors (take 0 acks)
raised_first p floors acks = sym (raised_none p floors)

-- one view shard more: it has acknowledged, or not
pub raised_more : (p : Layout) (floors now then : List Lengths) (acks : List (Option Lengths)) (n : ℕ) (d : Option Lengths) (cut : Lengths) → n < length acks → slice_index_or acks n d ≡ Some cut
    → now ≡ raised p floors (take n acks) → then ≡ slice_set now n (greatest p (slice_index_or now n []) cut) → then ≡ raised p floors (take (n + 1) acks)
raised_more p floors now then acks n d cut lt at before is =
    is ∙ ap (λ l. slice_set l n (greatest p (slice_index_or l n []) cut)) before ∙ raised_suc p floors acks n d cut lt at ∙ ap (λ k. raised p floors (take k acks)) (one_more n)

pub same_more : (p : Layout) (floors now : List Lengths) (acks : List (Option Lengths)) (n : ℕ) (d : Option Lengths) → n < length acks → slice_index_or acks n d ≡ None → now ≡ raised p floors (take n acks) → now ≡ raised p floors (take (n + 1) acks)
same_more p floors now acks n d lt at before = before ∙ same_suc p floors acks n d lt at ∙ ap (λ k. raised p floors (take k acks)) (one_more n)
