-- The least numbers that next writes of sessions may have are above those of a log.
use Rattle.std.proofs.Common.{◌≡◌, ℕ, ◌+◌, ◌<◌, ◌≤◌, ◌==◌, Bool, true, false, List, [], ◌∷◌, ◌++◌, length, slice_index_or, slice_set, refl, ap, arith}
use Rattle.std.proofs.lemmas.Bool.Decides.{nat_tests}
use Rattle.std.proofs.lemmas.List.{get_or-set_other}
use Rattle.std.proofs.lemmas.Grind.{get_or-set_at}
use Rattle.row.specs.Bags.{Each}
use Rattle.row.proofs.BagLemmas.{Each-weaker}
use Rattle.model.specs.Histories.{Author, IsBelow}
use Rattle.model.proofs.Lists.{each_push}

below_of : (next : List ℕ) (s m : ℕ) → slice_index_or next s 0 ≤ m → (a : Author) → IsBelow next a → a.session ≡ s → a.number < m
below_of next s m low a below is = let same : slice_index_or next a.session 0 ≡ slice_index_or next s 0 = ap (λ x. slice_index_or next x 0) is in omega (arith, below, same, low)

-- no author has the number of a write that may come next
pub absent : (next : List ℕ) (s m : ℕ) (list : List Author) → Each (IsBelow next) list → slice_index_or next s 0 ≤ m → Each (λ (a : Author). a.session ≡ s → a.number < m) list
absent next s m list each low = Each-weaker (IsBelow next) (λ (a : Author). a.session ≡ s → a.number < m) (below_of next s m low) list each

raised : (next : List ℕ) (s m : ℕ) (a : Author) → s < length next → slice_index_or next s 0 ≤ m → IsBelow next a → (t : Bool) → (a.session == s) ≡ t → IsBelow (slice_set next s (m + 1)) a
raised next s m a within low below true is =
    let same : a.session ≡ s = grind (arith, nat_tests) in
    let e : slice_index_or (slice_set next s (m + 1)) a.session 0 ≡ m + 1 = get_or-set_at next s a.session (m + 1) 0 same within in
    let f : slice_index_or next a.session 0 ≡ slice_index_or next s 0 = ap (λ x. slice_index_or next x 0) same in
    rw e (omega (arith, below, f, low))
raised next s m a within low below false is =
    let other : ¬ (a.session ≡ s) = λ (e : a.session ≡ s). absurd (grind (arith, nat_tests)) in
    rw (get_or-set_other next s a.session (m + 1) 0 other) below

pub below_next : (next : List ℕ) (s m : ℕ) (list : List Author) → s < length next → slice_index_or next s 0 ≤ m → Each (IsBelow next) list → Each (IsBelow (slice_set next s (m + 1))) (list ++ record { session = s; number = m } ∷ [])
below_next next s m list within low each =
    let e : slice_index_or (slice_set next s (m + 1)) s 0 ≡ m + 1 = get_or-set_at next s s (m + 1) 0 refl within in
    each_push (IsBelow (slice_set next s (m + 1))) list (record { session = s; number = m })
    (Each-weaker (IsBelow next) (IsBelow (slice_set next s (m + 1))) (λ a below. raised next s m a within low below (a.session == s) refl) list each)
    (omega (arith, e))
