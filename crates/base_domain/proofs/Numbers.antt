-- The least numbers of next writes, with one write more.
use Rattle.std.proofs.Common.{◌≡◌, ℕ, ◌+◌, ◌<◌, ◌==◌, Bool, true, false, cond, List, [], ◌∷◌, ◌++◌, length, length-set, flat_map, slice_index_or, slice_set, refl, ap, sym, ◌∙◌, arith}
use Rattle.std.proofs.lemmas.Bool.Decides.{nat_tests}
use Rattle.std.proofs.lemmas.List.{get_or-set_other, append-nil}
use Rattle.std.proofs.lemmas.Grind.{get_or-set_at, flat_map-append}
use Rattle.model.specs.Histories.{Author, last_or}
use Rattle.protocol.specs.Bases.{next_of, number_after}
use Rattle.base_domain.specs.Domains.{AreNext}

last_one : {A : Type 0} (d x : A) (xs : List A) → last_or d (xs ++ x ∷ []) ≡ x
last_one d x [] = refl
last_one d x (y ∷ ys) = last_one y x ys

-- the next number of a session, with one author more
next_push : (t s m : ℕ) (list : List Author) (c : Bool) → (s == t) ≡ c → next_of t (list ++ record { session = s; number = m } ∷ []) ≡ cond c (m + 1) (next_of t list)
next_push t s m list true is = ap (last_or 0) (flat_map-append (number_after t) list (record { session = s; number = m } ∷ [])) ∙ ap (λ c. last_or 0 (flat_map (number_after t) list ++ (cond c ((m + 1) ∷ []) [] ++ []))) is ∙ last_one 0 (m + 1) (flat_map (number_after t) list)
next_push t s m list false is = ap (last_or 0) (flat_map-append (number_after t) list (record { session = s; number = m } ∷ [])) ∙ ap (λ c. last_or 0 (flat_map (number_after t) list ++ (cond c ((m + 1) ∷ []) [] ++ []))) is ∙ ap (last_or 0) (append-nil (flat_map (number_after t) list))

pub next_more : (next : List ℕ) (s m : ℕ) (list : List Author) → s < length next → AreNext next list → AreNext (slice_set next s (m + 1)) (list ++ record { session = s; number = m } ∷ [])
next_more next s m list within are t lt = by (s == t) refl
  where
    inside : t < length next
    inside = let n = length-set next s (m + 1) in omega (arith, n, lt)

    by : (c : Bool) → (s == t) ≡ c → slice_index_or (slice_set next s (m + 1)) t 0 ≡ next_of t (list ++ record { session = s; number = m } ∷ [])
    by true is = let same : t ≡ s = grind (arith, nat_tests) in get_or-set_at next s t (m + 1) 0 same within ∙ sym (next_push t s m list true is)
    by false is = let other : ¬ (t ≡ s) = λ (e : t ≡ s). absurd (grind (arith, nat_tests)) in get_or-set_other next s t (m + 1) 0 other ∙ are t inside ∙ sym (next_push t s m list false is)
