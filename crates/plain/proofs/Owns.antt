-- Places of a session's own writes.
use Rattle.std.proofs.Common.{◌≡◌, ℕ, zero, suc, ◌==◌, ◌<◌, ◌≤◌, Bool, true, false, List, [], ◌∷◌, length, get_or, slice_get, Some, refl, arith, ap, ◌∙◌}
use Rattle.std.proofs.lemmas.Bool.Decides.{nat_tests}
use Rattle.plan.specs.Layouts.{Layout}
use Rattle.model.specs.Histories.{Item, Author, Place, authors_of}
use Rattle.model.specs.Legal.{IsOwn}
use Rattle.plain.specs.Tells.{Tells, IsSource}

get_there : {X : Type 0} (xs : List X) (i : ℕ) (x : X) → i < length xs → x ≡ get_or xs i x → slice_get xs i ≡ Some x
get_there [] i x lt is = absurd (omega arith)
get_there (y ∷ xs) zero x lt is = cc
get_there (y ∷ xs) (suc i) x lt is = get_there xs i x (omega arith) is

get_within : {X : Type 0} (xs : List X) (i : ℕ) (x : X) → slice_get xs i ≡ Some x → i < length xs
get_within [] i x is = absurd cc
get_within (y ∷ xs) zero x is = omega arith
get_within (y ∷ xs) (suc i) x is = let lt = get_within xs i x is in omega arith

-- the author that stands there tells whether the place is the session's own
pub own_tells : (p : Layout) (h : List Item) (s : ℕ) (x : Place) (authors : List Author) (a : Author) (t : ℕ) → IsSource p x.base → authors ≡ authors_of x.base h
    → x.index < length authors → a ≡ get_or authors x.index a → t ≡ a.session → Tells (t == s) (IsOwn p h s x)
own_tells p h s x authors a t src are lt is who = step (t == s) refl
  where
    stands : slice_get (authors_of x.base h) x.index ≡ Some a
    stands = rw (← are) (get_there authors x.index a lt is)

    step : (b : Bool) → (t == s) ≡ b → Tells b (IsOwn p h s x)
    step true e =
        let same : t ≡ s = grind (arith, nat_tests) in
        let mine : a.session ≡ s = cc in
        record { source = src.source; there = src.there; base = src.is; number = a.number; wrote = stands ∙ ap (λ (w : ℕ). Some (record { session = w; number = a.number })) mine }
    step false e = λ own.
        let one : Some a ≡ Some (record { session = s; number = own.number }) = cc (stands, own.wrote) in
        let mine : a.session ≡ s = cc one in
        let same : (t == s) ≡ true = grind (arith, nat_tests) in
        cc

-- past the log's end there is none
pub not_own : (p : Layout) (h : List Item) (s : ℕ) (x : Place) (authors : List Author) → authors ≡ authors_of x.base h → length authors ≤ x.index → IsOwn p h s x → ⊥
not_own p h s x authors are le own = let lt = get_within (authors_of x.base h) x.index _ own.wrote in absurd (omega (arith, ap length are))
