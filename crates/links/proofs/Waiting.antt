-- Edges on which no message waits.
use Rattle.std.proofs.Common.{◌≡◌, ℕ, zero, suc, ◌+◌, ◌<◌, ◌≤◌, false, List, [], ◌∷◌, Option, Some, None, IfSome, drop, length, slice_get, slice_set, slice_index_or, refl, sym, ◌∙◌, subst, arith}
use borrow.Author.Count.{below_more}
use Rattle.links.specs.Queued.{holds_any}
use Rattle.links.specs.Turns.{IsFirst}

module _ {X : Type 0} where
  -- from the one edge to the other none has a message
  pub record AreEmpty (queues : List (List X)) (from to : ℕ) : Type 0 where
    pub each : (i : ℕ) → i < to → from ≤ i → length (slice_index_or queues i []) ≡ 0

  pub none_from : (queues : List (List X)) (i : ℕ) → AreEmpty queues i i
  none_from queues i = record { each = λ k lt le. absurd (omega (arith, le, lt)) }

  pub one_more : (queues : List (List X)) (from i n : ℕ) → AreEmpty queues from i → n ≡ length (slice_index_or queues i []) → (0 < n → ⊥) → AreEmpty queues from (i + 1)
  one_more queues from i n before count not = record { each = below_more (λ k. from ≤ k → length (slice_index_or queues k []) ≡ 0) i before.each (λ le. sym count ∙ none n not) }
    where
      none : (n : ℕ) → (0 < n → ⊥) → n ≡ 0
      none zero not = refl
      none (suc n) not = absurd (not (omega arith))

  pub all_empty : (queues : List (List X)) → AreEmpty queues 0 (length queues) → holds_any queues ≡ false
  all_empty [] h = refl
  all_empty ([] ∷ queues) h = all_empty queues (record { each = λ i lt le. h.each (suc i) (omega (arith, lt)) (omega arith) })
  all_empty ((x ∷ xs) ∷ queues) h = let none : suc (length xs) ≡ 0 = h.each 0 (omega arith) (omega arith) in absurd (omega (arith, none))

  pub all_from : (queues : List (List X)) (from to : ℕ) → AreEmpty queues from to → length queues ≤ to → from ≡ 0 → holds_any queues ≡ false
  all_from queues from to h le first = all_empty queues (record { each = λ i lt least. h.each i (omega (arith, lt, le)) (omega (arith, first)) })

  -- what is taken off an edge
  pub first_of : (old taken now : List (List X)) (i : ℕ) (r : Option X) → taken ≡ old → r ≡ slice_get (slice_index_or taken i []) 0 → now ≡ slice_set taken i (drop 1 (slice_index_or taken i [])) → IfSome r (λ m. IsFirst old m now)
  first_of old taken now i None same is rest = tt
  first_of old taken now i (Some m) same is rest = subst (λ q. IsFirst q m now) same (record { edge = i; first = sym is; rest = rest })
