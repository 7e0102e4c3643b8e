-- Edges that are emptied one after the other.
use Rattle.std.proofs.Common.{◌≡◌, ℕ, zero, suc, ◌+◌, ◌<◌, ◌≤◌, List, [], ◌∷◌, length, slice_index_or, slice_set, refl, ap, sym, ◌∙◌, subst, arith}
use borrow.Author.Count.{below_more}
use Rattle.packet.specs.Messages.{none_of}
use Rattle.packet.specs.Outboxes.{EdgeView, packets_on}
use Rattle.packet.proofs.Sends.{none_left}
use Rattle.links.proofs.Waiting.{AreEmpty}

module _ {X : Type 0} where
  set_other : (xss : List (List X)) (i k : ℕ) → k < i → slice_index_or (slice_set xss i []) k [] ≡ slice_index_or xss k []
  set_other [] i k lt = refl
  set_other (xs ∷ xss) zero k lt = absurd (omega (arith, lt))
  set_other (xs ∷ xss) (suc i) zero lt = refl
  set_other (xs ∷ xss) (suc i) (suc k) lt = set_other xss i k (omega (arith, lt))

  set_none : (xss : List (List X)) (i : ℕ) → slice_index_or (slice_set xss i []) i [] ≡ []
  set_none [] i = refl
  set_none (xs ∷ xss) zero = refl
  set_none (xs ∷ xss) (suc i) = set_none xss i

  set_size : (xss : List (List X)) (i : ℕ) → length (slice_set xss i []) ≡ length xss
  set_size [] i = refl
  set_size (xs ∷ xss) zero = refl
  set_size (xs ∷ xss) (suc i) = ap suc (set_size xss i)

  -- one edge more has nothing
  pub one_taken : (old now : List (List X)) (i : ℕ) → AreEmpty old 0 i → now ≡ slice_set old i [] → AreEmpty now 0 (i + 1)
  one_taken old now i before put = subst (λ xss. AreEmpty xss 0 (i + 1)) (sym put) (record {
    each = below_more (λ k. 0 ≤ k → length (slice_index_or (slice_set old i []) k []) ≡ 0) i (λ k lt le. ap length (set_other old i k lt) ∙ before.each k lt le) (λ le. ap length (set_none old i));
  })

  -- none has anything
  pub emptied : (edges : List (EdgeView X)) (n : ℕ) → AreEmpty (packets_on edges) 0 n → length edges ≤ n → packets_on edges ≡ none_of edges
  emptied [] n h le = refl
  emptied (e ∷ es) n h le =
      let first : e.packets ≡ [] = none_left e.packets (h.each 0 (omega (arith, le)) (omega arith)) in
      let rest : packets_on es ≡ none_of es = emptied es (length es) (record { each = λ i lt least. h.each (suc i) (omega (arith, lt, le)) (omega arith) }) (omega arith) in
      rw (first, rest) refl
