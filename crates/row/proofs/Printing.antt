-- What is written piece by piece is what is to be printed.
use Rattle.std.proofs.Common.{◌/◌, inl, inr, ◌≡◌, ◌≢◌, ℕ, zero, suc, ◌+◌, ◌-◌, ◌≤◌, ◌==◌, ◌||◌, not, Bool, true, false, cond, List, [], ◌∷◌, ◌++◌, length, take, drop, slice_get, Some, None, map, flat_map, refl, ap, sym, ◌∙◌, arith, append_assoc, append-nil}
use Rattle.std.specs.List.{list_all}
use Rattle.std.specs.Fmt.{HasWritten}
use Rattle.std.specs.declared.fmt.Formatter.{Formatter}
use Rattle.std.proofs.Output.{has_written_append, has_written_of_eq}
use Rattle.std.proofs.lemmas.List.{take_all}
use Rattle.std.proofs.lemmas.List.Concat.{flat_map-cons}
use Rattle.std.proofs.lemmas.Str.{encode_ascii}
use Rattle.std.proofs.lemmas.Grind.{common_steps}
use Rattle.std.proofs.lemmas.Bool.{cases_lt}
use lib.Utf8.{encode, next}
use lib.Dec.{ltb}
use Rattle.row.specs.Printed.{is_escaped, escaped, is_bare, joined}

pub is_bare_some : (bs : List ℕ) → length bs ≢ 0 → is_bare bs ≡ list_all (λ c. not (c == 32 || is_escaped c)) bs
is_bare_some [] some = absurd (some refl)
is_bare_some (b ∷ bs) some = refl

pub escaped-append : (xs ys : List ℕ) → escaped (xs ++ ys) ≡ escaped xs ++ escaped ys
escaped-append [] ys = refl
escaped-append (x ∷ xs) ys = step (is_escaped x) (escaped-append xs ys)
  where
    step : (b : Bool) → escaped (xs ++ ys) ≡ escaped xs ++ escaped ys
        → cond b (92 ∷ x ∷ escaped (xs ++ ys)) (x ∷ escaped (xs ++ ys)) ≡ cond b (92 ∷ x ∷ escaped xs) (x ∷ escaped xs) ++ escaped ys
    step true e = rw e refl
    step false e = rw e refl

high_apart : (b : ℕ) → 128 ≤ b → is_escaped b ≡ false
high_apart b high = grind (arith, common_steps)

escaped_past : (b : ℕ) (bs : List ℕ) → 128 ≤ b → escaped (b ∷ bs) ≡ b ∷ escaped bs
escaped_past b bs high = rw (high_apart b high) refl

-- a character past ASCII stands as it is
escaped_wide : (c : ℕ) → 128 ≤ c → escaped (encode c) ≡ encode c
unfolding encode
escaped_wide c high = step (ltb c 128) (ltb c 2048) (ltb c 65536) refl
  where
    step : (x y z : Bool) → ltb c 128 ≡ x
        → escaped (cond x (c ∷ []) (cond y ((192 + c / 64) ∷ next c ∷ []) (cond z ((224 + c / 4096) ∷ next (c / 64) ∷ next c ∷ []) ((240 + c / 262144) ∷ next (c / 4096) ∷ next (c / 64) ∷ next c ∷ []))))
        ≡ cond x (c ∷ []) (cond y ((192 + c / 64) ∷ next c ∷ []) (cond z ((224 + c / 4096) ∷ next (c / 64) ∷ next c ∷ []) ((240 + c / 262144) ∷ next (c / 4096) ∷ next (c / 64) ∷ next c ∷ [])))
    step true y z e = escaped_past c [] high
    step false true z e = rw (escaped_past (192 + c / 64) (next c ∷ []) (omega arith), escaped_past (next c) [] (omega arith)) refl
    step false false true e = rw (escaped_past (224 + c / 4096) (next (c / 64) ∷ next c ∷ []) (omega arith), escaped_past (next (c / 64)) (next c ∷ []) (omega arith), escaped_past (next c) [] (omega arith)) refl
    step false false false e =
        rw (escaped_past (240 + c / 262144) (next (c / 4096) ∷ next (c / 64) ∷ next c ∷ []) (omega arith), escaped_past (next (c / 4096)) (next (c / 64) ∷ next c ∷ []) (omega arith), escaped_past (next (c / 64)) (next c ∷ []) (omega arith), escaped_past (next c) [] (omega arith)) refl

-- a character after a backslash where it takes one
pub escaped_char : (c : ℕ) → escaped (encode c) ≡ cond (is_escaped c) (92 ∷ encode c) (encode c)
escaped_char c = elim (cases_lt c 128) [
  | inl small ↦ rw (encode_ascii c small) refl
  | inr high ↦ rw (high_apart c high) (escaped_wide c high)
]

pub escaped_marked : (c : ℕ) → is_escaped c ≡ true → (92 ∷ []) ++ encode c ≡ escaped (encode c)
escaped_marked c e = rw (escaped_char c, e) refl

pub escaped_bare : (c : ℕ) → is_escaped c ≡ false → encode c ≡ escaped (encode c)
escaped_bare c e = rw (escaped_char c, e) refl

-- a loop's step over the characters of a text, of which rest is left
pub escaped_more : (done rest next bytes : List ℕ) (c : ℕ) → rest ≡ encode c ++ next → done ++ escaped rest ≡ escaped bytes → (done ++ escaped (encode c)) ++ escaped next ≡ escaped bytes
escaped_more done rest next bytes c e h = rw (append_assoc, ← escaped-append (encode c) next, ← e) h

-- and its end
pub escaped_done : (done rest bytes : List ℕ) → length rest ≡ 0 → done ++ escaped rest ≡ escaped bytes → done ≡ escaped bytes
escaped_done done [] bytes none h = sym (append-nil done) ∙ h
escaped_done done (x ∷ rest) bytes none h = absurd (omega arith)

-- the words are the first, and each other after the byte
joined_by_words : {X : Type 0} (byte : ℕ) (f : X → List ℕ) (x : X) (xs : List X) → f x ++ flat_map (λ y. byte ∷ f y) xs ≡ joined byte (map f (x ∷ xs))
joined_by_words byte f x [] = append-nil (f x)
joined_by_words byte f x (y ∷ ys) =
    rw (flat_map-cons (λ y. byte ∷ f y) y ys) (ap (λ t. f x ++ byte ∷ t) (joined_by_words byte f y ys))

-- after a loop that wrote the byte and the word of each x but the first, whose word stood before it
pub joined_written : {W X : Type 0} {took : W → List ℕ → W → Type 0} {start next end : Formatter W} (byte : ℕ) (f : X → List ℕ) (x : X) (xs : List X) (i : ℕ) (words : List (List ℕ)) → map f (x ∷ xs) ≡ words → length xs ≤ i → HasWritten took start (f x) next
    → HasWritten took next (flat_map (λ y. byte ∷ f y) (take i xs)) end → HasWritten took start (joined byte words) end
joined_written byte f x xs i words whole done first rest =
    has_written_of_eq _ _ _ _ _ (joined_by_words byte f x xs ∙ ap (joined byte) whole) (has_written_append _ _ _ _ _ _ first (rw (take_all i xs done) at rest))

-- a row with no first value has none
pub row_empty : {X : Type 0} (row : List X) → slice_get row 0 ≡ None → row ≡ []
row_empty [] h = refl
row_empty (x ∷ row) h = absurd cc

-- behind its first, it has the others
pub row_split : {X : Type 0} (row : List X) (x : X) → slice_get row 0 ≡ Some x → row ≡ x ∷ drop 1 row
row_split [] x h = absurd cc
row_split (y ∷ row) x h = cc

-- a loop's step over the others: the next word after the byte
pub words_more : {X : Type 0} (f : X → List ℕ) (row : List X) (at : ℕ) (x : X) → 1 ≤ at → slice_get row at ≡ Some x → flat_map f (take (at - 1) (drop 1 row)) ++ f x ≡ flat_map f (take (at + 1 - 1) (drop 1 row))
words_more f [] at x h there = absurd cc
words_more f (y ∷ row) zero x h there = absurd (omega arith)
words_more {X = X} f (y ∷ row) (suc at) x h there = let p : suc at - 1 ≡ at = omega arith in let q : suc at + 1 - 1 ≡ suc at = omega arith in rw (p, q) (more row at there)
  where
    more : (row : List X) (at : ℕ) → slice_get row at ≡ Some x → flat_map f (take at row) ++ f x ≡ flat_map f (take (suc at) row)
    more [] at there = absurd cc
    more (y ∷ row) zero there = let is : y ≡ x = cc in rw (is, append-nil (f x)) refl
    more (y ∷ row) (suc at) there = rw (append_assoc (f y) (flat_map f (take at row)) (f x)) (ap (λ t. f y ++ t) (more row at there))
