-- The first line of a text, and the rest.
use Rattle.std.proofs.Common.{◌≡◌, ◌≢◌, ℕ, zero, suc, ◌+◌, ◌-◌, ◌<◌, ◌≤◌, ◌==◌, ◌⊎◌, inl, inr, true, List, [], ◌∷◌, ◌++◌, length, get_or, take, drop, refl, ap, sym, ◌∙◌, arith, add-one}
use Rattle.std.proofs.lemmas.Bool.{cond-true, cond-false, eq-eqb, ne_eqb, cases_eq}
use Rattle.std.specs.List.{list_all}
use Rattle.std.proofs.lemmas.List.{drop_all, take_rest}
use Rattle.script.specs.Scripts.{with_byte, lines_of, ended, is_whole}

at_feed : (b : ℕ) (bs : List ℕ) → b ≡ 10 → lines_of (b ∷ bs) ≡ [] ∷ lines_of bs
at_feed b bs h = cond-true (b == 10) ([] ∷ lines_of bs) (with_byte b (lines_of bs)) (eq-eqb b 10 h)

at_other : (b : ℕ) (bs : List ℕ) → b ≢ 10 → lines_of (b ∷ bs) ≡ with_byte b (lines_of bs)
at_other b bs h = cond-false (b == 10) ([] ∷ lines_of bs) (with_byte b (lines_of bs)) (ne_eqb b 10 h)

cut : (xs : List ℕ) (i : ℕ) → ((k : ℕ) → k < i → get_or xs k 0 ≢ 10) → i < length xs → get_or xs i 0 ≡ 10 → lines_of xs ≡ take i xs ∷ lines_of (drop (suc i) xs)
cut [] i never small feed = absurd (omega arith)
cut (b ∷ bs) zero never small feed = at_feed b bs feed
cut (b ∷ bs) (suc i) never small feed =
    let l : i < length bs = omega arith in
    at_other b bs (never 0 (omega arith)) ∙ ap (with_byte b) (cut bs i (λ k h. never (suc k) (omega arith)) l feed)

-- the line in front of the first line feed, and the lines behind it
pub first_line : (xs : List ℕ) (i : ℕ) → ((k : ℕ) → k < i → get_or xs k 0 ≢ 10) → i < length xs → get_or xs i 0 ≡ 10 → lines_of xs ≡ take i xs ∷ lines_of (take (length xs - (i + 1)) (drop (i + 1) xs))
first_line xs i never small feed = rw (take_rest, add-one) (cut xs i never small feed)

last : (b : ℕ) (bs : List ℕ) → ((k : ℕ) → k < length (b ∷ bs) → get_or (b ∷ bs) k 0 ≢ 10) → lines_of (b ∷ bs) ≡ (b ∷ bs) ∷ []
last b [] never = at_other b [] (never 0 (omega arith))
last b (c ∷ bs) never = at_other b (c ∷ bs) (never 0 (omega arith)) ∙ ap (with_byte b) (last c bs (λ k h. never (suc k) (omega arith)))

-- a text without a line feed is one line
pub last_line : (xs : List ℕ) (i : ℕ) → ((k : ℕ) → k < i → get_or xs k 0 ≢ 10) → length xs ≤ i → 0 < length xs → lines_of xs ≡ xs ∷ lines_of (take (length xs - i) (drop i xs))
last_line [] i never done some = absurd (omega arith)
last_line (b ∷ bs) i never done some = rw (take_rest, drop_all i (b ∷ bs) done) (last b bs (λ k h. never k (omega arith)))

some_line : (b : ℕ) (ls : List (List ℕ)) (xs : List ℕ) → with_byte b ls ≡ [] → xs ≡ []
some_line b [] xs e = cc
some_line b (l ∷ ls) xs e = cc

-- only an empty text has no lines
no_lines : (xs : List ℕ) → lines_of xs ≡ [] → xs ≡ []
no_lines [] e = refl
no_lines (b ∷ bs) e = elim (cases_eq b 10) [
  | inl h ↦ let k = at_feed b bs h in cc
  | inr h ↦ some_line b (lines_of bs) (b ∷ bs) (sym (at_other b bs h) ∙ e)
]

ended_byte : (b : ℕ) (bs : List ℕ) (ls : List (List ℕ)) → lines_of bs ≡ ls → (ended ls ≡ bs) ⊎ (ended ls ≡ bs ++ 10 ∷ []) → (ended (with_byte b ls) ≡ b ∷ bs) ⊎ (ended (with_byte b ls) ≡ (b ∷ bs) ++ 10 ∷ [])
ended_byte b bs [] e h = let k : bs ≡ [] = no_lines bs e in inr (ap (λ x. (b ∷ x) ++ 10 ∷ []) (sym k))
ended_byte b bs (l ∷ ls) e h = elim h [ inl k ↦ inl (ap (λ x. b ∷ x) k) | inr k ↦ inr (ap (λ x. b ∷ x) k) ]

-- a text is its lines, each with its line feed, which the last may lack
pub lines_ended : (text : List ℕ) → (ended (lines_of text) ≡ text) ⊎ (ended (lines_of text) ≡ text ++ 10 ∷ [])
lines_ended [] = inl refl
lines_ended (b ∷ bs) = elim (cases_eq b 10) [
  | inl h ↦
      let e : ended (lines_of (b ∷ bs)) ≡ b ∷ ended (lines_of bs) = ap ended (at_feed b bs h) ∙ ap (λ x. x ∷ ended (lines_of bs)) (sym h) in
      elim (lines_ended bs) [ inl k ↦ inl (e ∙ ap (λ x. b ∷ x) k) | inr k ↦ inr (e ∙ ap (λ x. b ∷ x) k) ]
  | inr h ↦
      let e : ended (lines_of (b ∷ bs)) ≡ ended (with_byte b (lines_of bs)) = ap ended (at_other b bs h) in
      elim (ended_byte b bs (lines_of bs) refl (lines_ended bs)) [ inl k ↦ inl (e ∙ k) | inr k ↦ inr (e ∙ k) ]
]

whole_byte : (b : ℕ) (ls : List (List ℕ)) → b ≢ 10 → list_all is_whole ls ≡ true → list_all is_whole (with_byte b ls) ≡ true
whole_byte b [] h all = rw (ne_eqb b 10 h) refl
whole_byte b (l ∷ ls) h all = rw (ne_eqb b 10 h) all

-- no line has a line feed in it
pub lines_whole : (text : List ℕ) → list_all is_whole (lines_of text) ≡ true
lines_whole [] = refl
lines_whole (b ∷ bs) = elim (cases_eq b 10) [
  | inl h ↦ ap (list_all is_whole) (at_feed b bs h) ∙ lines_whole bs
  | inr h ↦ ap (list_all is_whole) (at_other b bs h) ∙ whole_byte b (lines_of bs) h (lines_whole bs)
]
