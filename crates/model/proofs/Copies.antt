-- Lines overwritten by others that are as long, and one number set where the lines lie in the value itself.
use Rattle.std.proofs.Common.{◌≡◌, ℕ, zero, suc, ◌+◌, ◌<◌, ◌≤◌, List, [], ◌∷◌, ◌++◌, length, map, take, drop, get_or, slice_index_or, slice_set, refl, ap, sym, ◌∙◌, arith, add-one}
use Rattle.std.proofs.lemmas.List.{get_or-map, length-map, length-take, set-set, get_or-set_same, take_more, take_more_set}
use Rattle.std.proofs.Math.Seq.{map-set_same}
use Rattle.model.specs.Lines.{first_lines}
use Rattle.model.specs.Tables.{with_length}

-- the first numbers of one list, and then the others of another
abbrev pub mixed : ℕ → List ℕ → List ℕ → List ℕ
mixed i new old = take i new ++ drop i old

-- one more number of the new ones
mixed_suc : (i : ℕ) (new old : List ℕ) → length old ≡ length new → i < length new → slice_set (mixed i new old) i (get_or new i 0) ≡ mixed (suc i) new old
mixed_suc i [] old same lt = absurd (omega arith)
mixed_suc i (x ∷ new) [] same lt = absurd (omega arith)
mixed_suc zero (x ∷ new) (y ∷ old) same lt = refl
mixed_suc (suc i) (x ∷ new) (y ∷ old) same lt = ap (λ l. x ∷ l) (mixed_suc i new old (omega arith) (omega arith))

-- ---- the lines with some numbers of a line overwritten
module _ (lines : List (List ℕ)) (s : ℕ) (new : List ℕ) (lt : s < length lines) (same : length (slice_index_or lines s []) ≡ length new) where
  abbrev pub so_far : ℕ → List (List ℕ)
  so_far i = slice_set lines s (mixed i new (slice_index_or lines s []))

  so_far_line : (i : ℕ) → slice_index_or (so_far i) s [] ≡ mixed i new (slice_index_or lines s [])
  so_far_line i = get_or-set_same lines s (mixed i new (slice_index_or lines s [])) [] lt

  -- and with one more
  pub so_far_more : (i : ℕ) → i < length new → with_length (so_far i) s i (get_or new i 0) ≡ so_far (i + 1)
  so_far_more i more = ap (λ l. slice_set (so_far i) s (slice_set l i (get_or new i 0))) (so_far_line i)
      ∙ (set-set lines s (mixed i new (slice_index_or lines s [])) (slice_set (mixed i new (slice_index_or lines s [])) i (get_or new i 0))
      ∙ ap (slice_set lines s) (mixed_suc i new (slice_index_or lines s []) same more ∙ ap (λ n. mixed n new (slice_index_or lines s [])) (sym (add-one i))))

-- ---- the next line overwritten
module _ (lines other : List (List ℕ)) (i : ℕ) (line : List ℕ) (given : line ≡ slice_index_or other i []) (shape : map length lines ≡ map length other) (lt : i < length other) where
  in_lines : i < length lines
  in_lines = omega (arith, lt, length-map lines length, ap length shape, length-map other length)

  -- it has room for the other's
  pub as_long : length (slice_index_or lines i []) ≡ length line
  as_long = sym (get_or-map length lines i [] 0 in_lines) ∙ (ap (λ (ns : List ℕ). slice_index_or ns i 0) shape ∙ (get_or-map length other i [] 0 lt ∙ ap length (sym given)))

  -- then one line more is the other's
  pub one_more : take i lines ≡ take i other → take (i + 1) (slice_set lines i line) ≡ take (i + 1) other
  one_more done = take_more_set lines i line in_lines ∙ ((λ k. done k ++ given k ∷ []) ∙ sym (take_more other i [] lt))

  -- and the lines after it are as long as before
  pub still_as_long : map length (slice_set lines i line) ≡ map length other
  still_as_long = map-set_same length lines i line [] (sym as_long) ∙ shape

-- ---- one number of a line set
take_set_in : {A : Type 0} (n : ℕ) (l : List A) (i : ℕ) (x : A) → take n (slice_set l i x) ≡ slice_set (take n l) i x
take_set_in zero l i x = refl
take_set_in (suc n) [] i x = refl
take_set_in (suc n) (y ∷ l) zero x = refl
take_set_in (suc n) (y ∷ l) (suc i) x = ap (λ k. y ∷ k) (take_set_in n l i x)

module _ (n first second : ℕ) (firsts seconds : List ℕ) where
  abbrev lines_here : List (List ℕ)
  lines_here = first_lines n first second firsts seconds

  -- of the first line
  pub first_set : (s i x : ℕ) → s ≡ 0 → s < length lines_here → first_lines n first second (slice_set firsts i x) seconds ≡ with_length lines_here s i x
  first_set s i x is lt = rw is (at_first n (rw is at lt))
    where
      at_first : (n : ℕ) → 0 < length (first_lines n first second firsts seconds) → first_lines n first second (slice_set firsts i x) seconds ≡ with_length (first_lines n first second firsts seconds) 0 i x
      at_first zero lt = absurd (omega arith)
      at_first (suc n) lt = ap (λ l. l ∷ take n (take second seconds ∷ [])) (take_set_in first firsts i x)

  -- of the second
  pub second_set : (s i x : ℕ) → (s ≡ 0 → ⊥) → n ≤ 2 → s < length lines_here → first_lines n first second firsts (slice_set seconds i x) ≡ with_length lines_here s i x
  second_set zero i x not le lt = absurd (not refl)
  second_set (suc zero) i x not le lt = at_second n lt
    where
      at_second : (n : ℕ) → 1 < length (first_lines n first second firsts seconds) → first_lines n first second firsts (slice_set seconds i x) ≡ with_length (first_lines n first second firsts seconds) 1 i x
      at_second zero lt = absurd (omega arith)
      at_second (suc zero) lt = absurd (omega arith)
      at_second (suc (suc n)) lt = ap (λ l. take first firsts ∷ l ∷ take n []) (take_set_in second seconds i x)
  second_set (suc (suc s)) i x not le lt = absurd (omega (arith, lt, length-take n (take first firsts ∷ take second seconds ∷ [])))
