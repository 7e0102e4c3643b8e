-- Up to four rows, one by one.
use Rattle.std.proofs.Common.{◌≡◌, ◌≤◌, ℕ, List, [], ◌∷◌, length, map, take, slice_get, Some, refl, sym, ap, ◌∙◌, subst, arith, rules}
use Rattle.std.proofs.lemmas.List.{length-map, length-take-le}
use Rattle.row.specs.Cells.{Datum}
use Rattle.placed_rows.specs.Here.{cells_at}
use Rattle.placed_rows.specs.declared.in_place.InPlace.{InPlace}
use Rattle.key_rows.specs.Given.{AreGiven, rows_given}
use Rattle.key_rows.specs.declared.answer_rows.Given.{Given}
use Rattle.key_rows.specs.declared.answer_rows.Given.TheVariants as given

module _ {X : Type 0} where
  pub are_one : (xs : List X) (a : X) → length xs ≡ 1 → slice_get xs 0 ≡ Some a → a ∷ [] ≡ xs
  are_one [] a h first = absurd (omega arith)
  are_one (x ∷ []) a h first = search rules
  are_one (x ∷ y ∷ xs) a h first = absurd (omega arith)

  pub are_two : (xs : List X) (a b : X) → length xs ≡ 2 → slice_get xs 0 ≡ Some a → slice_get xs 1 ≡ Some b → a ∷ b ∷ [] ≡ xs
  are_two [] a b h first second = absurd (omega arith)
  are_two (x ∷ xs) a b h first second = let rest = are_one xs b (omega arith) second in search rules

  pub are_three : (xs : List X) (a b c : X) → length xs ≡ 3 → slice_get xs 0 ≡ Some a → slice_get xs 1 ≡ Some b → slice_get xs 2 ≡ Some c → a ∷ b ∷ c ∷ [] ≡ xs
  are_three [] a b c h first second third = absurd (omega arith)
  are_three (x ∷ xs) a b c h first second third = let rest = are_two xs b c (omega arith) second third in search rules

  pub are_four : (xs : List X) (a b c d : X) → length xs ≡ 4 → slice_get xs 0 ≡ Some a → slice_get xs 1 ≡ Some b → slice_get xs 2 ≡ Some c → slice_get xs 3 ≡ Some d
      → a ∷ b ∷ c ∷ d ∷ [] ≡ xs
  are_four [] a b c d h first second third fourth = absurd (omega arith)
  are_four (x ∷ xs) a b c d h first second third fourth = let rest = are_three xs b c d (omega arith) second third fourth in search rules

-- the few that are given
pub given_small : (few : List InPlace) (g : Given) (count : ℕ) → g ≡ given.Few count → AreGiven few g → count ≤ 4
given_small few g count is are = (subst (AreGiven few) is are).1

pub given_length : (few : List InPlace) (g : Given) (rows : List (List Datum)) (count : ℕ) → g ≡ given.Few count → AreGiven few g → rows_given few g ≡ rows → count ≡ length rows
given_length few g rows count is are view =
    let told = subst (AreGiven few) is are in
    sym (ap length (sym view ∙ ap (rows_given few) is) ∙ (length-map (take count few) cells_at ∙ length-take-le count few (omega (arith, told.0, told.1))))
