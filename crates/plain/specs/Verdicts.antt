-- The verdict of a history: none, or the place of the first item that those before it do not allow.
use Rattle.std.specs.Prelude.{◌≡◌, ℕ, List, take, slice_get, Option, Some, None}
use Rattle.plan.specs.Layouts.{Layout}
use Rattle.model.specs.Histories.{Item}
use Rattle.model.specs.Legal.{Allows, IsLegal}

-- the items before this place are legal and do not allow the one there; so the history is not legal
pub record IsIllegal (p : Layout) (n : ℕ) (h : List Item) (at : ℕ) : Type 0 where
  pub before : IsLegal p n (take at h)
  pub item : Item
  pub stands : slice_get h at ≡ Some item
  pub broken : Allows p n (take at h) item → ⊥
  pub illegal : IsLegal p n h → ⊥

-- the verdict is true
abbrev pub IsVerdict : Layout → ℕ → List Item → Option ℕ → Type 0
IsVerdict p n h None = IsLegal p n h
IsVerdict p n h (Some at) = IsIllegal p n h at
