-- Rows in order in pieces, and the piece in which the place of a row is.
use Rattle.std.specs.Prelude.{◌≡◌, ℕ, ◌+◌, ◌<◌, Bool, true, false, List, [], ◌∷◌, length, take, slice_index_or, if◌then◌else◌}
use Rattle.std.specs.declared.cmp.Ordering.{Ordering}
use Rattle.std.specs.Ordering.{is_gt}
use Rattle.row.specs.Bags.{Each, joined}

module _ {X : Type 0} (cmp : X → X → Ordering) where
  -- whether the row or one that is above it is there
  abbrev pub has_reached : X → List X → Bool
  has_reached x [] = false
  has_reached x (y ∷ ys) = if is_gt (cmp x y) then has_reached x ys else true

  -- all rows of the pieces before are below the row, and the piece has reached it or is the last
  pub record IsPieceOf (x : X) (pieces : List (List X)) (at : ℕ) : Type 0 where
    pub before : Each (λ y. is_gt (cmp x y) ≡ true) (joined (take at pieces))
    pub here : at + 1 < length pieces → has_reached x (slice_index_or pieces at []) ≡ true
