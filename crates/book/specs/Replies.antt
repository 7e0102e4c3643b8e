-- What a session knows from the front of a reply.
use Rattle.std.specs.Prelude.{◌≡◌, ℕ, nat_le, cond, List, ◌∷◌, ◌++◌, length, slice_get, Some}
use Rattle.model.specs.Logs.{Change}
use Rattle.model.specs.Histories.{Item, write, log_of, authors_of}
use Rattle.book.specs.Fronts.{FrontView, entries, authors}

-- the front's log has the entry at a place, and its author is that session, under that number
pub record IsAt (f : FrontView) (k s m : ℕ) (e : Change) : Type 0 where
  pub entry : slice_get (entries f) k ≡ Some e
  pub author : slice_get (authors f) k ≡ Some (record { session = s; number = m })

-- the item stands in the history after all of an earlier part, with so many entries of its log before it
pub record IsAfter (part : List Item) (i : Item) (base index : ℕ) (h : List Item) : Type 0 where
  pub between : List Item
  pub rest : List Item
  pub stands : h ≡ (part ++ between) ++ i ∷ rest
  pub place : length (log_of base (part ++ between)) ≡ index

-- the write whose entry the front's log has at a place stands in the history after all of an earlier part, at that place
abbrev pub IsPlaced : List Item → FrontView → ℕ → List Item → Type 0
IsPlaced part f k h = (s m : ℕ) (e : Change) → IsAt f k s m e → IsAfter part (write s m f.base e) f.base k h

-- the history has the log that the front's has, with the same authors
pub record HasLogOf (f : FrontView) (h : List Item) : Type 0 where
  pub log : log_of f.base h ≡ log_of f.base f.seen
  pub authors : authors_of f.base h ≡ authors_of f.base f.seen

-- the front has all of the log that was seen
abbrev pub IsWhole : FrontView → Type 0
IsWhole f = f.len ≡ length (log_of f.base f.seen)

-- the longer of the two
abbrev pub longer : List Item → List Item → List Item
longer xs ys = cond (nat_le (length xs) (length ys)) ys xs
