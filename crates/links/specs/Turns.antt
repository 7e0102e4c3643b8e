-- The messages that were taken from the inbox of a domain and are not begun.
use Rattle.std.specs.Prelude.{◌≡◌, ℕ, List, [], Some, drop, slice_get, slice_index_or, slice_set}

-- the messages of each edge, in order, the edge that it is at, that of the message that was begun last, and how many turns have begun
pub record TurnsView (T : Type 0) : Type 0 where
  pub waiting : List (List T)
  pub edge : ℕ
  pub begun : ℕ
  pub turn : ℕ

-- the message is the first of an edge, and is taken off it
pub record IsFirst {T : Type 0} (old : List (List T)) (m : T) (new : List (List T)) : Type 0 where
  pub edge : ℕ
  pub first : slice_get (slice_index_or old edge []) 0 ≡ Some m
  pub rest : new ≡ slice_set old edge (drop 1 (slice_index_or old edge []))
