-- A message that has been taken off its queue.
use Rattle.std.specs.Prelude.{◌≡◌, ℕ, List, [], ◌∷◌, slice_index_or, slice_set}
use Rattle.protocol.specs.Edges.{queue, with_queue}

-- x was the first on the queue from sender i, and is off it
pub record IsTakenFrom {X : Type 0} (old : List (List X)) (i : ℕ) (x : X) (new : List (List X)) : Type 0 where
  pub rest : List X
  pub was : slice_index_or old i [] ≡ x ∷ rest
  pub is : new ≡ slice_set old i rest

-- x was the first on the queue of receiver r from sender i, and is off it
pub record IsTaken {X : Type 0} (old : List (List (List X))) (r i : ℕ) (x : X) (new : List (List (List X))) : Type 0 where
  pub rest : List X
  pub was : queue old r i ≡ x ∷ rest
  pub is : new ≡ with_queue old r i rest
