-- Queues of messages, one for each edge, as lists.
use Rattle.std.specs.Prelude.{ℕ, Bool, true, false, List, [], ◌∷◌, ◌++◌, slice_index_or, slice_set}

-- whether a message waits on any edge
abbrev pub holds_any : {X : Type 0} → List (List X) → Bool
holds_any [] = false
holds_any ([] ∷ queues) = holds_any queues
holds_any ((x ∷ xs) ∷ queues) = true

-- a message put last on an edge: the other edges stay
abbrev pub put_on : {X : Type 0} → List (List X) → ℕ → X → List (List X)
put_on queues edge x = slice_set queues edge (slice_index_or queues edge [] ++ x ∷ [])

-- from how many messages on who puts one gives way to the taker
abbrev pub crowd_limit : ℕ
crowd_limit = 4096

-- what stands behind the lock of an inbox: the queues, how many messages were put since these were last taken, and whether they are closed
pub record LineView (X : Type 0) : Type 0 where
  pub queues : List (List X)
  pub waiting : ℕ
  pub closed : Bool
