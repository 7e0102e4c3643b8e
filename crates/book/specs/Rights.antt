-- What a book hands out, once.
use Rattle.std.specs.Prelude.{◌≡◌, ℕ, ◌+◌, List, [], ◌∷◌, map}
use Rattle.std.specs.List.{range_with_len}
use Rattle.model.specs.Histories.{floor_at}
use Rattle.book.specs.Fronts.{FrontView}
use Rattle.book.specs.Sessions.{SessionView}

-- the empty front of a base shard, with nothing seen
abbrev pub empty_front : ℕ → FrontView
empty_front b = record { base = b; len = 0; seen = [] }

-- one for each of so many base shards, in order
abbrev pub empty_fronts : ℕ → List FrontView
empty_fronts n = map empty_front (range_with_len 0 n)

-- the session has this number, has answered nothing, and has seen nothing
pub record IsFresh (s : ℕ) (x : SessionView) : Type 0 where
  pub session : x.session ≡ s
  pub answered : x.answered ≡ 0
  pub seen : x.seen ≡ []
  pub floors : (v j : ℕ) → floor_at x.floors v j ≡ []

-- they are the sessions from s on, in order
abbrev pub AreFresh : ℕ → List SessionView → Type 0
AreFresh s [] = Unit {0}
AreFresh s (x ∷ xs) = IsFresh s x × AreFresh (s + 1) xs
