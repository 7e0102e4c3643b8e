-- How a marker that has come from all leaves those that wait. No public clause cites it.
use Rattle.std.specs.Prelude.{◌≡◌, ℕ, zero, suc, cond, List, [], ◌∷◌, length, slice_index_or}
use Rattle.std.specs.List.{remove}
use Rattle.row.specs.Bags.{Each}
use Rattle.packet.specs.Marks.{Gathering, has_come, IsWaiting}

-- what stands past the end of a list
abbrev pub no_gathering : Gathering
no_gathering = record { mark = record { session = 0; number = 0 }; here = [] }

-- the one at the place goes, where it has come from each sender
abbrev pub left_at : ℕ → List Gathering → List Gathering
left_at i gs = cond (has_come (slice_index_or gs i no_gathering)) (remove gs i) gs

-- all but the one at place i wait, and it has a place for each sender
abbrev pub OthersWait : ℕ → ℕ → List Gathering → Type 0
OthersWait n i [] = ⊥
OthersWait n zero (g ∷ gs) = (length g.here ≡ n) × Each (IsWaiting n) gs
OthersWait n (suc i) (g ∷ gs) = IsWaiting n g × OthersWait n i gs
