-- Markers that wait until they have come from all senders.
use Rattle.std.specs.Prelude.{◌≡◌, ℕ, Bool, true, false, not, cond, List, [], ◌∷◌, map, filter, length, replicate, slice_set}
use Rattle.std.specs.List.{list_all}
use Rattle.packet.specs.Messages.{Mark, is_mark}

-- a marker, and for each sender whether it has come from there
pub record Gathering : Type 0 where
  pub mark : Mark
  pub here : List Bool

-- the marker has come from sender j of n, and from no other
abbrev pub first_of : ℕ → ℕ → Mark → Gathering
first_of n j m = record { mark = m; here = slice_set (replicate n false) j true }

-- it has come from sender j too
abbrev pub arrived : ℕ → Gathering → Gathering
arrived j g = record g { here = slice_set g.here j true }

-- the markers that have come, with one more from sender j of n
abbrev pub come : ℕ → ℕ → Mark → List Gathering → List Gathering
come n j m [] = first_of n j m ∷ []
come n j m (g ∷ gs) = cond (is_mark g.mark m) (arrived j g ∷ gs) (g ∷ come n j m gs)

-- it has come from each sender
abbrev pub has_come : Gathering → Bool
has_come g = list_all (λ b. b) g.here

-- the markers that have come from all
abbrev pub complete : List Gathering → List Mark
complete gs = map (λ (g : Gathering). g.mark) (filter has_come gs)

-- those that have not
abbrev pub partly : List Gathering → List Gathering
partly gs = filter (λ g. not (has_come g)) gs

-- how many senders there are, and the markers that have not come from all of them
pub record MarksView : Type 0 where
  pub senders : ℕ
  pub waiting : List Gathering

-- it has not come from all n senders
pub record IsWaiting (n : ℕ) (g : Gathering) : Type 0 where
  pub count : length g.here ≡ n
  pub waits : has_come g ≡ false
