-- Cuts and floors as tables: the places that they have, and one of them set.
use Rattle.std.specs.Prelude.{◌≡◌, ℕ, ◌<◌, List, [], map, length, replicate, slice_index_or, slice_set, Option, None, Some}
use Rattle.plan.specs.Layouts.{ViewLayout, Layout, view_at}
use Rattle.model.specs.Logs.{Change}
use Rattle.model.specs.Queries.{Line}
use Rattle.model.specs.Histories.{Lengths, Floors, Place as PlaceView}
use Rattle.model.specs.declared.place.Place.{Place}

-- a table of floors has a place for each shard of each view
pub record IsTable (p : Layout) (floors : Floors) : Type 0 where
  pub views : length floors ≡ length p.views
  pub shards : (v : ℕ) → v < length p.views → length (slice_index_or floors v []) ≡ (view_at p v).shards

-- the floors after a read of shard j of view v
abbrev pub with_floor : Floors → ℕ → ℕ → Lengths → Floors
with_floor floors v j cut = slice_set floors v (slice_set (slice_index_or floors v []) j cut)

-- what there is to set a floor to a cut: nothing, only where the floor has as many lengths for each
-- stage shard, or the cut itself
abbrev pub HasRoom : Lengths → Lengths → Option Lengths → Type 0
HasRoom floor cut None = map length floor ≡ map length cut
HasRoom floor cut (Some room) = room ≡ cut

-- one length, and one front, set
abbrev pub with_length : Lengths → ℕ → ℕ → ℕ → Lengths
with_length cut s b n = slice_set cut s (slice_set (slice_index_or cut s []) b n)

abbrev pub with_front : List Line → ℕ → ℕ → List Change → List Line
with_front fs s b es = slice_set fs s (slice_set (slice_index_or fs s []) b es)

-- the same line of lengths for each stage shard, at each shard of each view
abbrev pub even_floors : Layout → List ℕ → Floors
even_floors p line = map (λ (v : ViewLayout). replicate v.shards (replicate p.stages line)) p.views

-- the program's places as those of the definitions
abbrev pub place_of : Place → PlaceView
place_of x = record { base = x.base; index = x.index }

abbrev pub places_of : List Place → List PlaceView
places_of own = map place_of own
