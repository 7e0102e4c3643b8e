-- A loop over the items of a list, up to the first that has a fault.
use Rattle.std.proofs.Common.{ℕ, List, ◌++◌, drop, Result, Ok}
use Rattle.toml.specs.Data.{Data}
use Rattle.toml.specs.View.{items_view}
use Rattle.toml.specs.declared.value.Value.{Value}
use Rattle.document.specs.Fields.{◌>>=◌, each}

-- what was read before, and what is still read
abbrev pub with_front : {X : Type 0} → List X → Result (List X) ℕ → Result (List X) ℕ
with_front front r = r >>= λ xs. Ok (front ++ xs)

-- the items from the place on
abbrev pub from_place : {X : Type 0} → (Data → Result X ℕ) → List X → List Value → ℕ → Result (List X) ℕ
from_place read front vs i = with_front front (each read (items_view (drop i vs)))
