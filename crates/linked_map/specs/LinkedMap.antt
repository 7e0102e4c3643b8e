-- What a contract sees of a `LinkedMap`: its entries, the latest first.
use Rattle.std.specs.Prelude.{◌-◌, Bool, List, ◌∷◌, length, slice_get, Option}
use Rattle.std.specs.Option.{option_map_or}
use Rattle.std.specs.Map.{lookup_entry, remove_entry}

module _ {K V : Type 0} where
  -- after `put`: a key that is there stays with the new value, and the entry goes first
  abbrev pub put_entries : (K → K → Bool) → List (K × V) → K → V → List (K × V)
  put_entries eq es k v = option_map_or (λ e. (e.0, v) ∷ remove_entry (eq k) es) (lookup_entry (eq k) es) ((k, v) ∷ es)

  -- the oldest entry
  abbrev pub last_entry : List (K × V) → Option (K × V)
  last_entry es = slice_get es (length es - 1)
