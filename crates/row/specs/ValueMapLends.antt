-- What a map from values ends as, once a reference into it has ended. No caller reads it.
use Rattle.std.specs.Prelude.{◌≡◌, Option, ⊤}
use Rattle.std.specs.Borrow.{Fml, RattleType, MutBor, LendsSo}
use Rattle.std.specs.HashMap.{HashMap}
use Rattle.row.specs.ValueMaps.{Writes}
use Rattle.row.specs.declared.value.Value.{Value}
use Rattle.row.specs.contracts.value_map.ValueMap.{the_row}

-- the key has the last value written through r, and at `None` the map stays as it is
abbrev pub lends_get : (V : RattleType) → MutBor (HashMap Value V.Denot ⊤) → Value → Option (MutBor V.Denot) → Fml
lends_get V m key r = LendsSo (the_row V) V m r (λ n w. Writes m.now key w n) (λ n. n ≡ m.now)
