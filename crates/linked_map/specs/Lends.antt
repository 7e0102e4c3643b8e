-- What a map ends as, once a reference into it has ended.
use Rattle.std.specs.Prelude.{Bool, List, Option}
use Rattle.std.specs.Borrow.{Fml, RattleType, MutBor, LendsIf}
use Rattle.std.specs.HashMap.Lent.{HashMembers}
use Rattle.std.specs.Map.{set_value}
use Rattle.linked_map.specs.contracts.map.LinkedMap.{the_row}

module _ (K V : RattleType) (key : HashMembers K.Denot) (m : MutBor (List (K.Denot × V.Denot))) where
  -- it has the last value written through r at the key that passes the test, and at `None` it stays as it is
  abbrev pub lends_value : (K.Denot → Bool) → Option (MutBor V.Denot) → Fml
  lends_value test r = LendsIf (the_row K V (record { eq = key.eq }) (record { hash_input = key.hash_input })) V m r (set_value test m.now) m.now
