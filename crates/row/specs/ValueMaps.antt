-- A map from values, of which whole numbers below 2^32 stand apart.
use Rattle.std.specs.Prelude.{◌≡◌, ℕ, ◌^◌, pos, negsuc, nat_eq, nat_lt, true, cond, min, List, ◌++◌, map, All, Option, Some, None, IsSome, ⊤}
use Rattle.std.specs.HashMap.{HashMap, IsUnique, get, keys, spare}
use Rattle.std.specs.Map.{set_value}
use Rattle.std_collections.specs.Layout.HashMap.{hash_map}
use Rattle.row.specs.Cells.{Datum, int, text, datum_of}
use Rattle.row.specs.Groups.{equal}
use Rattle.row.specs.declared.value.Value.{Value}
use Rattle.row.specs.declared.value.Value.TheVariants.{Int}

-- the number that it is, if it is a whole number below 2^32
abbrev pub small_in : Datum → Option ℕ
small_in (int (pos n)) = cond (nat_lt n (2 ^ 32)) (Some n) None
small_in (int (negsuc n)) = None
small_in (text t) = None

-- what is kept as the key: a whole number below 2^32 as such
abbrev pub key_or : Option ℕ → Value → Value
key_or (Some n) key = Int (pos n)
key_or None key = key

abbrev pub kept_key : Value → Value
kept_key key = key_or (small_in (datum_of key)) key

module _ {X : Type 0} where
  -- the entries of both, with values as their keys
  abbrev pub both : List (ℕ × X) → List (Value × X) → List (Value × X)
  both ns os = map (λ e. (Int (pos e.0), e.1)) ns ++ os

  -- both as one map, which has room where both have
  abbrev pub whole : {S T : Type 0} → HashMap ℕ X S → HashMap Value X T → HashMap Value X ⊤
  whole numbers others = hash_map (both numbers.entries others.entries) tt (min (spare numbers) (spare others))

  -- whole numbers below 2^32 and what is none, no two of them the same
  pub record IsParted {S T : Type 0} (numbers : HashMap ℕ X S) (others : HashMap Value X T) : Type 0 where
    pub small : All (λ n. nat_lt n (2 ^ 32) ≡ true) (keys numbers)
    pub apart : All (λ v. small_in (datum_of v) ≡ None) (keys others)
    pub numbers_unique : IsUnique nat_eq numbers
    pub others_unique : IsUnique equal others

  -- the key has w in the place of what it had
  pub record Writes {S : Type 0} (old : HashMap Value X S) (key : Value) (w : X) (new : HashMap Value X S) : Type 0 where
    pub entries : new.entries ≡ set_value (equal key) old.entries w
    pub updates : IsSome (get equal old key) → (k : Value) → get equal new k ≡ cond (equal key k) (Some w) (get equal old k)
    pub unique : IsUnique equal new
    pub room : spare new ≡ spare old
