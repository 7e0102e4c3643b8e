-- The names of a table's members.
use Rattle.std.proofs.Common.{◌≡◌, ℕ, List, [], ◌∷◌, map, String, BTreeMap, Global, string_bytes, refl, ap, ◌&&◌}
use Rattle.std.specs.List.{list_all}
use Rattle.std.specs.BTreeMap.{keys}
use Rattle.toml.specs.declared.value.Value.{Value}
use Rattle.toml.specs.View.{members_view, table_view}
use Rattle.document.specs.Words.{is_one_of, has_only}

only_entries : (names : List (List ℕ)) (es : List (String Global × Value)) → has_only names (members_view es) ≡ list_all (λ (k : String Global). is_one_of names (string_bytes k)) (map (λ e. e.0) es)
only_entries names [] = refl
only_entries names (e ∷ es) = ap (λ b. is_one_of names (string_bytes e.0) && b) (only_entries names es)

pub only_keys : (names : List (List ℕ)) (m : BTreeMap (String Global) Value) → has_only names (table_view m) ≡ list_all (λ (k : String Global). is_one_of names (string_bytes k)) (keys m)
only_keys names m = only_entries names m.entries
