-- How keys stand: which are holes, which wait and for whose pieces, and which are filled. Of their rows their truth tells.
use Rattle.std.specs.Prelude.{◌≡◌, ℕ, Bool, false, not, ◌&&◌, cond, List, [], ◌∷◌, ◌++◌, map, slice_get, Option, Some, None, ⊤}
use Rattle.std.specs.List.{list_any}
use Rattle.std.specs.Option.{option_map}
use Rattle.std.specs.Set.{remove_key}
use Rattle.std.specs.declared.cmp.Ordering.TheVariants.{Less}
use Rattle.row.specs.Cells.{Datum, datum_of, datum_cmp, same}
use Rattle.row.specs.declared.value.Value.{Value}
use Rattle.row.specs.Bags.{Each}
use Rattle.partial.specs.States.{State, Kept, state_of, order_of, Hole, Waiting, Filled, is_filled, is_here, begun, after_piece, evicted}

-- what is kept at a key, with no rows: a hole, a gather with the places of the pieces that are here, or filled
abbrev pub Stand : Type 0
Stand = State ⊤

-- how an entry of rows stands
abbrev pub stand_of : {E : Type 0} → State E → Stand
stand_of Hole = Hole
stand_of (Waiting pieces) = Waiting (map (option_map (λ p. tt)) pieces)
stand_of (Filled entry) = Filled tt

-- a gather has the piece of source s
abbrev pub has_piece : ℕ → Stand → Bool
has_piece s Hole = false
has_piece s (Waiting pieces) = is_here (slice_get pieces s)
has_piece s (Filled entry) = false

-- how each key stands, and the filled keys, from the one that was filled first
pub record Keys : Type 0 where
  pub at : Datum → Stand
  pub order : List Datum

-- all keys are holes
abbrev pub no_keys : Keys
no_keys = record { at = λ k. Hole; order = [] }

-- the list has the key
abbrev pub is_among : List Datum → Datum → Bool
is_among ks k = list_any (λ x. same x k) ks

-- the keys are in the order of values, each once
abbrev pub Ascends : List Datum → Type 0
Ascends [] = Unit {0}
Ascends (x ∷ xs) = Each (λ y. datum_cmp x y ≡ Less) xs × Ascends xs

-- key k stands so, the others as before
abbrev pub with_stand : Datum → Stand → Keys → Datum → Stand
with_stand k stand keys x = cond (same k x) stand (keys.at x)

-- key k, if it is a hole, begins to wait for the pieces of n sources
abbrev pub begin_at : ℕ → Datum → Keys → Keys
begin_at n k keys = record keys { at = with_stand k (begun n (keys.at k)) keys }

-- the order with key k last, where it is filled now and was not
abbrev pub filled_last : Datum → Stand → Keys → List Datum
filled_last k new keys = cond (is_filled new && not (is_filled (keys.at k))) (keys.order ++ k ∷ []) keys.order

-- the piece of source s for key k comes: it is taken where it is missing, and with the last one the key is filled
abbrev pub give_at : ℕ → Datum → Keys → Keys
give_at s k keys = let new = after_piece (λ pieces. tt) s tt (keys.at k) in record { at = with_stand k new keys; order = filled_last k new keys }

-- key k is evicted, by source s if one is named: a filled key becomes a hole, of a gather the piece of the source goes
abbrev pub evict_at : Option ℕ → Datum → Keys → Keys
evict_at source k keys = record { at = with_stand k (evicted source (keys.at k)) keys; order = remove_key (same k) keys.order }

-- by the one who keeps the key
abbrev pub open_at : Datum → Keys → Keys
open_at k keys = evict_at None k keys

-- by source s
abbrev pub drop_at : ℕ → Datum → Keys → Keys
drop_at s k keys = evict_at (Some s) k keys

-- ---- what a program keeps by its values
-- entries by the data that their keys are
abbrev pub by_datum : {E : Type 0} → List (Value × E) → List (Datum × E)
by_datum entries = map (λ e. (datum_of e.0, e.1)) entries

-- what is kept, by data
abbrev pub kept_by_datum : {E : Type 0} → Kept Value E → Kept Datum E
kept_by_datum kept = record { sources = kept.sources; filled = by_datum kept.filled; waiting = by_datum kept.waiting }

-- how its keys stand
abbrev pub stands_of : {E : Type 0} → Kept Value E → Keys
stands_of kept = record { at = λ k. stand_of (state_of same (kept_by_datum kept) k); order = map datum_of (order_of kept) }
