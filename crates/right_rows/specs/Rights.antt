-- The right rows of a stage shard: those of some stage keys, and the pieces in hand of keys that wait.
use Rattle.std.specs.Prelude.{Bool, false, ◌≡◌, ℕ, true, List, [], ◌∷◌, map, filter, cond, Option, Some, None}
use Rattle.std.specs.Map.{lookup, values_of}
use Rattle.std.specs.Option.{option_map}
use Rattle.row.specs.Bags.{Each, IsAscending, joined, sorted}
use Rattle.row.specs.Cells.{Datum, Cells, datum_of, has, row_cmp, same}
use Rattle.row.specs.BagChanges.{with_records}
use Rattle.row.specs.Changes.{IsCovered}
use Rattle.row.specs.Groups.{equal}
use Rattle.row.specs.declared.record.Record.{Record}
use Rattle.row.specs.declared.value.Value.{Value}
use Rattle.plan.specs.declared.kinds.Aggregate.{Aggregate}
use Rattle.ops.specs.SideRows.{Rows, fits_64_bits, is_here}
use Rattle.partial.specs.States.{State, Hole, Waiting, Filled, Kept, ChangeFits, after_change, state_of, state_from, order_of}
use Rattle.packet.specs.Keys.{Keys, by_datum, stand_of}

-- the column of the stage key, the aggregate that is read of the rows, and what is kept for keys
pub record RightView : Type 0 where
  pub column : ℕ
  pub aggregate : Option Aggregate
  pub kept : Kept Value (List Cells)

-- the rows of all filled keys, in order
abbrev pub filled_rows : Kept Value (List Cells) → List Cells
filled_rows kept = sorted row_cmp (joined (values_of kept.filled))

-- what a stage reads of them: the rows of the filled keys are here
abbrev pub side_of : RightView → Rows
side_of r = record {
  column = r.column;
  aggregate = r.aggregate;
  rows = filled_rows r.kept;
  keys = Some (map datum_of (order_of r.kept));
  sources = r.kept.sources;
  waiting = by_datum r.kept.waiting;
}

-- rows of a key, in order: each has it in the column, and what is summed of it fits 64 bits
pub record AreOf (column : ℕ) (aggregate : Option Aggregate) (key : Datum) (rows : List Cells) : Type 0 where
  pub keyed : Each (λ r. has column key r ≡ true) rows
  pub fit : Each (λ r. fits_64_bits aggregate r ≡ true) rows
  pub in_order : IsAscending row_cmp rows

module _ (column : ℕ) (aggregate : Option Aggregate) (key : Datum) where
  -- each piece that is here is rows of the key
  abbrev pub PiecesAreOf : List (Option (List Cells)) → Type 0
  PiecesAreOf [] = Unit {0}
  PiecesAreOf (None ∷ pieces) = PiecesAreOf pieces
  PiecesAreOf (Some piece ∷ pieces) = AreOf column aggregate key piece × PiecesAreOf pieces

  -- what is kept at the key is rows of it
  abbrev pub IsStateOf : State (List Cells) → Type 0
  IsStateOf Hole = Unit {0}
  IsStateOf (Waiting pieces) = PiecesAreOf pieces
  IsStateOf (Filled rows) = AreOf column aggregate key rows

-- what is kept at each key is rows of it
pub record AreKeyed (column : ℕ) (aggregate : Option Aggregate) (kept : Kept Value (List Cells)) : Type 0 where
  pub each : (k : Value) → IsStateOf column aggregate (datum_of k) (state_of equal kept k)

-- what is kept at a key, by what a stage reads: the rows of a key that is here are those that have it in the column
abbrev pub state_in : Rows → Datum → State (List Cells)
state_in i k = state_from (lookup (same k) i.waiting) (cond (is_here i k) (Some (filter (has i.column k) i.rows)) None)

-- how the keys of a side stand whose rows are here by key
abbrev pub keys_in : Rows → Option Keys
keys_in i = option_map (λ order. record { at = λ k. stand_of (state_in i k); order = order }) i.keys

-- what is kept at k, changed by f where k is the key
abbrev pub only_at : Datum → (State (List Cells) → State (List Cells)) → Datum → State (List Cells) → State (List Cells)
only_at key f k st = cond (same key k) (f st) st

-- the records whose row has the key in the column, in their order
abbrev pub records_of : ℕ → Datum → List Record → List Record
records_of column key records = filter (λ (r : Record). has column key r.row) records

-- of a gather the source's piece takes the records, where it is here; a hole and a filled key stay
abbrev pub piece_after : ℕ → List Record → State (List Cells) → State (List Cells)
piece_after source records Hole = Hole
piece_after source records (Waiting pieces) = after_change with_records source records (Waiting pieces)
piece_after source records (Filled rows) = Filled rows

-- the records fit the source's piece, where the key waits and the piece is here
abbrev pub FitsPiece : ℕ → List Record → State (List Cells) → Type 0
FitsPiece source records Hole = Unit {0}
FitsPiece source records (Waiting pieces) = ChangeFits IsCovered source records (Waiting pieces)
FitsPiece source records (Filled rows) = Unit {0}

-- they are of rows of the key, and what is summed of each fits 64 bits
pub record AreRecordsOf (column : ℕ) (aggregate : Option Aggregate) (key : Datum) (records : List Record) : Type 0 where
  pub keyed : Each (λ (r : Record). has column key r.row ≡ true) records
  pub fit : Each (λ (r : Record). fits_64_bits aggregate r.row ≡ true) records

-- the key that is given, if it is this one
abbrev pub is_key : Option Value → Datum → Bool
is_key None d = false
is_key (Some key) d = same (datum_of key) d
