-- What calls in a row make of what is kept at a key.
use Rattle.std.specs.Prelude.{◌≡◌, ℕ, true, false, List, [], ◌∷◌, Option, Some, None, slice_get, map, cond}
use Rattle.row.specs.Cells.{Datum, Cells, datum_of, row_cmp, same}
use Rattle.row.specs.Bags.{Each, sorted}
use Rattle.row.specs.BagChanges.{with_records}
use Rattle.row.specs.declared.record.Record.{Record}
use Rattle.row.specs.declared.value.Value.{Value}
use Rattle.row.specs.Changes.{IsCovered}
use Rattle.row.specs.Groups.{equal}
use Rattle.packet.specs.Keys.{Ascends, is_among}
use Rattle.packet.specs.Messages.{Ask, KeyedRecord, Piece}
use Rattle.packet.specs.Truth.{changes_at}
use Rattle.partial.specs.States.{State, Kept, ChangeFits, evicted, state_of}
use Rattle.packet.specs.Groups.{named_in}

-- at key k, after source s has evicted these keys
abbrev pub evicted_all : ℕ → List Datum → Datum → State (List Cells) → State (List Cells)
evicted_all s [] k st = st
evicted_all s (x ∷ xs) k st = evicted_all s xs k (cond (same x k) (evicted (Some s) st) st)

-- what is kept may take this of source s: each key is evicted once, in order, no record is of such a key, and the records of each key fit it
pub record MayTake (s : ℕ) (evicts : List Datum) (changes : List KeyedRecord) (kept : Kept Value (List Cells)) : Type 0 where
  pub up : Ascends evicts
  pub apart : Each (λ (c : KeyedRecord). is_among evicts c.key ≡ false) changes
  pub fits : (k : Value) → is_among (named_in changes) (datum_of k) ≡ true → ChangeFits IsCovered s (changes_at (datum_of k) changes) (state_of equal kept k)

-- the records lead from a source's part of a key to its next one, both in order
pub record IsStepOf (part : List Cells) (records : List Record) (next : List Cells) : Type 0 where
  pub fits : IsCovered part records
  pub is : next ≡ with_records part records

-- the piece, if it is of the key, has the rows that source s has of it
abbrev pub IsPieceFor : Option Piece → Value → List (List Cells) → ℕ → Type 0
IsPieceFor None k parts s = Unit {0}
IsPieceFor (Some piece) k parts s = piece.key ≡ datum_of k → slice_get parts s ≡ Some (sorted row_cmp piece.rows)

-- a request of each key by the tag
abbrev pub asks_by : ℕ → List Datum → List Ask
asks_by tag ks = map (λ k. record { tag = tag; key = k }) ks
