-- When what is sent is true of its fronts.
use Rattle.std.specs.Prelude.{◌≡◌, ℕ, zero, suc, ◌≤◌, true, false, List, [], ◌∷◌, map, filter, length, Option, Some, None, ◌-◌}
use mathlib.Core.List.{IsPrefix}
use Rattle.row.specs.Cells.{Datum, datum_of, Cells, row_cmp, has, has_shard, same}
use Rattle.row.specs.Bags.{sorted, Each}
use Rattle.row.specs.Changes.{Turns}
use Rattle.row.specs.declared.record.Record.{Record}
use Rattle.row.specs.declared.value.Value.{Value}
use Rattle.plan.specs.Layouts.{SideLayout, Layout, view_at}
use Rattle.model.specs.Logs.{Change, fits}
use Rattle.model.specs.Places.{layout_of, sources}
use Rattle.model.specs.Histories.{view_shard}
use Rattle.model.specs.Legal.{limit}
use Rattle.model.specs.Queries.{Line, stage_rows, side_share, part, parts}
use Rattle.packet.specs.Readers.{side_of}
use Rattle.packet.specs.Messages.{Piece, KeyedRecord, BasePacketView, StagePacketView, Sent}
use Rattle.packet.specs.Keys.{is_among, Ascends}

-- ---- fronts and lines
-- one of these for each of those
abbrev pub Pointwise : {X Y : Type 0} → (X → Y → Type 0) → List X → List Y → Type 0
Pointwise R [] [] = Unit {0}
Pointwise R [] (y ∷ ys) = ⊥
Pointwise R (x ∷ xs) [] = ⊥
Pointwise R (x ∷ xs) (y ∷ ys) = R x y × Pointwise R xs ys

-- each front of the line begins that of the other
abbrev pub Grows : Line → Line → Type 0
Grows = Pointwise IsPrefix

-- they may be the first entries of the log of base shard b: they fit its table, and are not too many
pub record IsFrontOf (p : Layout) (b : ℕ) (entries : List Change) : Type 0 where
  pub fitting : Each (λ e. fits (layout_of p b) e ≡ true) entries
  pub room : length entries ≤ limit

-- the line has a front of each source
abbrev pub IsLine : Layout → Line → Type 0
IsLine p line = Pointwise (IsFrontOf p) (sources p) line

-- ---- from base shards
-- the rows of a front of the side that belong to stage shard s; no condition is applied
abbrev pub rows_for : Layout → ℕ → Option SideLayout → List Change → List Cells
rows_for p s None front = []
rows_for p s (Some side) front = stage_rows p s side front

-- what base shard b has for stage shard s at a front
abbrev pub sent_rows : Layout → ℕ → ℕ → List Change → List Cells
sent_rows p b s front = rows_for p s (side_of p b) front

-- the records whose row has shard j of n in the column, in their order
abbrev pub records_for : ℕ → ℕ → ℕ → List Record → List Record
records_for column n j records = filter (λ (r : Record). has_shard column n j r.row) records

-- the stage key's column on the right side
abbrev pub right_column : Option SideLayout → ℕ
right_column None = 0
right_column (Some side) = side.key

-- the column in which a base shard looks for a key: by tag 0 the right side's stage key, by tag 16+i the key of view i (nobody asks by it yet)
abbrev pub column_of : Layout → ℕ → ℕ
column_of p zero = right_column p.right
column_of p (suc n) = (view_at p (n - 15)).key

-- the rows that base shard b has for stage shard s of a key, in order
abbrev pub base_piece : Layout → ℕ → ℕ → List Change → ℕ → Datum → List Cells
base_piece p b s front tag k = sorted row_cmp (filter (has (column_of p tag) k) (sent_rows p b s front))

-- the piece is the sender's rows of its key
abbrev pub IsBasePiece : BasePacketView → Option Piece → Type 0
IsBasePiece x None = Unit {0}
IsBasePiece x (Some piece) = piece.rows ≡ base_piece x.plan x.base x.stage x.from piece.tag piece.key

-- the packet moves no front, and has no changes
pub record IsStillBase (x : BasePacketView) : Type 0 where
  pub front : x.from ≡ x.to
  pub changes : x.changes ≡ []

-- P, where there is something
abbrev pub Given : {A : Type 0} → Option A → Type 0 → Type 0
Given None P = Unit {0}
Given (Some a) P = P

-- what a packet of a base shard says is so: as bags, the rows of the one front with the changes are those of the other
pub record IsTrueBase (x : BasePacketView) : Type 0 where
  pub grows : IsPrefix x.from x.to
  pub turns : Turns (sent_rows x.plan x.base x.stage x.from) x.changes (sent_rows x.plan x.base x.stage x.to)
  pub piece : IsBasePiece x x.piece
  pub alone : Given x.piece (IsStillBase x)
  pub marker : Given x.marker (IsStillBase x)

-- ---- from stage shards
-- the records of a key
abbrev pub changes_at : Datum → List KeyedRecord → List Record
changes_at k changes = map (λ (c : KeyedRecord). c.change) (filter (λ (c : KeyedRecord). same c.key k) changes)

-- as bags, the stage shard's part of key k with its records is the later part
abbrev pub TurnsAt : StagePacketView → Datum → Type 0
TurnsAt x k = Turns (part x.plan x.stage x.from x.view k) (changes_at k x.changes) (part x.plan x.stage x.to x.view k)

-- the key is of the view shard, and the packet does not evict it
pub record IsTold (x : StagePacketView) (k : Datum) : Type 0 where
  pub shard : view_shard x.plan x.view k ≡ x.shard
  pub kept : is_among x.evicts k ≡ false

-- the piece is the stage shard's part of its key
abbrev pub IsStagePiece : StagePacketView → Option Piece → Type 0
IsStagePiece x None = Unit {0}
IsStagePiece x (Some piece) = piece.rows ≡ sorted row_cmp (part x.plan x.stage x.from x.view piece.key)

-- the packet moves no front, has no changes and evicts nothing
pub record IsStillStage (x : StagePacketView) : Type 0 where
  pub line : x.from ≡ x.to
  pub changes : x.changes ≡ []
  pub evicts : x.evicts ≡ []

-- what a packet of a stage shard says is so, for the keys in P that it does not evict; it evicts each key once, in order, and has no record of a key that it evicts, or of another shard
pub record IsTrueFor (P : Datum → Type 0) (x : StagePacketView) : Type 0 where
  pub grows : Grows x.from x.to
  pub line : IsLine x.plan x.to
  pub order : Ascends x.evicts
  pub turns : (k : Value) → P (datum_of k) → is_among x.evicts (datum_of k) ≡ false → TurnsAt x (datum_of k)
  pub told : Each (λ (c : KeyedRecord). IsTold x c.key) x.changes
  pub piece : IsStagePiece x x.piece
  pub alone : Given x.piece (IsStillStage x)
  pub marker : Given x.marker (IsStillStage x)

-- it is so for each key of the view shard
abbrev pub IsTrueStage : StagePacketView → Type 0
IsTrueStage x = IsTrueFor (λ k. view_shard x.plan x.view k ≡ x.shard) x

-- the key of a piece
abbrev pub key_of_piece : Option Piece → Option Datum
key_of_piece None = None
key_of_piece (Some piece) = Some piece.key

-- what is said of a packet but for its rows
abbrev pub sent_of : StagePacketView → Sent
sent_of x = record { from = x.from; to = x.to; evicts = x.evicts; piece = key_of_piece x.piece; marker = x.marker }

-- ---- what is held
-- each right source's rows of a stage key, in order
abbrev pub right_shares : Layout → ℕ → SideLayout → Datum → Line → List (List Cells)
right_shares p s side x fronts = map (λ front. sorted row_cmp (filter (has side.key x) (side_share p s side front))) fronts

-- each stage shard's part of a key, in order
abbrev pub view_shares : Layout → ℕ → Datum → List Line → List (List Cells)
view_shares p i k cut = map (sorted row_cmp) (parts p 0 cut i k)
