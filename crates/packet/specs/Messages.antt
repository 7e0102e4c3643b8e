-- What goes on the edges.
use Rattle.std.specs.Prelude.{ℕ, ◌==◌, ◌&&◌, Bool, cond, List, [], map, Option}
use Rattle.std.specs.List.{range_with_len}
use Rattle.row.specs.Cells.{Datum, Cells}
use Rattle.row.specs.declared.record.Record.{Record}
use Rattle.plan.specs.Layouts.{Layout}
use Rattle.model.specs.Logs.{Change}
use Rattle.model.specs.Queries.{Line}

-- the marker of a fence: its session, and the number of its call
pub record Mark : Type 0 where
  pub session : ℕ
  pub number : ℕ

-- the two are one
abbrev pub is_mark : Mark → Mark → Bool
is_mark a b = (a.session == b.session) && (a.number == b.number)

-- what a request asks for: by its tag, a key of the right side or of a view
pub record Ask : Type 0 where
  pub tag : ℕ
  pub key : Datum

-- the rows that one sender has of a key, in order
pub record Piece : Type 0 where
  pub tag : ℕ
  pub key : Datum
  pub rows : List Cells

-- a row that comes or goes, and beside it the key of the view that it is of
pub record KeyedRecord : Type 0 where
  pub key : Datum
  pub change : Record

-- from a base shard to a stage shard: the rows that come and go between two fronts, or a piece, or a marker
pub record BasePacketView : Type 0 where
  pub plan : Layout
  pub base : ℕ
  pub stage : ℕ
  pub from : List Change
  pub to : List Change
  pub changes : List Record
  pub piece : Option Piece
  pub marker : Option Mark

-- from a stage shard to a view shard: the rows that come and go between two lines, and the keys of which it can't tell, or a piece, or a marker
pub record StagePacketView : Type 0 where
  pub plan : Layout
  pub stage : ℕ
  pub view : ℕ
  pub shard : ℕ
  pub from : Line
  pub to : Line
  pub changes : List KeyedRecord
  pub evicts : List Datum
  pub piece : Option Piece
  pub marker : Option Mark

-- such a packet but for its rows, of which its truth tells, and for where it goes: of a piece there is its key
pub record Sent : Type 0 where
  pub from : Line
  pub to : Line
  pub evicts : List Datum
  pub piece : Option Datum
  pub marker : Option Mark

-- ---- what goes to several receivers
-- nothing to any of these
abbrev pub none_of : {X Y : Type 0} → List Y → List (List X)
none_of receivers = map (λ r. []) receivers

-- these to each of n receivers
abbrev pub to_all : {X : Type 0} → ℕ → List X → List (List X)
to_all n xs = map (λ r. xs) (range_with_len 0 n)

-- these to receiver i of n alone
abbrev pub to_one : {X : Type 0} → ℕ → ℕ → List X → List (List X)
to_one n i xs = map (λ r. cond (r == i) xs []) (range_with_len 0 n)
