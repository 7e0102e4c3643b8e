-- What a stage shard tells view shards. No public clause cites this.
use Rattle.std.specs.Prelude.{ℕ, Bool, true, false, not, cond, List, [], ◌∷◌, map, filter, Option, Some, None, slice_index_or, Vec}
use Rattle.std.specs.Global.{Global}
use Rattle.row.specs.Cells.{Datum, cell_at, datum_of, row_cmp}
use Rattle.row.specs.declared.value.Value.{Value}
use Rattle.row.specs.Bags.{sorted}
use Rattle.row.specs.declared.record.Record.{Record}
use Rattle.plan.specs.Layouts.{Layout, view_at}
use Rattle.plan.specs.Outputs.{key_place}
use Rattle.model.specs.Queries.{Line, part}
use Rattle.packet.specs.Messages.{Mark, KeyedRecord, StagePacketView}
use Rattle.packet.specs.Keys.{is_among}
use Rattle.packet.specs.Readers.{Reader, is_of}
use Rattle.packet.specs.Truth.{records_for}

-- the records whose row has shard j of n in the column, each beside its value there
abbrev pub keyed_for : ℕ → ℕ → ℕ → List Record → List KeyedRecord
keyed_for column n j records = map (λ (r : Record). record { key = cell_at r.row column; change = r }) (records_for column n j records)

-- the column of the output that keys the view
abbrev pub key_column : Layout → ℕ → ℕ
key_column p i = key_place p.right p.aggregate (view_at p i).key

-- the records of the output that are the view shard's
abbrev pub keyed_at : Layout → ℕ → ℕ → List Record → List KeyedRecord
keyed_at p i j records = keyed_for (key_column p i) (view_at p i).shards j records

-- the keys of the view shard that a packet evicts, of the names for each view
abbrev pub evicts_at : Layout → List (List Datum) → Reader → List Datum
evicts_at p names r = filter (λ k. is_of p r.view k r) (slice_index_or names r.view [])

-- the records but those of keys that are evicted
abbrev pub told_changes : List Datum → List KeyedRecord → List KeyedRecord
told_changes evicts changes = filter (λ (c : KeyedRecord). not (is_among evicts c.key)) changes

-- the packet of stage shard s to a view shard that leads from a line to another with what of these records is its own, evicts its keys of these names, and has a marker
abbrev pub told : Layout → ℕ → Line → Line → List Record → List (List Datum) → Option Mark → Reader → StagePacketView
told p s from to records names m r =
    record { plan = p; stage = s; view = r.view; shard = r.shard; from = from; to = to; changes = told_changes (evicts_at p names r) (keyed_at p r.view r.shard records); evicts = evicts_at p names r; piece = None; marker = m }

-- a packet that is told to each, or else one that evicts something
abbrev pub is_told : Bool → List Datum → Bool
is_told true evicts = true
is_told false [] = false
is_told false (k ∷ evicts) = true

-- such a packet
abbrev pub told_if : Bool → Layout → ℕ → Line → Line → List Record → List (List Datum) → Option Mark → Reader → Option StagePacketView
told_if each p s from to records names m r = cond (is_told each (evicts_at p names r)) (Some (told p s from to records names m r)) None

-- the packet that answers a request for key k of view i
abbrev pub answer_of : Layout → ℕ → Line → ℕ → ℕ → ℕ → Datum → StagePacketView
answer_of p s line tag i j k =
    record { plan = p; stage = s; view = i; shard = j; from = line; to = line; changes = []; evicts = []; piece = Some (record { tag = tag; key = k; rows = sorted row_cmp (part p s line i k) }); marker = None }

-- the names of each view, as data
abbrev pub names_in : List (Vec Value Global) → List (List Datum)
names_in names = map (λ (v : Vec Value Global). map datum_of v.items) names

-- one packet or none
abbrev pub perhaps : {X : Type 0} → Option X → List X
perhaps None = []
perhaps (Some x) = x ∷ []
