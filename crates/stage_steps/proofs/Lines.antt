-- Lines of fronts of a plan.
use Rattle.std.proofs.Common.{◌≡◌, ℕ, ◌<◌, List, [], ◌∷◌, length, map, Option, None, refl, arith, length-append}
use Rattle.std.proofs.lemmas.List.FromFn.{length-range_with_len}
use Rattle.row.proofs.BagLemmas.{Each-at}
use Rattle.row.specs.Cells.{Datum, datum_of}
use Rattle.row.specs.declared.record.Record.{Record}
use Rattle.plan.specs.Facts.{IsTable, Facts}
use Rattle.plan.specs.Layouts.{Layout, no_table, table_at}
use Rattle.model.specs.Fronts.{LogView}
use Rattle.model.specs.Places.{sources, side_bases, side_count, right_bases, base_at}
use Rattle.packet.specs.Codes.{mark_in, stage_packet_of}
use Rattle.packet.specs.Lines.{AreOf, IsOf, plan_of, entries_of, lengths_of, fronts_to}
use Rattle.packet.specs.Truth.{Grows, Pointwise}
use Rattle.packet.specs.declared.reader.Reader.{Reader}
use Rattle.packet.specs.declared.request.Marker.{Marker}
use Rattle.packet.specs.declared.stage_packet.Content.{Content}
use Rattle.stage_steps.specs.Told.{evicts_at, keyed_at, told, told_changes}
use Rattle.protocol.proofs.Within.{prefix_take}

-- the stage has a source
pub some_source : (p : Layout) → Facts p → 0 < length (sources p)
some_source p facts =
    let t : IsTable (table_at p p.left.table) = Each-at IsTable p.tables facts.tables p.left.table no_table facts.left.table in
    omega (arith, length-append (side_bases p p.left) (right_bases p p.right), length-range_with_len (base_at p p.left.table 0) (side_count p p.left), t.shards.least_of)

first_plan : (p : Layout) (bs : List ℕ) (line : List LogView) → Pointwise (IsOf p) bs line → 0 < length bs → plan_of line ≡ p
first_plan p [] line h some = absurd (omega (arith, some))
first_plan p (b ∷ bs) [] h some = absurd h
first_plan p (b ∷ bs) (l ∷ line) h some = h.0.plan

-- a line of the plan's sources says which plan it is
pub plan_is : (p : Layout) (line : List LogView) → Facts p → AreOf p line → plan_of line ≡ p
plan_is p line facts of = first_plan p (sources p) line of (some_source p facts)

-- so many entries of each of the longer fronts are the shorter ones
pub shorter_is : (from to : List LogView) → Grows (entries_of from) (entries_of to) → fronts_to (lengths_of from) (entries_of to) ≡ entries_of from
shorter_is [] to h = refl
shorter_is (f ∷ from) [] h = absurd h
shorter_is (f ∷ from) (t ∷ to) h = rw (prefix_take f.entries t.entries h.0, shorter_is from to h.1) refl

-- a packet of these parts
pub same_packet : (p : Layout) (s : ℕ) (r : Reader) (lengths : List ℕ) (from to again : List LogView) (records : List Record) (names : List (List Datum)) (m : Option Marker) (c : Content) → plan_of to ≡ p → again ≡ to → lengths ≡ lengths_of from → Grows (entries_of from) (entries_of to)
    → map datum_of c.evicts.items ≡ evicts_at p names (record { view = r.view; shard = r.shard }) → c.changes.items ≡ told_changes (evicts_at p names (record { view = r.view; shard = r.shard })) (keyed_at p r.view r.shard records) → c.piece ≡ None → c.marker ≡ m
    → stage_packet_of s r lengths again c ≡ told p s (entries_of from) (entries_of to) records names (mark_in m) (record { view = r.view; shard = r.shard })
same_packet p s r lengths from to again records names m c plan same count grows evicts keyed no_piece marker =
    rw (same, plan, count, keyed, evicts, no_piece, marker, shorter_is from to grows) refl
