-- What a shown copy shows.
use Rattle.std.specs.Prelude.{◌≡◌, ℕ, not, List, ◌∷◌, [], Option, Some, None, IfSome, filter, fold, map, length, replicate, slice_set}
use Rattle.std.specs.Map.{lookup}
use Rattle.row.specs.Cells.{Datum, Cells, datum_of, same}
use Rattle.row.specs.declared.value.Value.{Value}
use Rattle.plan.specs.Layouts.{Layout}
use Rattle.model.specs.Cuts.{IsAtMost}
use Rattle.model.specs.Fronts.{LogView}
use Rattle.model.specs.Histories.{Lengths, view_shard}
use Rattle.model.specs.Places.{sources}
use Rattle.model.specs.Queries.{Line, answer}
use Rattle.packet.specs.Lines.{entries_of, lengths_of}
use Rattle.view_domain.specs.Outboxes.{ShownView, put_line}
use Rattle.view_domain.specs.declared.shown.KeyChange.{KeyChange}
use Rattle.view_domain.specs.declared.shown.KeyChange.TheVariants.{Fills, Goes}
use Rattle.shown.specs.declared.delta.Delta.{Delta}
use Rattle.shown.specs.declared.delta.Delta.TheVariants.{Key, Moves, Asks}

-- the shown keys with their rows, each key once
abbrev pub Rows : Type 0
Rows = List (Datum × List Cells)

-- one shard of a view: how long each front of its cut is, the fronts, the shown keys, and how many requests the shard had sent
pub record Snapshot : Type 0 where
  pub view : ℕ
  pub shard : ℕ
  pub lengths : Lengths
  pub cut : List Line
  pub rows : Rows
  pub asked : ℕ

-- the rows of a key, where it is shown
abbrev pub shown_at : Rows → Datum → Option (List Cells)
shown_at rows k = lookup (same k) rows

-- the entries with the data of their keys
abbrev pub rows_in : List (Value × List Cells) → Rows
rows_in es = map (λ (e : Value × List Cells). (datum_of e.0, e.1)) es

-- no key is shown, over no entries
abbrev pub first_of : Layout → ℕ → ℕ → Snapshot
first_of p view shard = record {
  view = view;
  shard = shard;
  lengths = replicate p.stages (replicate (length (sources p)) 0);
  cut = replicate p.stages (replicate (length (sources p)) []);
  rows = [];
  asked = 0;
}

-- the rows without those of a key
abbrev pub without : Datum → Rows → Rows
without k rows = filter (λ (e : Datum × List Cells). not (same k e.0)) rows

-- the rows after a change of a key
abbrev pub with_change : Rows → KeyChange → Rows
with_change rows (Fills key rs) = (datum_of key, rs) ∷ without (datum_of key) rows
with_change rows (Goes key) = without (datum_of key) rows

-- what is shown after a step of a change
abbrev pub applied : {J : Type 0} → Snapshot → Delta J → Snapshot
applied s (Key change) = record s { rows = with_change s.rows change }
applied s (Moves m) = record s { lengths = slice_set s.lengths m.stage (lengths_of m.line); cut = slice_set s.cut m.stage (entries_of m.line) }
applied s (Asks n) = record s { asked = n }

-- the lengths with those of a stage shard's new line, if it has one
abbrev pub lengths_with : ℕ → Option (List LogView) → Lengths → Lengths
lengths_with s None lengths = lengths
lengths_with s (Some line) lengths = slice_set lengths s (lengths_of line)

-- what is shown after a change: of keys one after the other, the new line, and the count of requests
abbrev pub after : Snapshot → ShownView → Snapshot
after s d = record s {
  lengths = lengths_with d.stage d.line s.lengths;
  cut = put_line d.stage d.line s.cut;
  rows = fold with_change s.rows d.keys;
  asked = d.asked;
}

-- each shown key of the shard has the view's rows over the cut
pub record IsTrue (p : Layout) (s : Snapshot) : Type 0 where
  pub rows : (k : Value) → view_shard p s.view (datum_of k) ≡ s.shard → IfSome (shown_at s.rows (datum_of k)) (λ rs. rs ≡ answer p s.cut s.view (datum_of k))

-- the same shard of the same view, over no smaller cut
pub record IsLater (s t : Snapshot) : Type 0 where
  pub view : t.view ≡ s.view
  pub shard : t.shard ≡ s.shard
  pub cut : IsAtMost s.lengths t.lengths
