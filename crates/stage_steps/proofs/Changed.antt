-- The packet of an entry: what it makes of the line and of the rows, and what is told of it.
use Rattle.std.proofs.Common.{◌≡◌, ℕ, ◌<◌, ◌≤◌, ◌-◌, Bool, true, false, cond, List, [], ◌∷◌, filter, length, Option, Some, None, get_or, slice_get, slice_set, refl, ap, sym, ◌∙◌, subst, arith, zero, suc}
use Rattle.std.specs.Global.{Global}
use Rattle.row.specs.Bags.{Each}
use Rattle.row.specs.Cells.{Cells, Datum, datum_of, has}
use Rattle.row.specs.Changes.{Turns}
use Rattle.row.specs.declared.record.Record.{Record}
use Rattle.plan.specs.Facts.{Facts}
use Rattle.plan.specs.Layouts.{Layout, SideLayout, view_at}
use Rattle.model.specs.Fronts.{LogView, IsLog}
use Rattle.model.specs.Legal.{limit}
use Rattle.model.specs.Logs.{Change, fits}
use Rattle.model.specs.Places.{layout_of, side_count, source_at, sources}
use Rattle.model.specs.Queries.{Line, part}
use Rattle.ops.specs.declared.side.Side.{Side}
use Rattle.ops.specs.declared.side.Side.TheVariants.{Left, Right}
use Rattle.packet.specs.Codes.{EndsAt}
use Rattle.packet.specs.Lines.{AreOf, IsOf, entries_of}
use Rattle.packet.specs.Messages.{BasePacketView}
use Rattle.packet.specs.Readers.{Reader, is_left}
use Rattle.packet.specs.Truth.{Grows, IsFrontOf, IsLine, IsTrueBase, IsTrueStage, sent_rows}
use Rattle.protocol.specs.StageSteps.{unknown}
use Rattle.protocol.proofs.Lists.{map_set, pair_right, pair_size}
use Rattle.protocol.proofs.Runs.{line_set}
use Rattle.right_rows.specs.Rights.{keys_in, state_in}
use Rattle.stage_sides.specs.Held.{CanTakeAll, Held, turned_right, untold_lefts}
use Rattle.stage_sides.specs.Kept.{kept_at}
use Rattle.stage_steps.specs.Rows.{IsChanged, IsSeen}
use Rattle.stage_steps.specs.Shards.{HoldsRows, IsFrom, entry_names, seen}
use Rattle.stage_steps.specs.Sides.{passing_at, right_source, source_side}
use Rattle.stage_steps.specs.Told.{key_column, told}
use Rattle.stage_steps.proofs.Entered.{left_turns, right_turns, turns_none}
use Rattle.stage_steps.proofs.Fronts.{IsLeftStep, IsRightStep, left_step, right_step}
use Rattle.stage_steps.proofs.LeftRows.{each_of}
use Rattle.stage_steps.proofs.Sents.{TurnsSpared, told_true}
use Rattle.stage_steps.proofs.Turned.{left_holds, left_takes, right_holds, right_takes}
use Rattle.stage_steps.proofs.Untold.{kept_same, lefts_are, spared, untold_is}

-- the same packet, by other words
pub told_as : (p : Layout) (s : ℕ) (from to to' : Line) (records records' : List Record) (names names' : List (List Datum)) (r : Reader) → to' ≡ to → records' ≡ records → names' ≡ names → IsTrueStage (told p s from to records names None r) → IsTrueStage (told p s from to' records' names' None r)
told_as p s from to to' records records' names names' r a b c t =
    subst (λ l. IsTrueStage (told p s from l records' names' None r)) (sym a) (subst (λ rs. IsTrueStage (told p s from to rs names' None r)) (sym b) (subst (λ ns. IsTrueStage (told p s from to records ns None r)) (sym c) t))

there : {X : Type 0} (xs : List X) (j : ℕ) (d : X) → j < length xs → slice_get xs j ≡ Some (get_or xs j d)
there [] j d lt = absurd (omega (arith, lt))
there (x ∷ xs) zero d lt = refl
there (x ∷ xs) (suc j) d lt = there xs j d (omega (arith, lt))

-- a front of a log may stand in a line
front_of : (p : Layout) (b : ℕ) (l : LogView) (entries : List Change) → l.plan ≡ p → l.base ≡ b → l.entries ≡ entries → IsLog l → IsFrontOf p b entries
front_of p b l entries plan base same log = record {
  fitting = subst (λ (es : List Change). Each (λ e. fits (layout_of p b) e ≡ true) es) same (rw (plan, base) at (each_of (fits (layout_of l.plan l.base)) l.entries log.fitting));
  room = subst (λ (es : List Change). length es ≤ limit) same log.room;
}

module _ (p : Layout) (s : ℕ) (line : List LogView) (j : ℕ) (k : BasePacketView) (to : LogView) (facts : Facts p) (is : IsLine p (entries_of line)) (of : AreOf p line) (from : IsFrom p s j k) (next : slice_get (entries_of line) j ≡ Some k.from) (ends : EndsAt k to) (log : IsLog to)
    (truth : IsTrueBase k) where
  goes : IsFrontOf p (source_at p j) k.to
  goes = front_of p (source_at p j) to k.to (ends.plan ∙ from.plan) (ends.base ∙ from.base) ends.entries log

  turns : Turns (sent_rows p (source_at p j) s k.from) k.changes (sent_rows p (source_at p j) s k.to)
  turns = rw (from.plan, from.base, from.stage) at truth.turns

  -- the line
  pub is_place : j < length line
  is_place = subst (λ n. j < n) (pair_size (IsOf p) (sources p) line of) from.source

  pub still_of : AreOf p (slice_set line j to)
  still_of = pair_right (IsOf p) (sources p) line j (source_at p j) to (there (sources p) j 0 from.source) (record { plan = ends.plan ∙ from.plan; base = ends.base ∙ from.base }) of

  pub moved_is : entries_of (slice_set line j to) ≡ slice_set (entries_of line) j k.to
  moved_is = map_set (λ (l : LogView). l.entries) line j to ∙ ap (slice_set (entries_of line) j) ends.entries

  pub still_line : IsLine p (slice_set (entries_of line) j k.to)
  still_line = pair_right (IsFrontOf p) (sources p) (entries_of line) j (source_at p j) k.to (there (sources p) j 0 from.source) goes is

  pub grows : Grows (entries_of line) (slice_set (entries_of line) j k.to)
  grows = line_set (entries_of line) j k.from k.to next truth.grows

  -- the side
  go_left : is_left p j ≡ true → IsLeftStep p s (entries_of line) (slice_set (entries_of line) j k.to) k.changes
  go_left e = left_step p s (entries_of line) j k.from k.to k.changes facts is goes from.source next turns e

  go_right : is_left p j ≡ false → (side : SideLayout) × IsRightStep p s (entries_of line) (slice_set (entries_of line) j k.to) k.changes side (j - side_count p p.left) k.from k.to
  go_right e = right_step p s (entries_of line) j k.from k.to k.changes facts is goes from.source next turns e

  module _ (old : Held) (holds : HoldsRows p s (entries_of line) old) (sees : IsSeen old) where
    abbrev passed : Side → List Record
    passed side = passing_at p side k.changes

    kept_is : (side : Side) → kept_at old.plan side (passed side) ≡ kept_at old.plan side k.changes
    kept_is side = subst (λ (q : Layout). kept_at q side (passing_at p side k.changes) ≡ kept_at q side k.changes) (sym holds.plan) (kept_same p side k.changes)

    takes_by : (b : Bool) → is_left p j ≡ b → CanTakeAll (cond b Left Right) (right_source p j) (kept_at old.plan (cond b Left Right) k.changes) old
    takes_by true e = left_takes p s (entries_of line) (slice_set (entries_of line) j k.to) k.changes old holds (go_left e) (right_source p j)
    takes_by false e = let g = go_right e in right_takes p s (entries_of line) (slice_set (entries_of line) j k.to) k.changes old holds g.0 (right_source p j) k.from k.to g.1 sees.column

    takes : CanTakeAll (source_side p j) (right_source p j) (kept_at old.plan (source_side p j) (passed (source_side p j))) old
    takes = subst (λ rs. CanTakeAll (source_side p j) (right_source p j) rs old) (sym (kept_is (source_side p j))) (takes_by (is_left p j) refl)

    -- by the words of the code
    pub takes_so : (side : Side) (own : ℕ) (rs : List Record) → side ≡ source_side p j → own ≡ right_source p j → rs ≡ passing_at p side k.changes → CanTakeAll side own (kept_at old.plan side rs) old
    takes_so side own rs e f g =
        let a = subst (λ (d : Side). CanTakeAll d (right_source p j) (kept_at old.plan d (passing_at p d k.changes)) old) (sym e) takes in
        let b = subst (λ n. CanTakeAll side n (kept_at old.plan side (passing_at p side k.changes)) old) (sym f) a in
        subst (λ l. CanTakeAll side own (kept_at old.plan side l) old) (sym g) b

    -- the left rows of which it cannot tell
    pub untold_so : (side : Side) (rs : List Record) → side ≡ source_side p j → rs ≡ passing_at p side k.changes → untold_lefts side old rs ≡ unknown (seen p s (entries_of line) (keys_in old.right)) j k.changes
    untold_so side rs e g =
        ap (untold_lefts side old) g ∙ (ap (λ (d : Side). untold_lefts d old (passing_at p d k.changes)) e ∙ untold_is p s (entries_of line) [] [] old holds sees.up sees.column sees.known j k.changes)

    module _ (new : Held) (records : List Record) where
      holds_by : (b : Bool) → is_left p j ≡ b → IsChanged (cond b Left Right) (right_source p j) (passed (cond b Left Right)) old new records → HoldsRows p s (slice_set (entries_of line) j k.to) new
      holds_by true e c =
          left_holds p s (entries_of line) (slice_set (entries_of line) j k.to) k.changes old holds (go_left e) new c.other c.found (subst (λ rs. Turns old.lefts rs new.lefts) (kept_is Left) (c.lefts refl))
      holds_by false e c =
          let g = go_right e in
          right_holds p s (entries_of line) (slice_set (entries_of line) j k.to) k.changes old holds g.0 (right_source p j) k.from k.to g.1 sees.column new c.other c.found c.keys c.sources
          (λ v. subst (λ rs. state_in new.right (datum_of v) ≡ turned_right (right_source p j) rs (datum_of v) old.right) (kept_is Right) (c.right refl v))

      changed_so : (side : Side) (own : ℕ) (rs : List Record) → side ≡ source_side p j → own ≡ right_source p j → rs ≡ passing_at p side k.changes → IsChanged side own rs old new records → IsChanged (source_side p j) (right_source p j) (passed (source_side p j)) old new records
      changed_so side own rs e f g c =
          subst (λ (d : Side). IsChanged d (right_source p j) (passing_at p d k.changes) old new records) e
          (subst (λ n. IsChanged side n (passing_at p side k.changes) old new records) f (subst (λ l. IsChanged side own l old new records) g c))

      pub holds_so : (side : Side) (own : ℕ) (rs : List Record) → side ≡ source_side p j → own ≡ right_source p j → rs ≡ passing_at p side k.changes → IsChanged side own rs old new records → HoldsRows p s (slice_set (entries_of line) j k.to) new
      holds_so side own rs e f g c = holds_by (is_left p j) refl (changed_so side own rs e f g c)

      -- the truth of what is told
      module _ (alloc : Global) (seen_after : IsSeen new) (r : Reader) (view : r.view < length p.views) where
        abbrev rows : List Cells
        rows = unknown (seen p s (entries_of line) (keys_in old.right)) j k.changes

        turns_by : (b : Bool) → is_left p j ≡ b → IsChanged (cond b Left Right) (right_source p j) (passed (cond b Left Right)) old new records → untold_lefts (cond b Left Right) old (passed (cond b Left Right)) ≡ rows
            → TurnsSpared p s (entries_of line) (slice_set (entries_of line) j k.to) records rows grows still_line r
        turns_by true e c same d own none =
            let spare = subst (Each (λ l. has (view_at p r.view).key d l ≡ false)) (sym same) (spared p rows r d view own none) in
            let then = holds_by true e c in
            by p.right refl spare then
          where
            by : (o : Option SideLayout) → p.right ≡ o → Each (λ l. has (view_at p r.view).key d l ≡ false) (untold_lefts Left old (passing_at p Left k.changes)) → HoldsRows p s (slice_set (entries_of line) j k.to) new
                → Turns (part p s (entries_of line) r.view d) (filter (λ (c : Record). has (key_column p r.view) d c.row) records) (part p s (slice_set (entries_of line) j k.to) r.view d)
            by None bare spare then = turns_none alloc p s (entries_of line) (slice_set (entries_of line) j k.to) k.changes records facts is still_line old new holds then c.difference r.view view d bare
            by (Some side) some spare then = left_turns alloc p s (entries_of line) (slice_set (entries_of line) j k.to) k.changes records facts is still_line old new holds then c.difference r.view view d sees.column sees.known sees.apart side some (go_left e) c.other spare
        turns_by false e c same d own none =
            let g = go_right e in
            let spare = subst (Each (λ l. has (view_at p r.view).key d l ≡ false)) (sym same) (spared p rows r d view own none) in
            let passing = ap (λ o. passing_at (record p { right = o }) Right k.changes) g.1.there in
            right_turns alloc p s (entries_of line) (slice_set (entries_of line) j k.to) k.changes records facts is still_line old new holds (holds_by false e c) c.difference r.view view d sees.column sees.known sees.apart g.0 g.1.there sees.up
            (lefts_are p s (entries_of line) [] [] old holds sees.up sees.column sees.known) (right_source p j) k.from k.to g.1 c.other c.keys seen_after.column seen_after.known seen_after.apart
            (subst (λ rs. Each (λ l. has (view_at p r.view).key d l ≡ false) (untold_lefts Right old rs)) passing spare)

        pub told_so : (side : Side) (own : ℕ) (rs : List Record) → side ≡ source_side p j → own ≡ right_source p j → rs ≡ passing_at p side k.changes → IsChanged side own rs old new records
            → IsTrueStage (told p s (entries_of line) (slice_set (entries_of line) j k.to) records (entry_names p s (entries_of line) (keys_in old.right) j k.changes) None r)
        told_so side own rs e f g c =
            told_true p s (entries_of line) (slice_set (entries_of line) j k.to) records rows grows still_line r
            (turns_by (is_left p j) refl (changed_so side own rs e f g c) (untold_so (source_side p j) (passing_at p (source_side p j) k.changes) refl refl))
