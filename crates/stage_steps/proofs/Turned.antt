-- What is held, as the front of one source goes on.
use Rattle.std.proofs.Common.{◌≡◌, ℕ, List, drop, Option, Some, None, IsSome, slice_get, slice_set, refl, ap, sym, ◌∙◌, subst}
use Rattle.row.specs.BagChanges.{with_records}
use Rattle.row.specs.Cells.{Cells, Datum, datum_of}
use Rattle.row.specs.Changes.{IsCovered, Turns}
use Rattle.row.specs.declared.record.Record.{Record}
use Rattle.row.specs.declared.value.Value.{Value}
use Rattle.plan.specs.Layouts.{Layout, SideLayout}
use Rattle.model.specs.Logs.{Change}
use Rattle.model.specs.Places.{side_count}
use Rattle.model.specs.Queries.{Line, left, side_share}
use Rattle.ops.specs.SideRows.{Rows}
use Rattle.ops.specs.Stages.{right_key}
use Rattle.ops.specs.declared.side.Side.TheVariants.{Left, Right}
use Rattle.packet.specs.Keys.{Keys, stand_of}
use Rattle.std.specs.Option.{option_map}
use Rattle.packet.specs.Truth.{right_shares}
use Rattle.partial.specs.BagLaws.{total_changes, total_fits}
use Rattle.partial.specs.States.{State, ChangeFits, after_change}
use Rattle.partial.specs.Sums.{sum_of_bags}
use Rattle.partial.specs.Truth.{IsTrueOf}
use Rattle.partial.proofs.Truth.{change_fits, change_keeps}
use Rattle.protocol.proofs.Lists.{map_get, map_set}
use Rattle.right_rows.specs.Rights.{keys_in, records_of, state_in}
use Rattle.stage_sides.specs.Held.{AreFound, CanTakeAll, Held, IsOtherSide, turned_right}
use Rattle.stage_sides.specs.Kept.{kept_at}
use Rattle.stage_steps.specs.Shards.{HoldsRight, HoldsRows}
use Rattle.stage_steps.proofs.Fronts.{IsLeftStep, IsRightStep, alike_after, covered_by, share_changed, share_covered, share_of}

-- ---- what is kept at a right key
module _ (p : Layout) (s : ℕ) (side : SideLayout) (fronts : Line) (i : ℕ) (from to : List Change) (records : List Record) (x : Datum) (st : State (List Cells)) (at : slice_get fronts i ≡ Some from) (turns : Turns (side_share p s side from) records (side_share p s side to))
    (truth : IsTrueOf sum_of_bags (right_shares p s side x fronts) st) where
  state_fits : ChangeFits IsCovered i (records_of side.key x records) st
  state_fits =
      change_fits with_records IsCovered sum_of_bags total_changes total_fits (right_shares p s side x fronts) i (share_of p s side x from) (records_of side.key x records) st (map_get (share_of p s side x) fronts i from at) (share_covered p s side x from to records turns) truth

  state_true : IsTrueOf sum_of_bags (right_shares p s side x (slice_set fronts i to)) (after_change with_records i (records_of side.key x records) st)
  state_true =
      let t = change_keeps with_records IsCovered sum_of_bags total_changes total_fits (right_shares p s side x fronts) i (share_of p s side x from) (records_of side.key x records) st (map_get (share_of p s side x) fronts i from at) (share_covered p s side x from to records turns) truth in
      let parts = map_set (share_of p s side x) fronts i to ∙ ap (slice_set (right_shares p s side x fronts) i) (share_changed p s side x from to records turns) in
      subst (λ ps. IsTrueOf sum_of_bags ps (after_change with_records i (records_of side.key x records) st)) (sym parts) t

-- which keys there are is told by how they stand
order_is : (i : Rows) → option_map (λ (keys : Keys). keys.order) (keys_in i) ≡ i.keys
order_is i = by i.keys
  where
    by : (ks : Option (List Datum)) → option_map (λ (keys : Keys). keys.order) (option_map (λ order. record { at = λ k. stand_of (state_in i k); order = order }) ks) ≡ ks
    by None = refl
    by (Some order) = refl

pub keys_are : (old new : Rows) → keys_in new ≡ keys_in old → new.keys ≡ old.keys
keys_are old new e = sym (order_is new) ∙ (ap (option_map (λ (keys : Keys). keys.order)) e ∙ order_is old)

some_keys : (old new : Rows) → keys_in new ≡ keys_in old → IsSome old.keys → IsSome new.keys
some_keys old new e h = subst IsSome (sym (keys_are old new e)) h

-- ---- what is held
module _ (p : Layout) (s : ℕ) (line after : Line) (changes : List Record) (old : Held) (holds : HoldsRows p s line old) where
  module _ (step : IsLeftStep p s line after changes) where
    pub left_takes : (j : ℕ) → CanTakeAll Left j (kept_at old.plan Left changes) old
    left_takes j = rw holds.plan (covered_by (left p s line) (left p s after) old.lefts (kept_at p Left changes) holds.lefts step.turns)

    pub left_holds : (new : Held) → IsOtherSide Left old new → AreFound new → Turns old.lefts (kept_at old.plan Left changes) new.lefts → HoldsRows p s after new
    left_holds new other found turns = record {
      plan = other.0 ∙ holds.plan;
      found = found;
      lefts = alike_after (left p s line) (left p s after) old.lefts new.lefts (kept_at p Left changes) holds.lefts step.turns (subst (λ (q : Layout). Turns old.lefts (kept_at q Left changes) new.lefts) holds.plan turns);
      right = rw (step.still, other.1) holds.right;
    }

  module _ (side : SideLayout) (i : ℕ) (from to : List Change) (step : IsRightStep p s line after changes side i from to) (column : old.right.column ≡ right_key old.plan.right) where
    column_is : old.right.column ≡ side.key
    column_is = column ∙ (ap (λ (q : Layout). right_key q.right) holds.plan ∙ ap right_key step.there)

    own_right : HoldsRight p s (Some side) (drop (side_count p p.left) line) old.right
    own_right = subst (λ o. HoldsRight p s o (drop (side_count p p.left) line) old.right) step.there holds.right

    pub right_takes : CanTakeAll Right i (kept_at old.plan Right changes) old
    right_takes k =
        subst (λ (q : Layout). ChangeFits IsCovered i (records_of old.right.column (datum_of k) (kept_at q Right changes)) (state_in old.right (datum_of k))) (sym holds.plan)
        (subst (λ c. ChangeFits IsCovered i (records_of c (datum_of k) (kept_at p Right changes)) (state_in old.right (datum_of k))) (sym column_is)
        (state_fits p s side (drop (side_count p p.left) line) i from to (kept_at p Right changes) (datum_of k) (state_in old.right (datum_of k)) step.at step.own (own_right.2 k)))

    pub right_holds : (new : Held) → IsOtherSide Right old new → AreFound new → keys_in new.right ≡ keys_in old.right → new.right.sources ≡ old.right.sources → ((k : Value) → state_in new.right (datum_of k) ≡ turned_right i (kept_at old.plan Right changes) (datum_of k) old.right)
        → HoldsRows p s after new
    right_holds new other found keys sources turned = record {
      plan = ap (λ (h : Held). h.plan) other ∙ holds.plan;
      found = found;
      lefts = rw (ap (λ (h : Held). h.lefts) other, step.still) holds.lefts;
      right = subst (λ o. HoldsRight p s o (drop (side_count p p.left) after) new.right) (sym step.there)
          (subst (λ (fs : Line). HoldsRight p s (Some side) fs new.right) (sym step.moved)
          (some_keys old.right new.right keys own_right.0, sources ∙ own_right.1, λ k. subst (IsTrueOf sum_of_bags (right_shares p s side (datum_of k) (slice_set (drop (side_count p p.left) line) i to))) (sym (is k)) (truth k)));
    }
      where
        is : (k : Value) → state_in new.right (datum_of k) ≡ after_change with_records i (records_of side.key (datum_of k) (kept_at p Right changes)) (state_in old.right (datum_of k))
        is k = turned k ∙ (ap (λ (q : Layout). after_change with_records i (records_of old.right.column (datum_of k) (kept_at q Right changes)) (state_in old.right (datum_of k))) holds.plan ∙ ap (λ c. after_change with_records i (records_of c (datum_of k) (kept_at p Right changes)) (state_in old.right (datum_of k))) column_is)

        truth : (k : Value) → IsTrueOf sum_of_bags (right_shares p s side (datum_of k) (slice_set (drop (side_count p p.left) line) i to)) (after_change with_records i (records_of side.key (datum_of k) (kept_at p Right changes)) (state_in old.right (datum_of k)))
        truth k = state_true p s side (drop (side_count p p.left) line) i from to (kept_at p Right changes) (datum_of k) (state_in old.right (datum_of k)) step.at step.own (own_right.2 k)
