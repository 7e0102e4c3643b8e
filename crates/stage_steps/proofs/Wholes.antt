-- A call on a stage key leaves a stage shard one.
use Rattle.std.proofs.Common.{◌≡◌, ℕ, suc, List, [], ◌∷◌, drop, length, Option, Some, None, IsSome, refl, ap, sym, ◌∙◌, subst, arith}
use Rattle.std.specs.Option.{option_map}
use Rattle.std.proofs.lemmas.List.{length-map, length-drop}
use Rattle.row.specs.Cells.{Cells, Datum, datum_of}
use Rattle.row.specs.declared.value.Value.{Value}
use Rattle.plan.specs.Layouts.{Layout, SideLayout}
use Rattle.model.specs.Places.{side_count, sources}
use Rattle.model.specs.Queries.{Line}
use Rattle.ops.specs.SideRows.{Rows}
use Rattle.partial.specs.Sums.{sum_of_bags}
use Rattle.partial.specs.Truth.{IsTrueOf}
use Rattle.packet.specs.Keys.{Keys, stand_of}
use Rattle.packet.specs.Lines.{entries_of}
use Rattle.packet.specs.Truth.{IsFrontOf, Pointwise, right_shares}
use Rattle.protocol.specs.StageSteps.{right_count}
use Rattle.right_rows.specs.Rights.{keys_in, state_in}
use Rattle.stage_sides.specs.Held.{AreFound, Held}
use Rattle.stage_steps.specs.Shards.{HoldsRight, IsWhole, Shard}

abbrev pub keys_by : Rows → List Datum → Keys
keys_by i order = record { at = λ k. stand_of (state_in i k); order = order }

keys_none : (i : Rows) → keys_in i ≡ None → i.keys ≡ None
keys_none i = step i.keys
  where
    step : (o : Option (List Datum)) → option_map (keys_by i) o ≡ None → o ≡ None
    step None e = refl
    step (Some order) e = cc

some_keys : (i : Rows) → IsSome (keys_in i) → IsSome i.keys
some_keys i = step i.keys
  where
    step : (o : Option (List Datum)) → IsSome (option_map (keys_by i) o) → IsSome o
    step None h = h
    step (Some order) h = refl

some_mapped : {A B : Type 0} (f : A → B) (o : Option A) → IsSome o → IsSome (option_map f o)
some_mapped f None h = h
some_mapped f (Some a) h = refl

module _ (old new : Rows) (f : Keys → Keys) (e : keys_in new ≡ option_map f (keys_in old)) where
  none_after : old.keys ≡ None → new.keys ≡ None
  none_after none = keys_none new (e ∙ ap (option_map f) (ap (option_map (keys_by old)) none))

  pub some_after : IsSome old.keys → IsSome new.keys
  some_after some = some_keys new (subst IsSome (sym e) (some_mapped f (keys_in old) (some_mapped (keys_by old) old.keys some)))

  keep_right : (p : Layout) (s : ℕ) (side : Option SideLayout) (fronts : Line) → length fronts ≡ right_count p → HoldsRight p s side fronts old → new.sources ≡ old.sources
      → ((k : Value) (parts : List (List Cells)) → length parts ≡ old.sources → IsTrueOf sum_of_bags parts (state_in old (datum_of k)) → IsTrueOf sum_of_bags parts (state_in new (datum_of k))) → HoldsRight p s side fronts new
  keep_right p s None fronts count h same keeps = none_after h
  keep_right p s (Some side) fronts count h same keeps = (some_after h.0, same ∙ h.1, λ k. keeps k (right_shares p s side (datum_of k) fronts) (length-map fronts _ ∙ (count ∙ sym h.1)) (h.2 k))

line_length : (p : Layout) (bs : List ℕ) (line : Line) → Pointwise (IsFrontOf p) bs line → length line ≡ length bs
line_length p [] [] h = refl
line_length p [] (f ∷ line) h = absurd h
line_length p (b ∷ bs) [] h = absurd h
line_length p (b ∷ bs) (f ∷ line) h = ap suc (line_length p bs line h.1)

pub count_is : (x : Shard) → IsWhole x → length (drop (side_count x.plan x.plan.left) (entries_of x.line)) ≡ right_count x.plan
count_is x whole = omega (arith, length-drop (side_count x.plan x.plan.left) (entries_of x.line), line_length x.plan (sources x.plan) (entries_of x.line) whole.fronts)

-- with another right side that is true
pub with_right : (x : Shard) (rows : Held) → IsWhole x → rows ≡ record x.rows { right = rows.right } → HoldsRight x.plan x.shard x.plan.right (drop (side_count x.plan x.plan.left) (entries_of x.line)) rows.right → IsWhole (record x { rows = rows })
with_right x rows whole is right = record {
  shard = whole.shard;
  of = whole.of;
  fronts = whole.fronts;
  senders = whole.senders;
  rows = record {
    plan = ap (λ (h : Held). h.plan) is ∙ whole.rows.plan;
    found = subst AreFound (sym is) whole.rows.found;
    lefts = rw is whole.rows.lefts;
    right = right;
  };
  pending = whole.pending;
}

pub still_whole : (x : Shard) (rows : Held) → IsWhole x → rows ≡ record x.rows { right = rows.right } → rows.right.sources ≡ x.rows.right.sources → (f : Keys → Keys) → keys_in rows.right ≡ option_map f (keys_in x.rows.right)
    → ((k : Value) (parts : List (List Cells)) → length parts ≡ x.rows.right.sources → IsTrueOf sum_of_bags parts (state_in x.rows.right (datum_of k)) → IsTrueOf sum_of_bags parts (state_in rows.right (datum_of k))) → IsWhole (record x { rows = rows })
still_whole x rows whole is same f keys keeps =
    with_right x rows whole is (keep_right x.rows.right rows.right f keys x.plan x.shard x.plan.right (drop (side_count x.plan x.plan.left) (entries_of x.line)) (count_is x whole) whole.rows.right same keeps)
