-- What a call that changes the rows says of them.
use Rattle.std.proofs.Common.{◌≡◌, ℕ, List, Result, Ok, Err, OnOk, IfOk, subst}
use Rattle.std.specs.Prelude.{Vec}
use Rattle.std.specs.Global.{Global}
use Rattle.row.specs.Cells.{datum_of}
use Rattle.row.specs.Changes.{Turns}
use Rattle.row.specs.declared.record.Record.{Record}
use Rattle.row.specs.declared.value.Value.{Value}
use Rattle.ops.specs.declared.side.Side.{Side}
use Rattle.ops.specs.declared.side.Side.TheVariants.{Left, Right}
use Rattle.right_rows.specs.Rights.{keys_in, state_in}
use Rattle.stage_sides.specs.Held.{AreFound, Held, IsOtherSide, output_over, turned_right}
use Rattle.stage_sides.specs.Kept.{kept_at}
use Rattle.stage_steps.specs.Rows.{IsChanged}

module _ (side : Side) (own : ℕ) (rs kept : List Record) (old new : Held) (is : kept ≡ kept_at old.plan side rs) where
  -- the call went well, or nothing is said
  pub changed_if : {E : Type 0} (r : Result (Vec Record Global) E) → new.right.sources ≡ old.right.sources → OnOk r (AreFound new) → IsOtherSide side old new → OnOk r (side ≡ Left → Turns old.lefts kept new.lefts)
      → OnOk r (side ≡ Right → (k : Value) → state_in new.right (datum_of k) ≡ turned_right own kept (datum_of k) old.right) → keys_in new.right ≡ keys_in old.right → IfOk r (λ (v : Vec Record Global). Turns (output_over old) v.items (output_over new))
      → IfOk r (λ (v : Vec Record Global). IsChanged side own rs old new v.items)
  changed_if (Err e) sources found other lefts right keys difference = tt
  changed_if (Ok v) sources found other lefts right keys difference = record {
    found = found;
    other = other;
    sources = sources;
    lefts = λ e. subst (λ l. Turns old.lefts l new.lefts) is (lefts e);
    right = λ e k. subst (λ l. state_in new.right (datum_of k) ≡ turned_right own l (datum_of k) old.right) is (right e k);
    keys = keys;
    difference = difference;
  }
