-- Base shards found by their tables, and sources by their sides.
use Rattle.std.proofs.Common.{◌≡◌, ℕ, ◌+◌, ◌-◌, ◌<◌, ◌≤◌, length, refl, ap, sym, subst, ◌∙◌, arith, Option, Some, None}
use Rattle.plan.specs.Layouts.{SideLayout, Layout, no_table, table_at}
use Rattle.plan.specs.Facts.{IfThere, IsTable, IsSide, Facts}
use Rattle.model.specs.Places.{shards_before, base_count, base_at, table_of, shard_of, side_count, sources, source_at}
use Rattle.model.proofs.PlaceLaws.{IsPlaced, placed, base_table, base_shard, base_range, source_right, source_count, source_count_left}
use Rattle.model.proofs.Lists.{each_at}

-- base shard b is one of table t
pub record IsIn (p : Layout) (t b : ℕ) : Type 0 where
  pub least : shards_before p.tables t ≤ b
  pub most : b - shards_before p.tables t < (table_at p t).shards

-- then it is the shard that is so far past those before the table
pub record IsFound (p : Layout) (t b : ℕ) : Type 0 where
  pub there : b < base_count p
  pub table : t ≡ table_of p b
  pub shard : b - shards_before p.tables t ≡ shard_of p b

pub found : (p : Layout) (t b : ℕ) → t < length p.tables → IsIn p t b → IsFound p t b
found p t b lt in_table =
    let j : ℕ = b - shards_before p.tables t in
    let is : base_at p t j ≡ b = omega (arith, in_table.least) in
    record {
      there = omega (arith, is, base_range p t j lt in_table.most);
      table = sym (ap (table_of p) (sym is) ∙ base_table p t j lt in_table.most);
      shard = sym (ap (shard_of p) (sym is) ∙ base_shard p t j lt in_table.most);
    }

-- a base shard of no table is none
pub not_found : (p : Layout) (b : ℕ) → ((t : ℕ) → t < length p.tables → IsIn p t b → ⊥) → b < base_count p → ⊥
not_found p b none lt =
    let at : IsPlaced p.tables b = placed p.tables b lt in
    none (table_of p b) at.table (record { least = omega (arith, at.number); most = omega (arith, at.number, at.shard) })

-- no table has more than 8 shards
pub few_shards : (p : Layout) (t : ℕ) → Facts p → t < length p.tables → (table_at p t).shards ≤ 8
few_shards p t plan lt = (each_at IsTable p.tables t no_table plan.tables lt).shards.most_of

few_sides : (p : Layout) (o : Option SideLayout) → Facts p → p.right ≡ o → length (sources p) ≤ 16
few_sides p None plan is = omega (arith, source_count_left p is, few_shards p p.left.table plan plan.left.table)
few_sides p (Some side) plan is =
    let right = subst (λ (o : Option SideLayout). IfThere o (IsSide p)) is plan.right in
    omega (arith, source_count p side is, few_shards p p.left.table plan plan.left.table, few_shards p side.table plan right.table)

-- no stage has more than 16 sources
pub few_sources : (p : Layout) → Facts p → length (sources p) ≤ 16
few_sources p plan = few_sides p p.right plan refl

-- a source past those of the left side is of the right side
pub source_past : (p : Layout) (side : SideLayout) (j n : ℕ) → p.right ≡ Some side → n ≡ side_count p p.left → n ≤ j → j < length (sources p) → base_at p side.table (j - n) ≡ source_at p j
source_past p side j n is own past lt =
    let count = source_count p side is in
    let e : side_count p p.left + (j - n) ≡ j = omega arith in
    sym (source_right p side (j - n) is (omega (arith, count))) ∙ ap (source_at p) e
