use Rattle.std.proofs.Common.{◌≡◌, ◌+◌, ◌++◌, ◌∷◌, [], ℕ, List, ap, sym, ◌∙◌, append_assoc, ◌<◌, subst, arith}
use Rattle.std.specs.List.{range_with_len}
use Rattle.row.specs.Bags.{Each}
use Rattle.model.specs.Places.{base_at, base_count}
use Rattle.model.proofs.PlaceLaws.{range_more}
use Rattle.model.proofs.Lists.{each_push}
use Rattle.model.proofs.places.push_bases.Goals as goal

pub loop-shard-preserved : goal.loop-shard-preserved
loop-shard-preserved c =
    let first = base_at c.args.plan.now c.args.side.now.table 0 in
    let next : c.base_at.result ≡ first + c.loop-shard.shard = c.base_at.ensures.number ∙ (ap (λ (t : ℕ). base_at c.args.plan.now t c.loop-shard.shard) c.table-in-loop-shard.ensures ∙ omega arith) in
    record {
      bases = c.in_ok-push.ensures.items
          ∙ (ap (λ (l : List ℕ). l ++ c.base_at.result ∷ []) c.loop-shard.invariant.bases
          ∙ (append_assoc c.args.bases.now.items (range_with_len first c.loop-shard.shard) (c.base_at.result ∷ [])
          ∙ ap (λ (l : List ℕ). c.args.bases.now.items ++ l) (range_more first c.loop-shard.shard c.base_at.result next)));
      range = subst (λ (l : List ℕ). Each (λ b. b < base_count c.args.plan.now) l) (sym c.in_ok-push.ensures.items) (each_push (λ (b : ℕ). b < base_count c.args.plan.now) c.loop-shard.bases.items c.base_at.result c.loop-shard.invariant.range c.base_at.ensures.range);
    }
