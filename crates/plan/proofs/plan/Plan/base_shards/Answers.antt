use Rattle.std.proofs.Common.{◌++◌, map, ap, sym, ◌∙◌}
use Rattle.std.specs.List.{range_with_len}
use Rattle.plan.specs.Domains.{shards_of_table}
use Rattle.plan.specs.declared.domain.DomainId.TheVariants as domain
use Rattle.plan.proofs.Ranges.{flat_map_more}
use Rattle.plan.proofs.plan.Plan.base_shards.Goals as goal

pub loop-table-preserved : goal.loop-table-preserved
loop-table-preserved c =
    let p = c.args.self.now in
    let i = c.loop-table.table in
    c.in_ok-push_bases.ensures
    ∙ ap (λ k. c.loop-table.out.items ++ map (λ n. domain.Base i n) (range_with_len 0 k)) c.table_shards.ensures
    ∙ ap (λ t. t ++ shards_of_table p i) c.loop-table.invariant
    ∙ sym (flat_map_more (shards_of_table p) i)
