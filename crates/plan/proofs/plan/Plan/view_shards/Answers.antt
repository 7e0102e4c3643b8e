use Rattle.std.proofs.Common.{◌++◌, map, ap, sym, ◌∙◌}
use Rattle.std.specs.List.{range_with_len}
use Rattle.plan.specs.Layouts.{ViewLayout}
use Rattle.plan.specs.Domains.{shards_of_view}
use Rattle.plan.specs.declared.domain.DomainId.TheVariants as domain
use Rattle.plan.proofs.Ranges.{flat_map_more}
use Rattle.plan.proofs.plan.Plan.view_shards.Goals as goal

pub loop-view-preserved : goal.loop-view-preserved
loop-view-preserved c =
    let p = c.args.self.now in
    let i = c.loop-view.view in
    c.in_ok-push_view.ensures
    ∙ ap (λ k. c.loop-view.out.items ++ map (λ n. domain.View i n) (range_with_len 0 k)) (c.shards.ensures ∙ ap (λ (v : ViewLayout). v.shards) c.view.ensures)
    ∙ ap (λ t. t ++ shards_of_view p i) c.loop-view.invariant
    ∙ sym (flat_map_more (shards_of_view p) i)
