use Rattle.std.proofs.Common.{◌++◌, ap, sym, ◌∙◌}
use Rattle.plan.proofs.Ranges.{flat_map_more}
use Rattle.packet.specs.Readers.{readers_of}
use Rattle.book.proofs.book.first_copies.Goals as goal

pub loop-view-preserved : goal.loop-view-preserved
loop-view-preserved g c =
    let p = c.args.plan.now in
    c.in_ok-push_copies.ensures ∙ ap (λ t. t ++ readers_of p c.loop-view.view) c.loop-view.invariant ∙ sym (flat_map_more (readers_of p) c.loop-view.view)
