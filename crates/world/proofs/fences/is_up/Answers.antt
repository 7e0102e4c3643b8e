use Rattle.std.proofs.Common.{◌&&◌, map, ap, ◌∙◌}
use Rattle.protocol.specs.WorldSteps.{all_run, lower_run}
use Rattle.machine.specs.Held.{view_node, world_of}
use Rattle.machine.specs.Machines.{held}
use Rattle.world.proofs.fences.is_up.Goals as goal

pub returns : goal.returns
returns g c =
    let w = world_of g.F.Fronts.log g.F.Fronts.authors (held c.args.machine.now) in
    c.are_both.ensures
    ∙ (ap (λ a. a && c.views_run-views.result) c.lower_runs-lower.ensures
    ∙ ap (λ v. lower_run w && v) (c.views_run-views.ensures ∙ ap (λ xs. all_run (map view_node xs)) c.deref.ensures.value))
