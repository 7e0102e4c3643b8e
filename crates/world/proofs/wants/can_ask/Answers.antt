use Rattle.std.proofs.Common.{◌&&◌, map, slice_get, ap, ◌∙◌}
use Rattle.protocol.specs.WorldSteps.{is_up}
use Rattle.machine.specs.Held.{view_node}
use Rattle.world.proofs.wants.can_ask.Goals as goal

pub returns : goal.returns
returns g c =
    c.are_both.ensures
    ∙ (ap (λ a. a && c.lower_runs-lower.result) (c.view_runs-runs.ensures.runs ∙ ap (λ xs. is_up (slice_get (map view_node xs) c.args.reader)) c.deref.ensures.value)
    ∙ ap (λ b. is_up (slice_get (map view_node c.args.machine.now.views.items) c.args.reader) && b) c.lower_runs-lower.ensures)
