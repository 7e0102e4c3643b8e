use Rattle.std.proofs.Common.{◌&&◌, map, slice_get, ap, ◌∙◌}
use Rattle.std.specs.List.{list_all}
use Rattle.protocol.specs.WorldSteps.{all_run, is_up}
use Rattle.machine.specs.Held.{base_node, stage_node}
use Rattle.world.proofs.fences.lower_runs.Goals as goal

pub returns : goal.returns
returns g c =
    let log = g.F.Fronts.log in
    let authors = g.F.Fronts.authors in
    let m = c.args.machine.now in
    c.are_both.ensures
    ∙ (ap (λ a. a && c.bases_run-bases.result) (c.stages_run-stages.ensures ∙ ap (λ xs. all_run (map stage_node xs)) c.deref.ensures.value)
    ∙ ap (λ b. all_run (map stage_node m.stages.items) && b)
    (c.bases_run-bases.ensures ∙ (ap (λ xs. list_all (λ b. is_up (slice_get (map (base_node log authors) xs) b)) c.sources.result.now) c.deref-2.ensures.value ∙ ap (list_all (λ b. is_up (slice_get (map (base_node log authors) m.bases.items) b))) c.sources.ensures)))
