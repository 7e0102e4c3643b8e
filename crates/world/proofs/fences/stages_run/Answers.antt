use Rattle.std.proofs.Common.{rules, ◌∙◌, sym}
use Rattle.std.proofs.lemmas.Iterator.{YieldsList-from_slice}
use Rattle.std.proofs.lemmas.Iterator.Search.{all_from_yields_List}
use Rattle.std.proofs.lemmas.List.Folds.{list_all-map}
use Rattle.protocol.specs.Worlds.{Node}
use Rattle.machine.specs.Held.{runs, stage_node}
use Rattle.world.proofs.fences.stages_run.Goals as goal

pub returns : goal.returns
returns g c =
    all_from_yields_List (λ d. runs d.mode) _ _ c.all.result c.all.ensures.ran (YieldsList-from_slice c.args.stages.now cc) (λ x b q k. search rules)
    ∙ sym (list_all-map (λ (n : Node _). n.runs) stage_node c.args.stages.now)
