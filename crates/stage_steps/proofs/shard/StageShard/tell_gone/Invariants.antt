use Rattle.std.proofs.Common.{◌≡◌, map, take}
use Rattle.row.specs.Bags.{sorted}
use Rattle.row.specs.Cells.{datum_cmp, datum_of}
use Rattle.plan.specs.Layouts.{ViewLayout}
use Rattle.plan.specs.Outputs.{keys_of}
use Rattle.protocol.specs.Stages.{of_stage_key}
use Rattle.stage_steps.specs.Shards.{stage_of}
use Rattle.stage_steps.specs.Told.{names_in}
use Rattle.stage_steps.proofs.shard.StageShard.tell_gone.Given as goal

abbrev pub invariant-loop-view : goal.invariant-loop-view
invariant-loop-view g l = names_in l.names.items ≡ map (λ (v : ViewLayout). sorted datum_cmp (keys_of v.key (of_stage_key (stage_of l.self) (datum_of l.key)))) (take l.view l.self.plan.views)
