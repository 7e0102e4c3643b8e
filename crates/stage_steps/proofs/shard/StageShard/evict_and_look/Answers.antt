use Rattle.row.specs.Cells.{datum_of}
use Rattle.protocol.specs.StageSteps.{order_taken}
use Rattle.stage_steps.proofs.Puts.{after}
use Rattle.stage_steps.proofs.shard.StageShard.evict_and_look.Goals as goal

pub returns-clause-done : goal.returns-clause-done
returns-clause-done g c d put =
    c.look.ensures.done (after d (order_taken d.stage d.stage.right (datum_of c.args.key.now))) (c.in_ok-evict.ensures.done d put)
