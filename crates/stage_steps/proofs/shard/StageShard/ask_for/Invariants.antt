use Rattle.std.proofs.Common.{◌≡◌, map, take}
use Rattle.row.specs.Cells.{datum_of}
use Rattle.protocol.specs.Stages.{Done}
use Rattle.protocol.specs.StageSteps.{asks}
use Rattle.stage_steps.specs.Outboxes.{AreEdges}
use Rattle.stage_steps.specs.Shards.{IsPut, IsWhole}
use Rattle.stage_steps.proofs.Puts.{after}
use Rattle.stage_steps.proofs.shard.StageShard.ask_for.Given as goal

abbrev pub invariant-loop-key : goal.invariant-loop-key
invariant-loop-key g l = record {
  whole : IsWhole l.self;
  edges : AreEdges l.fn.self.plan l.out;
  others : l.self ≡ record l.fn.self { rows = l.self.rows };
  lefts : l.self.rows ≡ record l.fn.self.rows { right = l.self.rows.right };
  put : (d : Done) → IsPut d l.fn.out l.fn.self → IsPut (after d (asks d.stage (map datum_of (take l.key-index l.keys)))) l.out l.self;
}
