use Rattle.std.proofs.Common.{◌≡◌}
use Rattle.protocol.specs.Stages.{Done}
use Rattle.stage_steps.specs.Outboxes.{AreEdges}
use Rattle.stage_steps.specs.Shards.{IsPut, IsWhole}
use Rattle.stage_steps.proofs.Caps.{shrunk}
use Rattle.stage_steps.proofs.shard.StageShard.keep_cap.Given as goal

abbrev pub invariant-loop-gone : goal.invariant-loop-gone
invariant-loop-gone g l = record {
  whole : IsWhole l.self;
  edges : AreEdges l.fn.self.plan l.out;
  others : l.self ≡ record l.fn.self { rows = l.self.rows };
  put : (d : Done) → IsPut d l.fn.out l.fn.self → IsPut (shrunk l._gone d) l.out l.self;
}
