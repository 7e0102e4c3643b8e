use Rattle.std.proofs.Common.{◌≡◌, ◌<◌, List, ◌++◌, length}
use Rattle.row.specs.Bags.{Each}
use Rattle.packet.specs.Messages.{Ask}
use Rattle.packet.specs.Readers.{view_of}
use Rattle.protocol.specs.Stages.{Done}
use Rattle.stage_steps.specs.Outboxes.{AreEdges}
use Rattle.stage_steps.specs.Shards.{HasBegun, IsPut, IsSame, IsWhole, stage_of}
use Rattle.stage_steps.proofs.Looked.{looked, waiting_none}
use Rattle.stage_steps.proofs.shard.StageShard.answer_ready.Given as goal

abbrev pub invariant-loop-ask : goal.invariant-loop-ask
invariant-loop-ask g l = record {
  whole : IsWhole l.self;
  edges : AreEdges l.fn.self.plan l.out;
  same : IsSame l.fn.self l.self;
  others : l.self ≡ record l.fn.self { pending = l.self.pending };
  rest : Each (λ (a : Ask). view_of a.tag < length l.fn.self.plan.views) l.ask-iterator.rest.items;
  begun : Each (HasBegun (stage_of l.fn.self)) l.ask-iterator.rest.items;
  done : List Ask;
  whole_list : done ++ l.ask-iterator.rest.items ≡ l.fn.self.pending;
  put : (d : Done) → IsPut d l.fn.out l.fn.self → IsPut (looked done (waiting_none d)) l.out l.self;
}
