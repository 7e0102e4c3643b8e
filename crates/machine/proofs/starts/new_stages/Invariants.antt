use Rattle.machine.specs.Held.{Are}
use Rattle.packet.specs.Lines.{empty_line}
use Rattle.stage_domain.specs.Domains.{IsNew}
use Rattle.machine.proofs.starts.new_stages.Given as goal

abbrev pub invariant-loop-shard : goal.invariant-loop-shard
invariant-loop-shard g l = Are (λ s d. IsNew l.plan s (empty_line l.plan) d) l.shard l.stages.items
