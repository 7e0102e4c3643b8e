use Rattle.std.proofs.Common.{◌≡◌, ◌++◌, drop}
use Rattle.plan.specs.Domains.{pairs}
use Rattle.plan.proofs.domain.push_pairs.Given as goal

abbrev pub invariant-loop-source : goal.invariant-loop-source
invariant-loop-source l = l.out.items ++ pairs (drop l.source-index l.from) l.to ≡ l.fn.out.items ++ pairs l.from l.to
