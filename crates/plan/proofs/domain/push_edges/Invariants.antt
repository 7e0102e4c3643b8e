use Rattle.std.proofs.Common.{◌≡◌, ◌++◌, drop}
use Rattle.plan.specs.Domains.{edges_from}
use Rattle.plan.proofs.domain.push_edges.Given as goal

abbrev pub invariant-loop-target : goal.invariant-loop-target
invariant-loop-target l = l.out.items ++ edges_from l.from (drop l.target-index l.to) ≡ l.fn.out.items ++ edges_from l.from l.to
