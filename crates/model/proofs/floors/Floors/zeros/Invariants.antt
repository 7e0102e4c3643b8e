use Rattle.std.proofs.Common.{◌≡◌, map, replicate, take, []}
use Rattle.model.proofs.floors.Floors.zeros.Given as goal

abbrev pub invariant-loop-view : goal.invariant-loop-view
invariant-loop-view l = map (λ v. v.items) l.rows.items ≡ map (λ w. replicate w.shards []) (take l.view l.fn.plan.views)
