use Rattle.std.proofs.Common.{◌≡◌, map, replicate, take}
use Rattle.plan.specs.Layouts.{ViewLayout}
use Rattle.model.proofs.floors.Floors.even.Given as goal

abbrev pub invariant-loop-view : goal.invariant-loop-view
invariant-loop-view l = map (λ v. v.items) l.rows.items ≡ map (λ (w : ViewLayout). replicate w.shards (replicate l.plan.stages l.line)) (take l.view l.plan.views)
