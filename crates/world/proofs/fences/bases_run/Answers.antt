use Rattle.std.proofs.Common.{rules, map, slice_get}
use Rattle.std.proofs.lemmas.Iterator.{YieldsList-from_slice}
use Rattle.std.proofs.lemmas.Iterator.Search.{all_from_yields_List}
use Rattle.protocol.specs.WorldSteps.{is_up}
use Rattle.machine.specs.Held.{base_node}
use Rattle.world.proofs.fences.bases_run.Goals as goal

pub returns : goal.returns
returns g c = all_from_yields_List (λ b. is_up (slice_get (map (base_node g.F.Fronts.log g.F.Fronts.authors) c.args.bases.now) b)) _ _ c.all.result c.all.ensures.ran (YieldsList-from_slice c.args.sources.now cc) (λ x b q k. search rules)
