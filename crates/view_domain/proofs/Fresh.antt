-- A view shard as the call that makes it leaves it.
use Rattle.std.proofs.Common.{◌≡◌, List, replicate, ap, ◌∙◌}
use Rattle.plan.specs.Layouts.{Layout}
use Rattle.model.specs.Fronts.{LogView}
use Rattle.packet.specs.Lines.{empty_line}
use Rattle.packet.specs.Readers.{Reader}
use Rattle.view_domain.specs.Domains.{Domain, new_view}

-- a new view shard, but over this cut
abbrev pub view_from : Layout → Reader → List (List LogView) → Domain
view_from p r cut = record (new_view p r) { cut = cut }

-- over a cut of empty logs it is a new one
pub view_made : (p q : Layout) (r : Reader) (cut : List (List LogView)) (d : Domain) → q ≡ p → cut ≡ replicate q.stages (empty_line q) → d ≡ view_from q r cut → d ≡ new_view p r
view_made p q r cut d same made is = is ∙ (ap (view_from q r) made ∙ ap (λ x. new_view x r) same)
