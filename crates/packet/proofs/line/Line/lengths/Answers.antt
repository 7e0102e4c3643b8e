use Rattle.std.proofs.Common.{◌≡◌, ◌≤◌, map, take_all, length, ap, sym, ◌∙◌, rules}
use Rattle.std.proofs.lemmas.Simd.{map-map}
use Rattle.model.specs.Fronts.{LogView}
use Rattle.packet.specs.Lines.{lengths_of}
use Rattle.packet.proofs.line.Line.lengths.Goals as goal

pub returns : goal.returns
returns g c =
    let fronts = c.deref-front-items.result.now in
    let le : length fronts ≤ c.loop-front.front-index = search rules in
    let line : map g.F.Fronts.log fronts ≡ c.args.self.now = ap (λ fs. map g.F.Fronts.log fs) c.deref-front-items.ensures.value ∙ c.self.view_is in
    c.loop-front.invariant ∙ (ap (λ fs. map (λ f. length (g.F.Fronts.log f).entries) fs) (take_all c.loop-front.front-index fronts le) ∙ (sym (map-map (λ (l : LogView). length l.entries) g.F.Fronts.log fronts) ∙ ap lengths_of line))
