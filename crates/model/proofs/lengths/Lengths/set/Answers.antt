use Rattle.std.proofs.Common.{◌≡◌, ◌<◌, length, map, refl, ap, sym, ◌∙◌, ℕ, Vec, Global}
use Rattle.std.specs.Vec.{with_item}
use Rattle.model.specs.Lines.{first_lines, lines_in}
use Rattle.model.proofs.Copies.{first_set, second_set}
use Rattle.model.proofs.Lists.{set_in}
use Rattle.model.proofs.lengths.Lengths.set.Goals as goal

pub returns-in-Here : goal.returns-in-Here
returns-in-Here c =
    let h = c.in-Here in
    let is : first_lines h.stages h.first h.second h.firsts h.seconds ≡ c.args.self.now = ap lines_in (sym h.is) ∙ c.self.view_is in
    rw (← is) (first_set h.stages h.first h.second h.firsts h.seconds c.args.stage c.args.source c.args.len c.if-stage-eq0.true (rw (is) c.requires.stage))

pub returns-in-Here-2 : goal.returns-in-Here-2
returns-in-Here-2 c =
    let h = c.in-Here in
    let is : first_lines h.stages h.first h.second h.firsts h.seconds ≡ c.args.self.now = ap lines_in (sym h.is) ∙ c.self.view_is in
    let held = rw h.is at c.self.invariant in
    rw (← is) (second_set h.stages h.first h.second h.firsts h.seconds c.args.stage c.args.source c.args.len c.if-stage-eq0.false held.1.1.lines (rw (is) c.requires.stage))

pub returns-in-Apart : goal.returns-in-Apart
returns-in-Apart c =
    let lists = λ (v : Vec ℕ Global). v.items in
    let lines = c.in-Apart.lines.items in
    let line = c.index_mut.result.now in
    let is : map lists lines ≡ c.args.self.now = ap lines_in (sym c.in-Apart.is) ∙ c.self.view_is in
    let there : c.args.stage < length (map lists lines) = rw is c.requires.stage in
    rw (← is) (set_in lists lines c.args.stage c.args.source c.args.len line (with_item line c.args.source c.args.len) there c.index_mut.ensures.value refl)
