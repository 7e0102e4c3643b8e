use Rattle.std.proofs.Common.{sym, ◌∙◌}
use Rattle.row.proofs.ValueMaps.{finds_number, finds_other}
use Rattle.row.proofs.value_map.ValueMap.get.Goals as goal

pub returns-in-Some : goal.returns-in-Some
returns-in-Some g c =
    let m = c.self.inside in
    let is = sym c.small_of.ensures ∙ c.in-Some.is in
    rw (← c.self.view_is) (c.get.ensures.value ∙ sym (finds_number m.numbers m.others c.self.invariant c.args.key.now c.in-Some.number is))

pub returns-in-None : goal.returns-in-None
returns-in-None g c =
    let m = c.self.inside in
    rw (← c.self.view_is) (c.get-in-None.ensures.value ∙ sym (finds_other m.numbers m.others c.self.invariant c.args.key.now (sym c.small_of.ensures ∙ c.in-None.is)))
