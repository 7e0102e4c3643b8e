use Rattle.std.proofs.Common.{None, sym, ◌∙◌}
use Rattle.row.proofs.ValueMaps.{finds_number, finds_other, parted_removed, other_removed, updated, other_updated, removes, other_removes, whole_unique}
use Rattle.row.proofs.value_map.ValueMap.remove.Goals as goal

pub invariant_of-self : goal.invariant_of-self
invariant_of-self g c =
    let m = c.self.inside in
    let is = sym c.small_of.ensures ∙ c.in-Some.is in
    parted_removed m.numbers c.remove.new.self m.others c.self.invariant c.remove.ensures.unique c.args.key.now c.in-Some.number is c.remove.ensures.entries

pub invariant_of-self-in-None : goal.invariant_of-self-in-None
invariant_of-self-in-None g c =
    let m = c.self.inside in
    other_removed m.numbers m.others c.remove-in-None.new.self c.self.invariant c.remove-in-None.ensures.unique c.args.key.now (sym c.small_of.ensures ∙ c.in-None.is) c.remove-in-None.ensures.entries

pub returns-in-Some-clause-value : goal.returns-in-Some-clause-value
returns-in-Some-clause-value g c =
    let m = c.self.inside in
    let is = sym c.small_of.ensures ∙ c.in-Some.is in
    rw (← c.self.view_is) (c.remove.ensures.value ∙ sym (finds_number m.numbers m.others c.self.invariant c.args.key.now c.in-Some.number is))

pub returns-in-Some-clause-updates : goal.returns-in-Some-clause-updates
returns-in-Some-clause-updates g c =
    let m = c.self.inside in
    let is = sym c.small_of.ensures ∙ c.in-Some.is in
    let u = c.remove.ensures.updates in
    rw (← c.self.view_is) (updated m.numbers c.remove.new.self m.others c.self.invariant c.remove.ensures.unique c.args.key.now c.in-Some.number is (invariant_of-self g c) None u.0)

pub returns-in-Some-clause-entries : goal.returns-in-Some-clause-entries
returns-in-Some-clause-entries g c =
    let m = c.self.inside in
    let is = sym c.small_of.ensures ∙ c.in-Some.is in
    rw (← c.self.view_is) (removes m.numbers c.remove.new.self m.others c.self.invariant c.remove.ensures.unique c.args.key.now c.in-Some.number is c.remove.ensures.entries)

pub returns-in-Some-clause-unique : goal.returns-in-Some-clause-unique
returns-in-Some-clause-unique g c = whole_unique c.remove.new.self c.self.inside.others (invariant_of-self g c)

pub returns-in-None-clause-value : goal.returns-in-None-clause-value
returns-in-None-clause-value g c =
    let m = c.self.inside in
    rw (← c.self.view_is) (c.remove-in-None.ensures.value ∙ sym (finds_other m.numbers m.others c.self.invariant c.args.key.now (sym c.small_of.ensures ∙ c.in-None.is)))

pub returns-in-None-clause-updates : goal.returns-in-None-clause-updates
returns-in-None-clause-updates g c =
    let m = c.self.inside in
    let u = c.remove-in-None.ensures.updates in
    rw (← c.self.view_is) (other_updated m.numbers m.others c.remove-in-None.new.self c.self.invariant c.remove-in-None.ensures.unique c.args.key.now (sym c.small_of.ensures ∙ c.in-None.is) (invariant_of-self-in-None g c) None u.0)

pub returns-in-None-clause-entries : goal.returns-in-None-clause-entries
returns-in-None-clause-entries g c =
    let m = c.self.inside in
    rw (← c.self.view_is) (other_removes m.numbers m.others c.remove-in-None.new.self c.self.invariant c.remove-in-None.ensures.unique c.args.key.now (sym c.small_of.ensures ∙ c.in-None.is) c.remove-in-None.ensures.entries)

pub returns-in-None-clause-unique : goal.returns-in-None-clause-unique
returns-in-None-clause-unique g c = whole_unique c.self.inside.numbers c.remove-in-None.new.self (invariant_of-self-in-None g c)
