use Rattle.std.proofs.Common.{Some, sym, ◌∙◌}
use Rattle.row.proofs.ValueMaps.{finds_number, finds_other, parted_put, other_put, parted_same, other_same, updated, other_updated, puts, other_puts, whole_unique}
use Rattle.row.proofs.value_map.ValueMap.insert.Goals as goal

pub returns-in_err-insert-in-Some-clause-unique : goal.returns-in_err-insert-in-Some-clause-unique
returns-in_err-insert-in-Some-clause-unique g c =
    let m = c.self.inside in
    whole_unique c.insert.new.self m.others (parted_same m.numbers c.insert.new.self m.others c.self.invariant c.insert.ensures.unique c.in_err-insert-in-Some.ensures.err)

pub invariant_of-self-in-Some-1 : goal.invariant_of-self-in-Some-1
invariant_of-self-in-Some-1 g c =
    let m = c.self.inside in
    let put = c.in_ok-insert-in-Some in
    parted_put m.numbers c.insert.new.self m.others c.self.invariant c.insert.ensures.unique c.args.key c.in-Some.number (sym c.small_of.ensures ∙ c.in-Some.is) c.args.value put.field-0 put.ensures.keys_stay put.ensures.entries

pub returns-in_err-insert-in-None-clause-unique : goal.returns-in_err-insert-in-None-clause-unique
returns-in_err-insert-in-None-clause-unique g c =
    let m = c.self.inside in
    whole_unique m.numbers c.insert-in-None.new.self (other_same m.numbers m.others c.insert-in-None.new.self c.self.invariant c.insert-in-None.ensures.unique c.in_err-insert-in-None.ensures.err)

pub invariant_of-self-in-None : goal.invariant_of-self-in-None
invariant_of-self-in-None g c =
    let m = c.self.inside in
    let put = c.in_ok-insert-in-None in
    other_put m.numbers m.others c.insert-in-None.new.self c.self.invariant c.insert-in-None.ensures.unique c.args.key (sym c.small_of.ensures ∙ c.in-None.is) c.args.value put.field-0 put.ensures.keys_stay put.ensures.entries

pub returns-in_ok-insert-in-Some-clause-old : goal.returns-in_ok-insert-in-Some-clause-old
returns-in_ok-insert-in-Some-clause-old g c =
    let m = c.self.inside in
    rw (← c.self.view_is) (c.in_ok-insert-in-Some.ensures.old ∙ sym (finds_number m.numbers m.others c.self.invariant c.args.key c.in-Some.number (sym c.small_of.ensures ∙ c.in-Some.is)))

pub returns-in_ok-insert-in-Some-clause-updates : goal.returns-in_ok-insert-in-Some-clause-updates
returns-in_ok-insert-in-Some-clause-updates g c =
    let m = c.self.inside in
    let put = c.in_ok-insert-in-Some in
    let is = sym c.small_of.ensures ∙ c.in-Some.is in
    let kept = parted_put m.numbers c.insert.new.self m.others c.self.invariant c.insert.ensures.unique c.args.key c.in-Some.number is c.args.value put.field-0 put.ensures.keys_stay put.ensures.entries in
    let u = put.ensures.updates in
    rw (← c.self.view_is) (updated m.numbers c.insert.new.self m.others c.self.invariant c.insert.ensures.unique c.args.key c.in-Some.number is kept (Some c.args.value) u.0)

pub returns-in_ok-insert-in-Some-clause-entries : goal.returns-in_ok-insert-in-Some-clause-entries
returns-in_ok-insert-in-Some-clause-entries g c =
    let m = c.self.inside in
    let put = c.in_ok-insert-in-Some in
    rw (← c.self.view_is) (puts m.numbers c.insert.new.self m.others c.self.invariant c.insert.ensures.unique c.args.key c.in-Some.number (sym c.small_of.ensures ∙ c.in-Some.is) c.args.value put.field-0 put.ensures.entries)

pub returns-in_ok-insert-in-Some-clause-unique : goal.returns-in_ok-insert-in-Some-clause-unique
returns-in_ok-insert-in-Some-clause-unique g c =
    let m = c.self.inside in
    let put = c.in_ok-insert-in-Some in
    whole_unique c.insert.new.self m.others
    (parted_put m.numbers c.insert.new.self m.others c.self.invariant c.insert.ensures.unique c.args.key c.in-Some.number (sym c.small_of.ensures ∙ c.in-Some.is) c.args.value put.field-0 put.ensures.keys_stay put.ensures.entries)

pub returns-in_ok-insert-in-None-clause-old : goal.returns-in_ok-insert-in-None-clause-old
returns-in_ok-insert-in-None-clause-old g c =
    let m = c.self.inside in
    rw (← c.self.view_is) (c.in_ok-insert-in-None.ensures.old ∙ sym (finds_other m.numbers m.others c.self.invariant c.args.key (sym c.small_of.ensures ∙ c.in-None.is)))

pub returns-in_ok-insert-in-None-clause-updates : goal.returns-in_ok-insert-in-None-clause-updates
returns-in_ok-insert-in-None-clause-updates g c =
    let m = c.self.inside in
    let put = c.in_ok-insert-in-None in
    let is = sym c.small_of.ensures ∙ c.in-None.is in
    let kept = other_put m.numbers m.others c.insert-in-None.new.self c.self.invariant c.insert-in-None.ensures.unique c.args.key is c.args.value put.field-0 put.ensures.keys_stay put.ensures.entries in
    let u = put.ensures.updates in
    rw (← c.self.view_is) (other_updated m.numbers m.others c.insert-in-None.new.self c.self.invariant c.insert-in-None.ensures.unique c.args.key is kept (Some c.args.value) u.0)

pub returns-in_ok-insert-in-None-clause-entries : goal.returns-in_ok-insert-in-None-clause-entries
returns-in_ok-insert-in-None-clause-entries g c =
    let m = c.self.inside in
    let put = c.in_ok-insert-in-None in
    rw (← c.self.view_is) (other_puts m.numbers m.others c.insert-in-None.new.self c.self.invariant c.insert-in-None.ensures.unique c.args.key (sym c.small_of.ensures ∙ c.in-None.is) c.args.value put.field-0 put.ensures.entries)

pub returns-in_ok-insert-in-None-clause-unique : goal.returns-in_ok-insert-in-None-clause-unique
returns-in_ok-insert-in-None-clause-unique g c =
    let m = c.self.inside in
    let put = c.in_ok-insert-in-None in
    whole_unique m.numbers c.insert-in-None.new.self
    (other_put m.numbers m.others c.insert-in-None.new.self c.self.invariant c.insert-in-None.ensures.unique c.args.key (sym c.small_of.ensures ∙ c.in-None.is) c.args.value put.field-0 put.ensures.keys_stay put.ensures.entries)
