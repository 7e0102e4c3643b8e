use Rattle.std.proofs.Common.{◌∙◌, sym, ap}
use Rattle.std.specs.Option.{option_map}
use Rattle.linked_map.proofs.Entries.{missed, found}
use Rattle.linked_map.proofs.Maps.{hit_value, hit_removed, miss_value, miss_removed}
use Rattle.linked_map.proofs.map.LinkedMap.pop.Goals as goal

pub returns-in_err-place-clause-value : goal.returns-in_err-place-clause-value
returns-in_err-place-clause-value g c =
    let es = c.self.inside.map.entries in
    let eq = g.K.PartialEq.eq in
    rw (c.from_residual.ensures, ← c.self.view_is)
    (sym (miss_value es c.self.inside.ring c.len-len.ensures.order c.self.invariant eq c.args.key.now (missed (eq c.args.key.now) es (sym c.in_err-place.ensures.index))))

pub returns-in_err-place-clause-entries : goal.returns-in_err-place-clause-entries
returns-in_err-place-clause-entries g c =
    let es = c.self.inside.map.entries in
    let eq = g.K.PartialEq.eq in
    rw (← c.self.view_is) (miss_removed es c.self.inside.ring c.len-len.ensures.order c.self.invariant eq c.args.key.now (missed (eq c.args.key.now) es (sym c.in_err-place.ensures.index)))

pub returns-clause-value : goal.returns-clause-value
returns-clause-value g c =
    let es = c.self.inside.map.entries in
    let eq = g.K.PartialEq.eq in
    let f = found g.met.K.Eq.laws c.args.key.now es c.in_ok-place.place c.get_index_of.ensures.unique (sym c.in_ok-place.ensures.index) in
    rw (← c.self.view_is) (ap (option_map (λ e. e.1)) (c.take_out-value.ensures.taken ∙ f.1.at)
    ∙ sym (hit_value es c.self.inside.ring c.len-len.ensures.order c.self.invariant eq c.args.key.now c.in_ok-place.place f.0 f.1))

pub returns-clause-entries : goal.returns-clause-entries
returns-clause-entries g c =
    let es = c.self.inside.map.entries in
    let eq = g.K.PartialEq.eq in
    let f = found g.met.K.Eq.laws c.args.key.now es c.in_ok-place.place c.get_index_of.ensures.unique (sym c.in_ok-place.ensures.index) in
    rw (← c.self.view_is) (c.take_out-value.ensures.entries
    ∙ hit_removed es c.self.inside.ring c.len-len.ensures.order c.self.invariant eq c.args.key.now c.in_ok-place.place f.0 f.1)
