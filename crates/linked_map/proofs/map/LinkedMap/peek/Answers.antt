use Rattle.std.proofs.Common.{◌∙◌, sym, ap}
use Rattle.std.specs.Option.{option_map}
use Rattle.linked_map.proofs.Entries.{missed, found}
use Rattle.linked_map.proofs.Maps.{hit_value, miss_value}
use Rattle.linked_map.proofs.map.LinkedMap.peek.Goals as goal

pub returns-in_err-place : goal.returns-in_err-place
returns-in_err-place g c =
    let es = c.self.inside.map.entries in
    let eq = g.K.PartialEq.eq in
    rw (c.from_residual.ensures, ← c.self.view_is)
    (sym (miss_value es c.self.inside.ring c.len-len.ensures.order c.self.invariant eq c.args.key.now (missed (eq c.args.key.now) es (sym c.in_err-place.ensures.index))))

pub returns : goal.returns
returns g c =
    let es = c.self.inside.map.entries in
    let eq = g.K.PartialEq.eq in
    let f = found g.met.K.Eq.laws c.args.key.now es c.in_ok-place.place c.get_index_of.ensures.unique (sym c.in_ok-place.ensures.index) in
    rw (← c.self.view_is) (ap (option_map (λ e. e.1)) (c.in_ok-value.ensures.entry ∙ f.1.at)
    ∙ sym (hit_value es c.self.inside.ring c.len-len.ensures.order c.self.invariant eq c.args.key.now c.in_ok-place.place f.0 f.1))
