use Rattle.std.proofs.Common.{◌∙◌, refl, sym, ap, inl}
use Rattle.std.specs.Option.{option_map}
use Rattle.std.proofs.lemmas.Option.{slice_get-map}
use Rattle.indexmap.specs.Layout.{length-set_value_at}
use Rattle.linked_map.proofs.Entries.{missed, found}
use Rattle.linked_map.proofs.Maps.{hit_value, hit_written, miss_value}
use Rattle.linked_map.proofs.map.LinkedMap.peek_mut.Goals as goal

pub returns-in_err-place : goal.returns-in_err-place
returns-in_err-place g c =
    let es = c.self.inside.map.entries in
    let eq = g.K.PartialEq.eq in
    let none = missed (eq c.args.key.now) es (sym c.in_err-place.ensures.index) in
    rw (c.from_residual.ensures, ← c.self.view_is) (refl, record { writes_back = tt; value = sym (miss_value es c.self.inside.ring c.len-len.ensures.order c.self.invariant eq c.args.key.now none) })

pub invariant_of-self-lent : goal.invariant_of-self-lent
invariant_of-self-lent g c = λ w. c.self.invariant ∙ sym (length-set_value_at c.self.inside.map.entries c.in_ok-place.place w)

pub returns : goal.returns
returns g c =
    let es = c.self.inside.map.entries in
    let ring = c.self.inside.ring in
    let eq = g.K.PartialEq.eq in
    let f = found g.met.K.Eq.laws c.args.key.now es c.in_ok-place.place c.get_index_of.ensures.unique (sym c.in_ok-place.ensures.index) in
    let written = λ (w : g.row.V.Denot). hit_written es ring c.len-len.ensures.order c.self.invariant eq c.args.key.now c.in_ok-place.place f.0 f.1 w in
    let value = sym c.index_mut.ensures.value ∙ slice_get-map (λ (e : g.row.K.Denot × g.row.V.Denot). e.1) es c.in_ok-place.place ∙ ap (option_map (λ (e : g.row.K.Denot × g.row.V.Denot). e.1)) f.1.at
    ∙ sym (hit_value es ring c.len-len.ensures.order c.self.invariant eq c.args.key.now c.in_ok-place.place f.0 f.1) in
    rw (← c.self.view_is) ((λ i. inl (c.index_mut.result.ghost_name, λ w. written w i)), record { writes_back = tt; value = value })
