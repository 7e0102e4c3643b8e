use Rattle.std.proofs.Common.{refl, ap, sym, ◌∙◌}
use Rattle.row.specs.ValueMaps.{whole}
use Rattle.row.proofs.ValueMaps.{finds_number, finds_other, whole_unique, writes_number, writes_other}
use Rattle.row.proofs.value_map.ValueMap.get_mut.Goals as goal

pub returns-in-Some : goal.returns-in-Some
returns-in-Some g c =
    let m = c.self.inside in
    let key = c.args.key.now in
    let n = c.in-Some.number in
    let is = sym c.small_of.ensures ∙ c.in-Some.is in
    let f = c.get_mut.follows in
    rw (← c.self.view_is) (
      (refl, λ w. writes_number m.numbers (f.lender w) m.others c.self.invariant key n is w (f.holds w), ap (λ l. whole l m.others) f.holds-at-none),
      record { writes_back = tt; value = c.get_mut.ensures.value ∙ sym (finds_number m.numbers m.others c.self.invariant key n is); unique = whole_unique m.numbers m.others c.self.invariant },
    )

pub returns-in-None : goal.returns-in-None
returns-in-None g c =
    let m = c.self.inside in
    let key = c.args.key.now in
    let is = sym c.small_of.ensures ∙ c.in-None.is in
    let f = c.get_mut-in-None.follows in
    rw (← c.self.view_is) (
      (refl, λ w. writes_other m.numbers m.others (f.lender w) c.self.invariant key is w (f.holds w), ap (whole m.numbers) f.holds-at-none),
      record { writes_back = tt; value = c.get_mut-in-None.ensures.value ∙ sym (finds_other m.numbers m.others c.self.invariant key is); unique = whole_unique m.numbers m.others c.self.invariant },
    )
