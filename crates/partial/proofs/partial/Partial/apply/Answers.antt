use Rattle.std.proofs.Common.{rules, ◌≡◌, ◌∙◌, ap, sym, subst, slice_set, Some, OnOk}
use Rattle.std.proofs.lemmas.Map.Steps.{set_value_same}
use Rattle.std.proofs.lemmas.Result.{on_ok_weaker, on_err_weaker}
use Rattle.partial.specs.States.{Kept, state_of, after_change}
use Rattle.partial.specs.Truth.{IsTrueOf}
use Rattle.partial.proofs.Truth.{change_keeps}
use Rattle.partial.proofs.partial.Partial.apply.Goals as goal

pub returns-in-Some-clause-truth : goal.returns-in-Some-clause-truth
returns-in-Some-clause-truth g c = λ parts part at fit t.
    let old = state_of g.K.PartialEq.eq c.args.self.now c.args.key.now in
    let new : Kept g.row.K.Denot g.row.E.Denot = record { sources = c.self.inside.sources; filled = c.self.inside.filled; waiting = (c.get_mut.follows.lender c.apply.new.self).entries } in
    let step : OnOk c.apply.result (state_of g.K.PartialEq.eq new c.args.key.now ≡ after_change g.E.Gather.plus c.args.source c.args.change.now old) = search rules in
    on_ok_weaker c.apply.result (λ e. subst (IsTrueOf g.E.Gather.total (slice_set parts c.args.source (g.E.Gather.plus part c.args.change.now))) (sym e)
    (change_keeps g.E.Gather.plus g.E.Gather.fits g.E.Gather.total g.met.E.Gather.total_changes g.met.E.Gather.total_fits parts c.args.source part c.args.change.now old at fit t)) step

pub returns-in-None-clause-truth : goal.returns-in-None-clause-truth
returns-in-None-clause-truth g c = λ parts part at fit t.
    let old = state_of g.K.PartialEq.eq c.args.self.now c.args.key.now in
    let new : Kept g.row.K.Denot g.row.E.Denot = record { sources = c.self.inside.sources; filled = c.apply-in-None.new.self; waiting = c.get_mut.follows.lender-at-none.entries } in
    let step : OnOk c.apply-in-None.result (state_of g.K.PartialEq.eq new c.args.key.now ≡ after_change g.E.Gather.plus c.args.source c.args.change.now old) = search rules in
    on_ok_weaker c.apply-in-None.result (λ e. subst (IsTrueOf g.E.Gather.total (slice_set parts c.args.source (g.E.Gather.plus part c.args.change.now))) (sym e)
    (change_keeps g.E.Gather.plus g.E.Gather.fits g.E.Gather.total g.met.E.Gather.total_changes g.met.E.Gather.total_fits parts c.args.source part c.args.change.now old at fit t)) step

pub returns-in-Some-clause-err : goal.returns-in-Some-clause-err
returns-in-Some-clause-err g c = rw (← c.self.view_is) (on_err_weaker c.apply.result (λ p.
    ap (λ es. let kept : Kept g.row.K.Denot g.row.E.Denot = record { sources = c.self.inside.sources; filled = c.self.inside.filled; waiting = es } in kept)
    ((c.get_mut.follows.holds c.apply.new.self).0 ∙ set_value_same (g.K.PartialEq.eq c.args.key.now) c.self.inside.waiting.entries c.apply.new.self (sym c.in-Some.ensures.value ∙ ap Some (sym p)))) c.apply.ensures.err)
