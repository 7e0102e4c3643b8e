use Rattle.std.proofs.Common.{rules, ◌≡◌, ◌∙◌, sym, ap, subst}
use Rattle.partial.specs.States.{Kept, state_of, begun}
use Rattle.partial.specs.Truth.{IsTrueOf}
use Rattle.partial.proofs.Truth.{begin_keeps}
use Rattle.partial.proofs.partial.Partial.begin.Goals as goal

pub returns-clause-truth : goal.returns-clause-truth
returns-clause-truth g c = λ parts size t.
    let new : Kept g.row.K.Denot g.row.E.Denot = record { sources = c.self.inside.sources; filled = c.self.inside.filled; waiting = c.insert.new.self.entries } in
    let step : state_of g.K.PartialEq.eq new c.args.key ≡ begun c.args.self.now.sources (state_of g.K.PartialEq.eq c.args.self.now c.args.key) = search rules in
    subst (IsTrueOf g.E.Gather.total parts) (sym (step ∙ ap (λ n. begun n (state_of g.K.PartialEq.eq c.args.self.now c.args.key)) (sym size)))
    (begin_keeps g.E.Gather.total parts (state_of g.K.PartialEq.eq c.args.self.now c.args.key) t)
