use Rattle.std.proofs.Common.{rules, ◌≡◌, sym, subst}
use Rattle.partial.specs.States.{Kept, state_of, evicted}
use Rattle.partial.specs.Truth.{IsTrueOf, with_part}
use Rattle.partial.proofs.Truth.{evict_keeps}
use Rattle.partial.proofs.partial.Partial.evict.Goals as goal

pub returns-in-Some-clause-truth : goal.returns-in-Some-clause-truth
returns-in-Some-clause-truth g c = λ parts part t.
    let new : Kept g.row.K.Denot g.row.E.Denot = record { sources = c.self.inside.sources; filled = c.remove.new.self; waiting = c.drop_piece.new.waiting.entries } in
    let step : state_of g.K.PartialEq.eq new c.args.key.now ≡ evicted c.args.source (state_of g.K.PartialEq.eq c.args.self.now c.args.key.now) = search rules in
    subst (IsTrueOf g.E.Gather.total (with_part c.args.source part parts)) (sym step) (evict_keeps g.E.Gather.total parts c.args.source part (state_of g.K.PartialEq.eq c.args.self.now c.args.key.now) t)

pub returns-in_default-clause-truth : goal.returns-in_default-clause-truth
returns-in_default-clause-truth g c = λ parts part t.
    let new : Kept g.row.K.Denot g.row.E.Denot = record { sources = c.self.inside.sources; filled = c.remove.new.self; waiting = c.drop_piece.new.waiting.entries } in
    let step : state_of g.K.PartialEq.eq new c.args.key.now ≡ evicted c.args.source (state_of g.K.PartialEq.eq c.args.self.now c.args.key.now) = search rules in
    subst (IsTrueOf g.E.Gather.total (with_part c.args.source part parts)) (sym step) (evict_keeps g.E.Gather.total parts c.args.source part (state_of g.K.PartialEq.eq c.args.self.now c.args.key.now) t)
