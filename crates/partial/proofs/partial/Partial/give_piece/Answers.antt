use Rattle.std.proofs.Common.{rules, ◌≡◌, sym, subst}
use Rattle.partial.specs.States.{Kept, state_of, after_piece}
use Rattle.partial.specs.Truth.{IsTrueOf}
use Rattle.partial.proofs.Truth.{piece_keeps}
use Rattle.partial.proofs.partial.Partial.give_piece.Goals as goal

pub returns-in_ok-fill-in-Some-clause-truth : goal.returns-in_ok-fill-in-Some-clause-truth
returns-in_ok-fill-in-Some-clause-truth g c = λ parts at t.
    let old = state_of g.K.PartialEq.eq c.args.self.now c.args.key.now in
    let new : Kept g.row.K.Denot g.row.E.Denot = record { sources = c.self.inside.sources; filled = c.fill.new.self; waiting = c.take_whole.new.waiting.entries } in
    let step : state_of g.K.PartialEq.eq new c.args.key.now ≡ after_piece g.E.Gather.total c.args.source c.args.piece old = search rules in
    subst (IsTrueOf g.E.Gather.total parts) (sym step) (piece_keeps g.E.Gather.total parts c.args.source c.args.piece old at t)

pub returns-in-None-clause-truth : goal.returns-in-None-clause-truth
returns-in-None-clause-truth g c = λ parts at t.
    let old = state_of g.K.PartialEq.eq c.args.self.now c.args.key.now in
    let new : Kept g.row.K.Denot g.row.E.Denot = record { sources = c.self.inside.sources; filled = c.self.inside.filled; waiting = c.take_whole.new.waiting.entries } in
    let step : state_of g.K.PartialEq.eq new c.args.key.now ≡ after_piece g.E.Gather.total c.args.source c.args.piece old = search rules in
    subst (IsTrueOf g.E.Gather.total parts) (sym step) (piece_keeps g.E.Gather.total parts c.args.source c.args.piece old at t)
