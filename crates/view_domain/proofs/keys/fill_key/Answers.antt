use Rattle.std.proofs.Common.{◌∙◌, ap, sym, is_some}
use Rattle.row.specs.Groups.{equal}
use Rattle.partial.specs.States.{entry_of, state_of}
use Rattle.partial.specs.Sums.{sum_of_bags}
use Rattle.packet.proofs.KeptKeys.{give_is}
use Rattle.packet.proofs.KeySteps.{piece_true}
use Rattle.view_domain.proofs.FillSteps.{always, piece_some, piece_same}
use Rattle.view_domain.proofs.keys.fill_key.Goals as goal

pub returns-clause-stands : goal.returns-clause-stands
returns-clause-stands c = always c.tell_filled.result
    (give_is c.args.kept.now c.give_piece.new.self c.args.key c.in_ok-filled.ensures.others sum_of_bags c.args.source c.args.rows c.in_ok-filled.ensures.given
    (λ e. c.in_ok-filled.ensures.last (c.in_ok-filled.ensures.fills ∙ e)) (λ e. c.in_ok-filled.ensures.order (c.in_ok-filled.ensures.fills ∙ e)))

pub returns-clause-truth : goal.returns-clause-truth
returns-clause-truth c = λ k parts here t. always c.tell_filled.result (piece_true c.args.source c.args.rows c.args.key c.args.kept.now c.give_piece.new.self c.in_ok-filled.ensures.given c.in_ok-filled.ensures.others k parts here t)

pub returns-clause-shown : goal.returns-clause-shown
returns-clause-shown c = λ first h. c.tell_filled.ensures first c.args.kept.now
    (λ e. ap (λ st. is_some (entry_of st)) c.in_ok-filled.ensures.given ∙ piece_some c.args.source c.args.rows (state_of equal c.args.kept.now c.args.key) (sym c.in_ok-filled.ensures.fills ∙ e))
    (λ e. ap entry_of c.in_ok-filled.ensures.given ∙ piece_same c.args.source c.args.rows (state_of equal c.args.kept.now c.args.key) (sym c.in_ok-filled.ensures.fills ∙ e))
    c.in_ok-filled.ensures.others h
