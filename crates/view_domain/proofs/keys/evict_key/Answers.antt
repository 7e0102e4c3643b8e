use Rattle.std.proofs.Common.{◌∙◌, ◌++◌, Some, map, ap}
use Rattle.std.proofs.lemmas.Result.{on_ok_weaker}
use Rattle.row.specs.Cells.{datum_of}
use Rattle.partial.specs.States.{evicted}
use Rattle.packet.proofs.KeptKeys.{evict_is}
use Rattle.packet.proofs.KeySteps.{one_key}
use Rattle.view_domain.proofs.StateSteps.{leads_evicted, asked_again}
use Rattle.view_domain.proofs.keys.evict_key.Goals as goal

pub returns-clause-stands : goal.returns-clause-stands
returns-clause-stands c = evict_is c.args.kept.now c.evict-what.new.self c.args.key c.evict-what.ensures.others (Some c.args.source) c.evict-what.ensures.evicted c.evict-what.ensures.order

pub returns-clause-state : goal.returns-clause-state
returns-clause-state c = one_key c.args.kept.now c.evict-what.new.self c.args.key c.evict-what.ensures.others (evicted (Some c.args.source)) c.evict-what.ensures.evicted

pub returns-clause-shown : goal.returns-clause-shown
returns-clause-shown c = λ first h. on_ok_weaker c.note_evicted.result
    (λ p. rw p (leads_evicted first c.args.told.now.items c.args.kept.now c.evict-what.new.self c.args.key (Some c.args.source) c.evict-what.result c.evict-what.ensures.says c.evict-what.ensures.evicted c.evict-what.ensures.others h)) c.note_evicted.ensures.told

pub returns-clause-asks : goal.returns-clause-asks
returns-clause-asks c = on_ok_weaker c.note_evicted.result
    (λ p. p ∙ ap (λ ds. map datum_of c.args.asks.now.items ++ ds) (asked_again c.args.source c.args.kept.now c.args.key c.evict-what.result c.evict-what.ensures.says)) c.note_evicted.ensures.asks
