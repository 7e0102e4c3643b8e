use Rattle.std.proofs.lemmas.Result.{on_ok_weaker}
use Rattle.view_domain.proofs.ChangeSteps.{leads_changed}
use Rattle.view_domain.proofs.keys.change_key.Goals as goal

pub returns-clause-shown : goal.returns-clause-shown
returns-clause-shown c = λ first h. on_ok_weaker c.tell_rows.result
    (λ p. rw p (leads_changed first c.args.told.now.items c.args.key c.args.kept.now c.apply_at.new.kept c.args.source c.args.group
    c.in_ok-apply_at.ensures.state c.in_ok-apply_at.ensures.others h)) c.tell_rows.ensures
