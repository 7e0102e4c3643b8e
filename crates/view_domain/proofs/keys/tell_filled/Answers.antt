use Rattle.std.proofs.Common.{◌∙◌, ap, sym, Some}
use Rattle.view_domain.specs.declared.shown.KeyChange.TheVariants.{Fills}
use Rattle.view_domain.proofs.StateSteps.{leads_push}
use Rattle.view_domain.proofs.keys.tell_filled.Goals as goal

pub returns : goal.returns
returns c = λ first old some stays others h. rw c.in_ok-push.ensures.items
    (leads_push old c.args.kept.now (Fills c.args.key c.in_ok-rows-in-Some.rows) others first c.args.told.now.items (sym c.in-Some.ensures ∙ ap Some (sym c.in_ok-rows-in-Some.ensures)) h)
