use Rattle.std.proofs.Common.{◌≡◌, ◌⊎◌, inr, refl}
use Rattle.row.specs.declared.refused.Refused.TheVariants.{NoMemory, Stopped}
use Rattle.sessions.proofs.Found.{busy, err_to, quiet}
use Rattle.sessions.proofs.session.Session.wait_for.Goals as goal

pub returns-then-is_cut_off-clause-refused : goal.returns-then-is_cut_off-clause-refused
returns-then-is_cut_off-clause-refused g c = quiet _ _ (inr refl)

pub returns-in-Err-clause-refused : goal.returns-in-Err-clause-refused
returns-in-Err-clause-refused g c = busy _ _ c.in-Err.ensures.only

pub returns-clause-refused : goal.returns-clause-refused
returns-clause-refused g c = rw (← c.self.view_is) (err_to (λ e. (e ≡ NoMemory) ⊎ (e ≡ Stopped)) _ c.fill.result (λ e h. quiet _ e h) c.fill.ensures.only)
