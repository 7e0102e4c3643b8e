use Rattle.std.proofs.Common.{◌≡◌, ◌≢◌, ◌<◌, ℕ, pos, MatchOption, subst, w64}
use Rattle.std.proofs.lemmas.Int.{to_z-of_z}
use Rattle.script.proofs.Numbers.{small_fits}
use Rattle.schedule_lines.proofs.Asking.{session_found, session_never}
use Rattle.schedule_lines.proofs.event_line.session_of.Goals as goal
use Rattle.schedule_lines.specs.Asks.{session_limit}

pub returns-in-Some : goal.returns-in-Some
returns-in-Some c =
    let number = c.in-Some.number in
    let is = rw c.in-Some.is at c.number_of.ensures in
    let found = subst (λ z. MatchOption c.session_in.result ((n : ℕ) → n < session_limit → z ≢ pos n) (λ n. (n < session_limit) × (z ≡ pos n))) (to_z-of_z w64 number (small_fits number is.0)) c.session_in.ensures in
    session_found c.args.word.now number c.session_in.result is found

pub returns-in-None : goal.returns-in-None
returns-in-None c = λ n is. session_never c.args.word.now (rw c.in-None.is at c.number_of.ensures) n is
