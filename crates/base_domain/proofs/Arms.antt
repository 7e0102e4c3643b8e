-- Which arm of a step a write takes.
use Rattle.std.proofs.Common.{◌≡◌, ℕ, ◌<◌, ◌≤◌, true, false, cond, nat_lt, Some, None, ap, ◌∙◌, arith}
use Rattle.std.proofs.lemmas.Bool.Decides.{nat_tests}
use Rattle.row.specs.declared.refused.Refused.{Refused}
use Rattle.model.specs.Logs.{Change}
use Rattle.model.specs.Legal.{limit}
use Rattle.model.specs.Places.{layout_of}
use Rattle.model.specs.Refusals.{refusal}
use Rattle.protocol.specs.Bases.{Base, write, declined, next_of}
use Rattle.protocol.specs.BaseSteps.{step, quiet, appended, decided}

pub step_stale : (b : Base) (s m : ℕ) (e : Change) → m < next_of s b.authors → step b (write s m e) ≡ quiet b None
step_stale b s m e lt =
    let low : nat_lt m (next_of s b.authors) ≡ true = grind (arith, nat_tests) in
    ap (λ c. cond c (quiet b None) (decided b s m e (refusal (layout_of b.plan b.base).key limit b.entries e))) low

pub step_refused : (b : Base) (s m : ℕ) (e : Change) (r : Refused) → next_of s b.authors ≤ m → refusal (layout_of b.plan b.base).key limit b.entries e ≡ Some r → step b (write s m e) ≡ quiet b (Some (declined r))
step_refused b s m e r le is =
    let high : nat_lt m (next_of s b.authors) ≡ false = grind (arith, nat_tests) in
    ap (λ c. cond c (quiet b None) (decided b s m e (refusal (layout_of b.plan b.base).key limit b.entries e))) high ∙ ap (decided b s m e) is

pub step_allowed : (b : Base) (s m : ℕ) (e : Change) → next_of s b.authors ≤ m → refusal (layout_of b.plan b.base).key limit b.entries e ≡ None → step b (write s m e) ≡ appended b s m e
step_allowed b s m e le is =
    let high : nat_lt m (next_of s b.authors) ≡ false = grind (arith, nat_tests) in
    ap (λ c. cond c (quiet b None) (decided b s m e (refusal (layout_of b.plan b.base).key limit b.entries e))) high ∙ ap (decided b s m e) is
