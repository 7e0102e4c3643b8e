-- A message leaves the plan, the place and the number of sessions as they were.
use Rattle.std.proofs.Common.{◌≡◌, inl, inr, length, true, false, Bool, cond, List, Option, Some, None, Result, Ok, Err, IfErr, OnOk, refl, ap, sym, subst, ◌∙◌}
use Rattle.std.specs.Prelude.{nat_lt}
use Rattle.row.specs.declared.refused.Refused.{Refused}
use Rattle.model.specs.Histories.{Author}
use Rattle.model.specs.Legal.{limit}
use Rattle.model.specs.Places.{layout_of}
use Rattle.model.specs.Refusals.{refusal}
use Rattle.model.specs.Fronts.{LogView}
use Rattle.packet.specs.Outboxes.{OutboxView}
use Rattle.protocol.specs.Bases.{Base, ToBase, write, request, marker, next_of}
use Rattle.protocol.specs.BaseSteps.{step, quiet, decided}
use Rattle.base_domain.specs.Domains.{Domain}
use Rattle.base_domain.specs.Received.{Goes, Fails, Stays, base_at}

-- a step keeps both
pub record Keeps (old new : Base) : Type 0 where
  pub plan : new.plan ≡ old.plan
  pub base : new.base ≡ old.base

step_keeps : (b : Base) (m : ToBase) → Keeps b (step b m).base
step_keeps b (write s m e) = by (nat_lt m (next_of s b.authors)) (refusal (layout_of b.plan b.base).key limit b.entries e)
  where
    by : (t : Bool) (o : Option Refused) → Keeps b (cond t (quiet b None) (decided b s m e o)).base
    by true o = record { plan = refl; base = refl }
    by false None = record { plan = refl; base = refl }
    by false (Some r) = record { plan = refl; base = refl }
step_keeps b (request s a) = record { plan = refl; base = refl }
step_keeps b (marker m) = record { plan = refl; base = refl }

module _ {F : Type 0} (log : F → LogView) (authors : F → List Author) where
  base_stays : (old new : Domain F) (m : ToBase) → base_at log authors new ≡ (step (base_at log authors old) m).base → length new.next ≡ length old.next → Stays log old new
  base_stays old new m base sessions =
      let kept = step_keeps (base_at log authors old) m in
      record { plan = ap (λ b. b.plan) base ∙ kept.plan; base = ap (λ b. b.base) base ∙ kept.base; sessions = sessions }

  -- whether it goes on or fails
  pub written_stays : {A : Type 0} (old new : Domain F) (m : ToBase) (out : OutboxView F) (r : Result A Refused) → OnOk r (Goes log authors m old (step (base_at log authors old) m) out new)
      → IfErr r (λ e. Fails log authors m old (step (base_at log authors old) m) e out new) → Stays log old new
  written_stays old new m out (Ok x) goes fails = gone goes
    where
      gone : Goes log authors m old (step (base_at log authors old) m) out new → Stays log old new
      gone (inl done) = base_stays old new m done.base done.sessions
      gone (inr refused) = subst (Stays log old) (sym refused.same) (record { plan = refl; base = refl; sessions = refl })
  written_stays old new m out (Err e) goes fails = failed fails
    where
      failed : Fails log authors m old (step (base_at log authors old) m) e out new → Stays log old new
      failed (inl moved) = subst (Stays log old) (sym moved.1.same) (record { plan = refl; base = refl; sessions = refl })
      failed (inr cut) = base_stays old new m cut.1.base cut.1.sessions
