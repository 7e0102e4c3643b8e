-- What a write comes to.
use Rattle.std.proofs.Common.{◌≡◌, ℕ, ◌<◌, ◌≤◌, false, List, length, Some, refl, ap, sym, ◌∙◌, subst, arith}
use Rattle.row.specs.Bags.{Each}
use Rattle.row.specs.declared.refused.Refused.{Refused}
use Rattle.model.specs.Entries.{change_of}
use Rattle.model.specs.Histories.{Author, IsBelow}
use Rattle.model.specs.Fronts.{LogView}
use Rattle.packet.specs.Messages.{none_of}
use Rattle.packet.specs.Answers.{AnswerView, IsDecided}
use Rattle.packet.specs.Outboxes.{OutboxView, packets_on}
use Rattle.protocol.specs.Bases.{ToBase, Done, declined, next_of}
use Rattle.protocol.specs.BaseSteps.{quiet}
use Rattle.base_domain.specs.Codes.{answer_of, write_of}
use Rattle.base_domain.specs.declared.message.Write.{Write}
use Rattle.base_domain.specs.Domains.{Domain, AreNext}
use Rattle.base_domain.specs.Received.{IsDone, IsTo, Shows, base_at, refusal_at, verdict_in, verdict_of}
use Rattle.model.proofs.Numbers.{absent}
use Rattle.base_domain.proofs.Parts.{none_to}

module _ {F : Type 0} (log : F → LogView) (authors : F → List Author) where
  -- a reply that shows the front
  pub done_with : (m : ToBase) (old new : Domain F) (d : Done) (a : AnswerView F) (f : F) (out : OutboxView F) → base_at log authors new ≡ d.base → out.reply ≡ Some a → Some (verdict_in a.refused a.index) ≡ d.reply → packets_on out.edges ≡ d.sent → IsTo m a
      → a.front ≡ Some f → log f ≡ log new.front → authors f ≡ authors new.front → length new.next ≡ length old.next → new.stopped ≡ false → IsDone log authors m old d out new
  done_with m old new d a f out base reply verdict sent to front says wrote sessions running = record {
    base = base;
    reply = ap verdict_of reply ∙ verdict;
    sent = sent;
    to = λ x e. let same : a ≡ x = cc in subst (λ y. IsTo m y) same to;
    shown = λ x e. let same : a ≡ x = cc in subst (λ y. Shows log authors new y) same (record { front = f; shown = front; says = says; wrote = wrote });
    sessions = sessions;
    running = running;
  }

  -- the log refuses the entry
  pub refused_done : (w : Write) (r : Refused) (d : Domain F) (f : F) (out new : OutboxView F) → new ≡ record out { reply = Some (answer_of w (Some r) 0 (Some f)) } → packets_on out.edges ≡ none_of out.edges → length out.edges ≡ (log d.front).plan.stages
      → log f ≡ log d.front → authors f ≡ authors d.front → d.stopped ≡ false → IsDone log authors (write_of w) d (quiet (base_at log authors d) (Some (declined r))) new d
  refused_done w r d f out new put clear count says wrote running =
      done_with (write_of w) d d (quiet (base_at log authors d) (Some (declined r))) (answer_of w (Some r) 0 (Some f)) f new refl (ap (λ (o : OutboxView F). o.reply) put) refl
      (ap (λ (o : OutboxView F). packets_on o.edges) put ∙ none_to out.edges (log d.front).plan.stages (packets_on out.edges) count clear) refl refl says wrote refl running

  pub decided_as : (is_all : F → Type 0) (w : Write) (r : Refused) (next : List ℕ) (old f : F) → log f ≡ log old → authors f ≡ authors old → is_all f → refusal_at (log old) (change_of w.entry) ≡ Some r → AreNext next (authors old) → w.session < length next → next_of w.session (authors old) ≤ w.number
      → Each (IsBelow next) (authors old) → IsDecided log authors is_all (answer_of w (Some r) 0 (Some f)) r f
  decided_as is_all w r next old f says wrote all why are place low below =
      let n = are w.session place in
      record {
        shown = refl;
        all = all;
        why = ap (λ l. refusal_at l (change_of w.entry)) says ∙ why;
        absent = subst (λ (list : List Author). Each (λ (x : Author). x.session ≡ w.session → x.number < w.number) list) (sym wrote) (absent next w.session w.number (authors old) below (omega (arith, n, low)));
      }
