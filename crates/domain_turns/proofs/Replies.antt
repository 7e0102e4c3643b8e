-- A base shard's reply that is accepted has a front.
use Rattle.std.proofs.Common.{ℕ, zero, suc, ◌≡◌, ◌≢◌, ◌⊎◌, inl, inr, Bool, true, false, Option, Some, None, Result, Ok, Err, OnOk, OnErr, IfErr, refl, ap, sym, ◌∙◌, subst}
use Rattle.std.specs.Option.{ForSome}
use Rattle.row.specs.declared.refused.Refused.{Refused}
use Rattle.row.specs.declared.refused.Refused.TheVariants.{NoMemory, Stopped}
use Rattle.plan.specs.Layouts.{Layout}
use Rattle.book.specs.Fronts.{FrontView, authors}
use Rattle.packet.specs.Answers.{AnswerView}
use Rattle.packet.specs.Messages.{none_of}
use Rattle.packet.specs.Outboxes.{OutboxView, packets_on}
use Rattle.protocol.specs.Bases.{ToBase, write, request, marker, accepted, declined}
use Rattle.base_domain.specs.Domains.{Domain}
use Rattle.base_domain.specs.Received.{IsAnswered, IsCutShort, IsWrite, verdict_in, verdict_of}
use Rattle.routes.specs.Mails.{BaseMailView, HasFront}
use Rattle.domain_turns.specs.BaseTurns.{IsTaken, IsUntaken, Went, done_by, log_in, with_reply}

-- no reply, and one that refuses
none_has : (reply : Option (AnswerView FrontView)) → verdict_of reply ≡ None → ForSome reply HasFront
none_has reply e a is = let no : Some (verdict_in a.refused a.index) ≡ None = sym (ap verdict_of is) ∙ e in cc

refused_has : (reply : Option (AnswerView FrontView)) (r : Refused) → verdict_of reply ≡ Some (declined r) → ForSome reply HasFront
refused_has reply r e a is = record {
  shown = λ none.
      let no : Some (accepted a.index) ≡ Some (declined r) = ap (λ o. Some (verdict_in o a.index)) (sym none) ∙ (sym (ap verdict_of is) ∙ e) in
      cc;
}

answered_has : (m : ToBase) (r : Refused) (out : OutboxView FrontView) → IsAnswered m r out → ForSome out.reply HasFront
answered_has (write s n e) r out a = refused_has out.reply r a.reply
answered_has (request s x) r out a = none_has out.reply a.reply
answered_has (marker x) r out a = none_has out.reply a.reply

module _ (p : Layout) (m : ToBase) (old new : Domain FrontView) (out : OutboxView FrontView) where
  done_has : IsTaken p m old out new → ForSome out.reply HasFront
  done_has (inl done) a is = let s = done.shown a is in record { shown = λ none. (s.front, s.shown) }
  done_has (inr refused) a is = refused_has out.reply NoMemory refused.reply a is

  cut_has : (m : ToBase) → (IsWrite m → ⊥) → IsCutShort (log_in p) authors m old (done_by p m old) out new → ForSome out.reply HasFront
  cut_has (write s n e) not c = absurd (not tt)
  cut_has (request s x) not c = none_has out.reply c.reply
  cut_has (marker x) not c = none_has out.reply c.reply

  fails_has : (e : Refused) → (e ≡ NoMemory → IsWrite m → ⊥) → IsUntaken p m old e out new → ForSome out.reply HasFront
  fails_has e not (inl f) = answered_has m Stopped out f.2
  fails_has e not (inr f) = cut_has m (not f.0) f.1

  -- whatever came of the message
  pub has_front : {T : Type 0} (r : Result T Refused) → OnOk r (IsTaken p m old out new) → (old.stopped ≡ true → (r ≡ Err Stopped) × (new ≡ old) × IsAnswered m Stopped out) → (old.stopped ≡ false → IfErr r (λ e. IsUntaken p m old e out new))
      → (IsWrite m → r ≡ Err NoMemory → ⊥) → ForSome out.reply HasFront
  has_front r done stopped fails memory = by old.stopped refl r done stopped fails memory
    where
      by : {T : Type 0} (b : Bool) → old.stopped ≡ b → (r : Result T Refused) → OnOk r (IsTaken p m old out new) → (old.stopped ≡ true → (r ≡ Err Stopped) × (new ≡ old) × IsAnswered m Stopped out) → (old.stopped ≡ false → IfErr r (λ e. IsUntaken p m old e out new))
          → (IsWrite m → r ≡ Err NoMemory → ⊥) → ForSome out.reply HasFront
      by true is r done stopped fails memory = answered_has m Stopped out (stopped is).2
      by false is (Ok t) done stopped fails memory = done_has done
      by false is (Err e) done stopped fails memory = fails_has e (λ none w. memory w (ap Err none)) (fails is)

  abbrev Told : {T : Type 0} → Result T Refused → Type 0
  Told r = (old.stopped ≡ true → (r ≡ Err Stopped) × (new ≡ old) × IsAnswered m Stopped out) × (old.stopped ≡ false → IfErr r (λ e. IsUntaken p m old e out new))

  -- after an error it does not run
  pub halted : {T : Type 0} (r : Result T Refused) → Told r → OnErr r (new.stopped ≡ true)
  halted (Ok t) told = tt
  halted (Err e) told = by old.stopped refl
    where
      by : (b : Bool) → old.stopped ≡ b → new.stopped ≡ true
      by true is = ap (λ (d : Domain FrontView). d.stopped) (told.0 is).1 ∙ is
      by false is = elim (told.1 is) as (λ _. new.stopped ≡ true) [ inl f ↦ ap (λ (d : Domain FrontView). d.stopped) (f.1).same | inr f ↦ (f.1).stopped ]

  -- and nothing is on the edges
  pub unsent : {T : Type 0} (r : Result T Refused) → Told r → OnErr r (packets_on out.edges ≡ none_of out.edges)
  unsent (Ok t) told = tt
  unsent (Err e) told = by old.stopped refl
    where
      by : (b : Bool) → old.stopped ≡ b → packets_on out.edges ≡ none_of out.edges
      by true is = ((told.0 is).2).silent
      by false is = elim (told.1 is) as (λ _. packets_on out.edges ≡ none_of out.edges) [ inl f ↦ (f.2).silent | inr f ↦ (f.1).silent ]

-- what is put out, with the reply put back
pub put_back : (out after : OutboxView FrontView) (taken : Option (AnswerView FrontView)) (reply : Option (AnswerView FrontView)) → taken ≡ out.reply → after ≡ record out { reply = None } → reply ≡ taken → with_reply reply after ≡ out
put_back out after taken reply is rest same = ap (with_reply reply) rest ∙ ap (λ r. with_reply r out) (same ∙ is)

-- so it was taken, with the reply put back
pub taken_back : {T : Type 0} (p : Layout) (m n : ToBase) (old new : Domain FrontView) (out after : OutboxView FrontView) (r : Result T Refused) → m ≡ n → after ≡ out → OnOk r (IsTaken p m old out new) → OnOk r (IsTaken p n old after new)
taken_back p m n old new out after r same back h = subst (λ x. OnOk r (IsTaken p x old after new)) same (subst (λ o. OnOk r (IsTaken p m old o new)) (sym back) h)

-- what goes on was for the base shard, and was taken
decided : (a b : ℕ) → (a ≡ b) ⊎ (a ≢ b)
decided zero zero = inl refl
decided zero (suc b) = inr (λ e. cc)
decided (suc a) zero = inr (λ e. cc)
decided (suc a) (suc b) = elim (decided a b) as (λ _. (suc a ≡ suc b) ⊎ (suc a ≢ suc b)) [ inl e ↦ inl (ap suc e) | inr not ↦ inr (λ e. let f : a ≡ b = cc in not f) ]

pub went : {T : Type 0} (p : Layout) (x : BaseMailView) (base : ℕ) (old new : Domain FrontView) (out : OutboxView FrontView) (r : Result T Refused) → old.front.base ≡ base → (x.base ≡ base → OnOk r (IsTaken p x.message old out new)) → OnErr r (new.stopped ≡ true)
    → (x.base ≢ base → new.stopped ≡ true) → new.stopped ≡ false → Went p x old new
went p x base old new out r at done halts other runs = by r (decided x.base base) done halts
  where
    by : {T : Type 0} (r : Result T Refused) → ((x.base ≡ base) ⊎ (x.base ≢ base)) → (x.base ≡ base → OnOk r (IsTaken p x.message old out new)) → OnErr r (new.stopped ≡ true) → Went p x old new
    by (Ok t) (inl own) done halts = record { own = own ∙ sym at; out = out; taken = done own }
    by (Err e) (inl own) done halts = let no : true ≡ false = sym halts ∙ runs in cc
    by r (inr not) done halts = let no : true ≡ false = sym (other not) ∙ runs in cc
