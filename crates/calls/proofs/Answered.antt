-- What an answer's front tells a session that had seen less.
use Rattle.std.proofs.Common.{◌≡◌, ℕ, List, ◌∷◌, ◌++◌, length, take_all, Some, None, ap, sym, ◌∙◌, subst, append_assoc, arith, inl, inr}
use mathlib.Core.List.{IsPrefix}
use Rattle.row.specs.declared.refused.Refused.{Refused}
use Rattle.row.specs.declared.refused.Refused.TheVariants.{NoMemory, Stopped}
use Rattle.plan.specs.Layouts.{Layout}
use Rattle.model.specs.Logs.{Change}
use Rattle.model.specs.Histories.{Item, log_of, authors_of}
use Rattle.model.specs.Fronts.{LogView}
use Rattle.model.proofs.Prefixes.{prefix_trans}
use Rattle.packet.specs.Answers.{AnswerView, IsAccepted, IsAnswer, IsDecided, IsVerdict}
use Rattle.book.specs.Fronts.{FrontView, entries, authors}
use Rattle.book.specs.Replies.{IsAfter, IsAt, IsWhole, HasLogOf}
use Rattle.book.proofs.Fronts.{length_authors}
use Rattle.calls.specs.Writes.{IsDecidedIn, IsTo}

-- what a front says of its log
abbrev pub log_at : Layout → FrontView → LogView
log_at p f = record { plan = p; base = f.base; entries = entries f }

-- what stands after a part stands after each beginning of it
pub after_earlier : (a v : List Item) (i : Item) (b k : ℕ) (h : List Item) → IsPrefix a v → IsAfter v i b k h → IsAfter a i b k h
after_earlier a v i b k h av x =
    let same : v ++ x.between ≡ a ++ (av.0 ++ x.between) = ap (λ l. l ++ x.between) (sym av.1) ∙ append_assoc a av.0 x.between in
    record {
      between = av.0 ++ x.between;
      rest = x.rest;
      stands = x.stands ∙ ap (λ l. l ++ i ∷ x.rest) same;
      place = ap (λ l. length (log_of b l)) (sym same) ∙ x.place;
    }

-- the answer to an accepted write has a front with its entry at its index
pub accepted_at : (p : Layout) (a : AnswerView FrontView) (f : FrontView) (s m : ℕ) (e : Change) → IsTo s m e a → a.refused ≡ None → a.front ≡ Some f → IsAnswer (log_at p) authors IsWhole a → IsAt f a.index s m e
accepted_at p a f s m e own none shown is =
    let verdict : IsVerdict (log_at p) authors IsWhole a None = subst (IsVerdict (log_at p) authors IsWhole a) none is in
    let at : IsAccepted (log_at p) authors a f = verdict f shown in
    record { entry = at.entry ∙ ap Some own.entry; author = rw (← own.session, ← own.number) at.author }

-- a refusal that is neither for memory nor for a stop was decided by the front
decided_by : (p : Layout) (a : AnswerView FrontView) (r : Refused) (f : FrontView) → a.front ≡ Some f → (r ≡ NoMemory → ⊥) → (r ≡ Stopped → ⊥) → IsVerdict (log_at p) authors IsWhole a (Some r) → IsDecided (log_at p) authors IsWhole a r f
decided_by p a r f shown memory stopped (inl x) = absurd (memory x)
decided_by p a r f shown memory stopped (inr (inl x)) = absurd (stopped x)
decided_by p a r f shown memory stopped (inr (inr (g, d))) =
    let same : g ≡ f = cc (shown, d.shown) in
    subst (IsDecided (log_at p) authors IsWhole a r) same d

pub decided : (p : Layout) (a : AnswerView FrontView) (r : Refused) (f : FrontView) → a.refused ≡ Some r → a.front ≡ Some f → (r ≡ NoMemory → ⊥) → (r ≡ Stopped → ⊥) → IsAnswer (log_at p) authors IsWhole a → IsDecided (log_at p) authors IsWhole a r f
decided p a r f some shown memory stopped is = decided_by p a r f shown memory stopped (subst (IsVerdict (log_at p) authors IsWhole a) some is)

-- the part that an adopted front left has its log, which decides as it did
pub adopted_decides : (p : Layout) (seen front part : List Item) (a : AnswerView FrontView) (f : FrontView) (s m b : ℕ) (e : Change) (r : Refused) → IsTo s m e a → f.base ≡ b → IsDecided (log_at p) authors IsWhole a r f
    → IsPrefix seen front → IsPrefix front part → HasLogOf f part → IsDecidedIn p seen s m b e r part
adopted_decides p seen front part a f s m b e r own is d sf fp has =
    let all : entries f ≡ log_of f.base f.seen = take_all f.len (log_of f.base f.seen) (omega (arith, d.all)) in
    let who : authors f ≡ authors_of f.base f.seen = take_all f.len (authors_of f.base f.seen) (omega (arith, d.all, length_authors f.base f.seen)) in
    let log : log_of b part ≡ entries f = ap (λ c. log_of c part) (sym is) ∙ (has.log ∙ sym all) in
    let by : authors_of b part ≡ authors f = ap (λ c. authors_of c part) (sym is) ∙ (has.authors ∙ sym who) in
    record {
      grown = prefix_trans seen front part sf fp;
      why = rw (log, ← is, ← own.entry) d.why;
      absent = rw (by, ← own.session, ← own.number) d.absent;
    }
