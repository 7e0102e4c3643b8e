-- A shown copy after a change that leads from what was held to what is held.
use Rattle.std.proofs.Common.{◌≡◌, ◌≢◌, ℕ, zero, suc, Bool, true, false, cond, if◌then◌else◌, not, List, [], ◌∷◌, Option, Some, None, IfSome, fold, map, length, slice_get, slice_set, refl, ap, sym, ◌∙◌, subst, arith, ◌⊎◌, inl, inr}
use Rattle.row.specs.Cells.{Datum, datum_of, same}
use Rattle.row.specs.Groups.{equal}
use Rattle.row.specs.declared.refused.Refused.{Refused}
use Rattle.row.specs.declared.refused.Refused.TheVariants.{NoMemory, Gap}
use Rattle.row.specs.declared.value.Value.{Value}
use Rattle.row.proofs.Cellwise.{eq-value_is}
use Rattle.row.proofs.Keys.{same_flip}
use Rattle.row.proofs.Shards.{same_is}
use Rattle.plan.specs.Layouts.{Layout}
use Rattle.model.specs.Cuts.{IsAtMost}
use Rattle.model.specs.Fronts.{LogView}
use Rattle.model.specs.Queries.{Line}
use Rattle.packet.specs.Lines.{entries_of}
use Rattle.packet.specs.Lines.{lengths_of as lengths_in}
use Rattle.packet.specs.Truth.{Grows}
use Rattle.packet.specs.declared.mode.Mode.{Mode}
use Rattle.packet.specs.declared.mode.Mode.TheVariants.{Broken, Running}
use Rattle.protocol.proofs.Moves.{line_len}
use Rattle.partial.specs.States.{is_hole}
use Rattle.protocol.specs.Views.{View, ToView, packet, want, order}
use Rattle.protocol.specs.ViewSteps.{step, begins, quiet}
use Rattle.protocol.specs.WorldSteps.{lengths_of}
use Rattle.shown.specs.Snapshots.{Rows, Snapshot, IsLater, IsTrue, after, lengths_with, shown_at, with_change, without}
use Rattle.view_domain.specs.Domains.{Domain, lines_of, stopped}
use Rattle.view_domain.specs.Outboxes.{OutboxView, ShownView, put_line}
use Rattle.view_domain.specs.Received.{AreAnswers, Fails, IsNext, IsNextLine, IsShown}
use Rattle.view_domain.specs.Shown.{key_in, shown_after}
use Rattle.view_domain.specs.Shown.{turned as turned_by}
use Rattle.view_domain.specs.declared.shown.KeyChange.{KeyChange}
use Rattle.view_domain.specs.declared.shown.KeyChange.TheVariants.{Fills, Goes}
use Rattle.domain_turns.specs.ViewTurns.{Shows}

-- ---- keys
without_same : (k d : Datum) (rows : Rows) → same k d ≡ true → shown_at (without d rows) k ≡ None
without_same k d [] e = refl
without_same k d (r ∷ rs) e = by (same d r.0) refl (without_same k d rs e)
  where
    by : (b : Bool) → same d r.0 ≡ b → shown_at (without d rs) k ≡ None → shown_at (cond (not b) (r ∷ without d rs) (without d rs)) k ≡ None
    by true h rest = rest
    by false h rest = ap (λ c. cond c (Some r.1) (shown_at (without d rs) k)) (ap (λ x. same x r.0) (same_is k d e) ∙ h) ∙ rest

without_other : (k d : Datum) (rows : Rows) → same k d ≡ false → shown_at (without d rows) k ≡ shown_at rows k
without_other k d [] e = refl
without_other k d (r ∷ rs) e = by (same d r.0) refl (without_other k d rs e)
  where
    by : (b : Bool) → same d r.0 ≡ b → shown_at (without d rs) k ≡ shown_at rs k → shown_at (cond (not b) (r ∷ without d rs) (without d rs)) k ≡ cond (same k r.0) (Some r.1) (shown_at rs k)
    by true h rest = rest ∙ ap (λ c. cond c (Some r.1) (shown_at rs k)) (sym (ap (same k) (sym (same_is d r.0 h)) ∙ e))
    by false h rest = ap (cond (same k r.0) (Some r.1)) rest

key_is : (key k : Value) → equal key k ≡ same (datum_of k) (datum_of key)
key_is key k = eq-value_is key k ∙ same_flip (datum_of key) (datum_of k)

change_shown : (rows : Rows) (c : KeyChange) (k : Value) (b : Bool) → equal (key_in c) k ≡ b → shown_at (with_change rows c) (datum_of k) ≡ if b then turned_by c (shown_at rows (datum_of k)) else shown_at rows (datum_of k)
change_shown rows (Fills key rs) k true e = ap (λ c. cond c (Some rs) (shown_at (without (datum_of key) rows) (datum_of k))) (sym (key_is key k) ∙ e)
change_shown rows (Fills key rs) k false e =
    let other : same (datum_of k) (datum_of key) ≡ false = sym (key_is key k) ∙ e in
    ap (λ c. cond c (Some rs) (shown_at (without (datum_of key) rows) (datum_of k))) other ∙ without_other (datum_of k) (datum_of key) rows other
change_shown rows (Goes key) k true e = without_same (datum_of k) (datum_of key) rows (sym (key_is key k) ∙ e)
change_shown rows (Goes key) k false e = without_other (datum_of k) (datum_of key) rows (sym (key_is key k) ∙ e)

keys_shown : (changes : List KeyChange) (rows : Rows) (k : Value) → shown_at (fold with_change rows changes) (datum_of k) ≡ shown_after changes k (shown_at rows (datum_of k))
keys_shown [] rows k = refl
keys_shown (c ∷ cs) rows k = keys_shown cs (with_change rows c) k ∙ ap (shown_after cs k) (change_shown rows c k (equal (key_in c) k) refl)

-- ---- the cut
line_sizes : (line : List LogView) → lengths_in line ≡ map length (entries_of line)
line_sizes [] = refl
line_sizes (l ∷ ls) = ap (λ t. length l.entries ∷ t) (line_sizes ls)

set_sizes : (cut : List Line) (s : ℕ) (line : Line) → slice_set (lengths_of cut) s (map length line) ≡ lengths_of (slice_set cut s line)
set_sizes [] s line = refl
set_sizes (l ∷ cut) zero line = refl
set_sizes (l ∷ cut) (suc s) line = ap (λ t. map length l ∷ t) (set_sizes cut s line)

put_sizes : (s : ℕ) (line : Option (List LogView)) (cut : List Line) → lengths_with s line (lengths_of cut) ≡ lengths_of (put_line s line cut)
put_sizes s None cut = refl
put_sizes s (Some line) cut = ap (slice_set (lengths_of cut) s) (line_sizes line) ∙ set_sizes cut s (entries_of line)

at_most_self : (cut : List Line) → IsAtMost (lengths_of cut) (lengths_of cut)
at_most_self cut s j = omega arith

set_later : (cut : List Line) (s : ℕ) (line : Line) → ((held : Line) → slice_get cut s ≡ Some held → Grows held line) → IsAtMost (lengths_of cut) (lengths_of (slice_set cut s line))
set_later [] s line g i j = omega arith
set_later (l ∷ cut) zero line g zero j = line_len l line (g l refl) j
set_later (l ∷ cut) zero line g (suc i) j = omega arith
set_later (l ∷ cut) (suc s) line g zero j = omega arith
set_later (l ∷ cut) (suc s) line g (suc i) j = set_later cut s line g i j

-- ---- the whole of it
module _ (old new : Domain) (x : Snapshot) (change : ShownView) (shows : Shows old x) (told : IsShown old (Some change) new) where
  -- what is shown goes on
  pub told_later : IsLater x (after x change)
  told_later = record { view = refl; shard = refl; cut = rw shows.lengths (rw (put_sizes change.stage change.line (lines_of old.cut)) (by change.line told.line)) }
    where
      by : (line : Option (List LogView)) → IfSome line (IsNextLine old change.stage) → IsAtMost (lengths_of (lines_of old.cut)) (lengths_of (put_line change.stage line (lines_of old.cut)))
      by None next = at_most_self (lines_of old.cut)
      by (Some line) next = set_later (lines_of old.cut) change.stage (entries_of line) next.grows

  -- the copy then shows what is held
  pub shows_after : new.view ≡ old.view → new.shard ≡ old.shard → Shows new (after x change)
  shows_after view shard = record {
    view = shows.view ∙ sym view;
    shard = shows.shard ∙ sym shard;
    lengths = ap (lengths_with change.stage change.line) shows.lengths ∙ (put_sizes change.stage change.line (lines_of old.cut) ∙ ap lengths_of (sym told.cut));
    cut = ap (put_line change.stage change.line) shows.cut ∙ sym told.cut;
    rows = λ k. keys_shown change.keys x.rows k ∙ (ap (shown_after change.keys k) (shows.rows k) ∙ sym (told.keys.each k));
    asked = sym told.asked;
  }

-- ---- the step
-- it is of the same shard of the same view of a plan
abbrev pub IsSame : View → View → Type 0
IsSame v w = (w.plan ≡ v.plan) × (w.view ≡ v.view) × (w.shard ≡ v.shard)

-- a step leaves of which shard it is
pub step_stays : (v : View) (m : ToView) → IsSame v (step v m).view
step_stays v (packet s x) = (refl, refl, refl)
step_stays v (order k) = (refl, refl, refl)
step_stays v (want k) = by (is_hole (v.keys.at k))
  where
    by : (b : Bool) → IsSame v (cond b (begins v k) (quiet v v.keys)).view
    by true = (refl, refl, refl)
    by false = (refl, refl, refl)

-- what runs is not broken
pub sound : (m : Mode) → m ≡ Running → m ≢ Broken
sound m running broken = let e : Running ≡ Broken = sym running ∙ broken in cc

-- a packet out of turn, and all else is as it was; or want of memory. It does not run
abbrev pub IsUntaken : ToView → Domain → Refused → Domain → Type 0
IsUntaken m old e new = ((e ≡ Gap) × (IsNext old m → ⊥) × (new ≡ stopped old)) ⊎ ((e ≡ NoMemory) × IsNext old m × (new.mode ≢ Running))

-- a domain that fails does not run
pub untaken : (m : ToView) (old new : Domain) (e : Refused) (out : OutboxView) → Fails m old e out new → IsUntaken m old e new
untaken m old new e out f = by f.why
  where
    apart : (b : Mode) → b ≡ Broken → b ≢ Running
    apart b broken running = let e : Running ≡ Broken = sym running ∙ broken in cc

    by : ((e ≡ Gap) × (IsNext old m → ⊥) × (new ≡ stopped old)) ⊎ ((e ≡ NoMemory) × IsNext old m × (new.mode ≡ Broken)) → IsUntaken m old e new
    by (inl gap) = inl gap
    by (inr none) = inr (none.0, none.1, apart new.mode none.2)

-- what is taken out of an outbox is what was told
pub told_of : (old new : Domain) (shown told : Option ShownView) (change : ShownView) → told ≡ shown → told ≡ Some change → IsShown old shown new → IsShown old (Some change) new
told_of old new shown told change is one h = subst (λ o. IsShown old o new) (sym is ∙ one) h

-- what shows what a domain holds is true where that is
pub shows_truth : (p : Layout) (d : Domain) (x : Snapshot) → d.plan ≡ p → Shows d x → AreAnswers d → IsTrue p x
shows_truth p d x plan shows answers = record {
  rows = λ k own. rw (shows.rows k, ← plan, shows.cut, shows.view) (answers.keys k (rw (plan, ← shows.view, ← shows.shard) own));
}
