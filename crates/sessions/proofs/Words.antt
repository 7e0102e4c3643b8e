-- The word of a session after an answer, and when it was found moved by another.
use Rattle.std.proofs.Common.{◌≡◌, ℕ, ◌+◌, ◌<◌, ◌≤◌, Bool, true, List, Option, ap, ◌∙◌, arith, inr, refl}
use mathlib.Core.List.{IsPrefix}
use Rattle.row.specs.Cells.{Cells, Datum}
use Rattle.row.specs.declared.refused.Refused.{Refused}
use Rattle.row.specs.declared.refused.Refused.TheVariants.{Stolen}
use Rattle.plan.specs.Layouts.{Layout}
use Rattle.model.specs.Histories.{Floors, Item, Lengths, read, view_shard}
use Rattle.model.specs.Tables.{with_floor}
use Rattle.model.proofs.Prefixes.{prefix_trans}
use Rattle.book.specs.Pages.{IsAdded}
use Rattle.book.specs.Sessions.{SessionView, IsRead, IsStolen, own_items, own_word}
use Rattle.shown.specs.Snapshots.{Snapshot}
use Rattle.sessions.specs.Callers.{Caller, IsCaller, IsLooking, caller_with}
use Rattle.sessions.specs.Reads.{IsUndone}
use Rattle.sessions.proofs.Callers.{caller_later}
use Rattle.sessions.proofs.Later.{all_self}
use Rattle.sessions.proofs.Looks.{looks_later}

-- the word has one answer more, a read at the end of what was then seen
pub record HasRead (p : Layout) (w l n : SessionView) (v : ℕ) (k : Datum) (rs : List Cells) (c : Lengths) : Type 0 where
  pub session : n.session ≡ w.session
  pub answered : n.answered ≡ w.answered + 1
  pub floors : n.floors ≡ with_floor w.floors v (view_shard p v k) c
  pub once : own_items p w.session l.seen ≡ w.answered
  pub item : IsAdded p (own_word p w.session) l.seen (read w.session v k rs c) n.seen

pub has_read : (p : Layout) (w l n : SessionView) (v j : ℕ) (k : Datum) (rs : List Cells) (c : Lengths) → l ≡ record w { seen = l.seen } → j ≡ view_shard p v k → IsRead p l v j k rs c n → HasRead p w l n v k rs c
has_read p w l n v j k rs c learned is told =
    let session = ap (λ (x : SessionView). x.session) learned in
    let answered = ap (λ (x : SessionView). x.answered) learned in
    let floors = ap (λ (x : SessionView). x.floors) learned in
    record {
      session = ap (λ (x : SessionView). x.session) told.stays ∙ session;
      answered = ap (λ (x : SessionView). x.answered) told.stays ∙ ap (λ m. m + 1) answered;
      floors = ap (λ (x : SessionView). x.floors) told.stays ∙ (ap (λ (f : Floors). with_floor f v j c) floors ∙ ap (λ (m : ℕ). with_floor w.floors v m c) is);
      once = rw (session, answered) at told.counted;
      item = rw session at told.item;
    }

-- the caller that has this word
abbrev pub caller_of : SessionView → ℕ → Bool → List Item → List (Option ℕ) → List Snapshot → Caller
caller_of w number stolen seen accepted shown = caller_with w.session number w.answered stolen seen accepted w.floors shown

module _ (p : Layout) (number : ℕ) (stolen : Bool) (seen : List Item) (accepted : List (Option ℕ)) (shown : List Snapshot) (w l n : SessionView) (learned : l ≡ record w { seen = l.seen }) (others : IsPrefix seen l.seen) (moved : IsStolen p l n) where
  session_same : n.session ≡ w.session
  session_same = ap (λ (x : SessionView). x.session) moved.stays ∙ ap (λ (x : SessionView). x.session) learned

  answered_same : n.answered ≡ w.answered
  answered_same = ap (λ (x : SessionView). x.answered) moved.stays ∙ ap (λ (x : SessionView). x.answered) learned

  floors_same : n.floors ≡ w.floors
  floors_same = ap (λ (x : SessionView). x.floors) moved.stays ∙ ap (λ (x : SessionView). x.floors) learned

  grown : IsPrefix seen n.seen
  grown = prefix_trans seen l.seen n.seen others moved.grown

  -- it has taken a number, and holds what a session holds
  pub stolen_kept : (sessions : ℕ) (h : List Item) → h ≡ n.seen → IsCaller p (caller_of w number stolen seen accepted shown) → w.answered ≤ number → IsLooking p (caller_of w number stolen seen accepted shown) → w.session < sessions
      → IsCaller p (caller_of n (number + 1) true h accepted shown) × (n.answered ≤ number + 1) × IsLooking p (caller_of n (number + 1) true h accepted shown) × (n.session < sessions)
  stolen_kept sessions h is caller counted looking range = rw (is, session_same, floors_same) (
    caller_later p _ (number + 1) true n.seen _ caller grown,
    omega (arith, answered_same, counted),
    looks_later p _ (number + 1) true n.seen _ _ looking (all_self _),
    range,
  )

  -- and the call is refused so
  pub stolen_undone : {P : Refused → Type 0} → (h : List Item) → h ≡ n.seen → IsUndone p P (caller_of w number stolen seen accepted shown) (caller_of n (number + 1) true h accepted shown) Stolen
  stolen_undone h is = rw (is, session_same, answered_same, floors_same) (record { after = refl; looked = all_self shown; number = inr refl; grown = grown; why = inr (refl, refl, rw (session_same, answered_same) at moved.more) })
