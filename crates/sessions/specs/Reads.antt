-- What a read does to its session.
use Rattle.std.specs.Prelude.{◌≡◌, ◌⊎◌, ℕ, ◌+◌, ◌<◌, true, List, Option, Some, None, Result, Err, IfOk, IfErr, IfSome}
use mathlib.Core.List.{IsPrefix}
use Rattle.row.specs.Cells.{Datum, Cells}
use Rattle.row.specs.declared.refused.Refused.{Refused}
use Rattle.row.specs.declared.refused.Refused.TheVariants.{NoMemory, Stopped, Busy, Stolen}
use Rattle.plan.specs.Layouts.{Layout, view_named}
use Rattle.model.specs.Histories.{Item, read, Lengths, floor_at, view_shard}
use Rattle.model.specs.Cuts.{IsAtMost}
use Rattle.model.specs.Legal.{IsLegal}
use Rattle.model.specs.Queries.{answer}
use Rattle.model.specs.Refusals.{read_refusal}
use Rattle.model.specs.Tables.{with_floor}
use Rattle.book.specs.Pages.{IsAdded}
use Rattle.book.specs.Sessions.{own_word, own_items}
use Rattle.shown.specs.Snapshots.{Snapshot, shown_at}
use Rattle.sessions.specs.Callers.{Caller, AreLater, IsSight}
use Rattle.sessions.specs.Inserts.{first_of, stolen_refusal}
use Rattle.sessions.specs.declared.reads.Answer.{Answer}
use Rattle.sessions.specs.declared.reads.Found.{Found}
use Rattle.sessions.specs.declared.reads.Found.TheVariants.{Hit, Miss}

-- what holds of the rows and the cut of a hit
abbrev pub OnHit : (List Cells → Lengths → Type 0) → Found → Type 0
OnHit P (Hit answer) = P answer.rows answer.cut
OnHit P Miss = Unit {0}

-- what holds at a miss
abbrev pub OnMiss : Type 0 → Found → Type 0
OnMiss P (Hit answer) = Unit {0}
OnMiss P Miss = P

-- what a read of the named view is refused with for what it asks
abbrev pub asked_refusal : Layout → Caller → List ℕ → Datum → Option Refused
asked_refusal p c name k = first_of (stolen_refusal c) (read_refusal p (view_named p name) k)

-- what was looked at of the key's view shard shows the key with these rows, which are the query's over its cut, of these lengths
pub record Shows (p : Layout) (shown : List Snapshot) (v : ℕ) (k : Datum) (rs : List Cells) (c : Lengths) : Type 0 where
  pub sight : Snapshot
  pub is : IsSight shown v (view_shard p v k) sight
  pub rows : shown_at sight.rows k ≡ Some rs
  pub answers : rs ≡ answer p sight.cut v k
  pub cut : c ≡ sight.lengths

-- what was looked at of the key's view shard does not show the key
pub record IsHidden (p : Layout) (shown : List Snapshot) (v : ℕ) (k : Datum) : Type 0 where
  pub sight : Snapshot
  pub is : IsSight shown v (view_shard p v k) sight
  pub none : shown_at sight.rows k ≡ None

-- an answered read: its item stands at the end of what was then seen, after all that its session had seen, the only one of its session beyond those that it had answered; its rows and its cut are what it then looked at of the key's view shard, no less than it had looked at before and than its floor; and its floor there is that cut
pub record IsRead (p : Layout) (old new : Caller) (v : ℕ) (k : Datum) (rs : List Cells) (c : Lengths) : Type 0 where
  pub before : List Item
  pub grown : IsPrefix old.seen before
  pub once : own_items p old.session before ≡ old.answered
  pub item : IsAdded p (own_word p old.session) before (read old.session v k rs c) new.seen
  pub looked : AreLater old.shown new.shown
  pub shows : Shows p new.shown v k rs c
  pub floor : IsAtMost (floor_at old.floors v (view_shard p v k)) c
  pub after : new ≡ record old { number = old.number + 1; answered = old.answered + 1; seen = new.seen; floors = with_floor old.floors v (view_shard p v k) c; shown = new.shown }

-- the same, of the view that was named
pub record Reads (p : Layout) (old new : Caller) (name : List ℕ) (k : Datum) (rs : List Cells) (c : Lengths) : Type 0 where
  pub view : ℕ
  pub named : view_named p name ≡ Some view
  pub read : IsRead p old new view k rs c

-- it has only looked
pub record HasLooked (old new : Caller) : Type 0 where
  pub looked : AreLater old.shown new.shown
  pub after : new ≡ record old { shown = new.shown }

-- a miss adds nothing, and what was looked at does not show the key
pub record IsMissed (p : Layout) (old new : Caller) (v : ℕ) (k : Datum) : Type 0 where
  pub looked : HasLooked old new
  pub hidden : IsHidden p new.shown v k

-- the same, of the view that was named
pub record Misses (p : Layout) (old new : Caller) (name : List ℕ) (k : Datum) : Type 0 where
  pub view : ℕ
  pub named : view_named p name ≡ Some view
  pub missed : IsMissed p old new view k

-- a call that is refused leaves the floors and what was accepted; and all that was seen, where the refusal is of the store; where the word was moved by another, what was then seen has more reads and fences of the session than it had answered
pub record IsUndone (p : Layout) (OfStore : Refused → Type 0) (old new : Caller) (r : Refused) : Type 0 where
  pub after : new ≡ record old { number = new.number; stolen = new.stolen; seen = new.seen; shown = new.shown }
  pub looked : AreLater old.shown new.shown
  pub number : (new.number ≡ old.number) ⊎ (new.number ≡ old.number + 1)
  pub grown : IsPrefix old.seen new.seen
  pub why : (OfStore r × (new.seen ≡ old.seen) × (new.stolen ≡ old.stolen)) ⊎ ((r ≡ Stolen) × (new.stolen ≡ true) × (old.answered < own_items p old.session new.seen))

-- a read is refused so
abbrev pub IsUnread : Layout → Caller → Caller → Refused → Type 0
IsUnread p old new r = IsUndone p (λ e. e ≡ NoMemory) old new r

-- a read that waits is refused so too, or it has only looked
abbrev pub IsUnanswered : Layout → Caller → Caller → Refused → Type 0
IsUnanswered p old new r = IsUnread p old new r ⊎ (((r ≡ Stopped) ⊎ (r ≡ Busy)) × HasLooked old new)

-- what a try of a read of the named view comes to, of so many sessions: what was seen is legal, and it is refused for what it asks, a hit, a miss, or refused so
pub record Tries (p : Layout) (sessions : ℕ) (old new : Caller) (name : List ℕ) (k : Datum) (r : Result Found Refused) : Type 0 where
  pub legal : IsLegal p sessions new.seen
  pub why : IfSome (asked_refusal p old name k) (λ e. (r ≡ Err e) × (new ≡ old))
  pub hit : IfOk r (OnHit (λ rows cut. Reads p old new name k rows cut))
  pub miss : IfOk r (OnMiss (Misses p old new name k))
  pub refused : IfErr r (λ e. (asked_refusal p old name k ≡ Some e) ⊎ IsUnread p old new e)

-- what a read of the named view that waits comes to, of so many sessions: what was seen is legal, and it is refused for what it asks, answered, or refused so
pub record Answers (p : Layout) (sessions : ℕ) (old new : Caller) (name : List ℕ) (k : Datum) (r : Result Answer Refused) : Type 0 where
  pub legal : IsLegal p sessions new.seen
  pub why : IfSome (asked_refusal p old name k) (λ e. (r ≡ Err e) × (new ≡ old))
  pub answer : IfOk r (λ a. Reads p old new name k a.rows a.cut)
  pub refused : IfErr r (λ e. (asked_refusal p old name k ≡ Some e) ⊎ IsUnanswered p old new e)

-- the same, where the rows of an answer are these
pub record AnswersInto (p : Layout) (sessions : ℕ) (old new : Caller) (name : List ℕ) (k : Datum) (rs : List Cells) (r : Result Lengths Refused) : Type 0 where
  pub legal : IsLegal p sessions new.seen
  pub why : IfSome (asked_refusal p old name k) (λ e. (r ≡ Err e) × (new ≡ old))
  pub answer : IfOk r (λ cut. Reads p old new name k rs cut)
  pub refused : IfErr r (λ e. (asked_refusal p old name k ≡ Some e) ⊎ IsUnanswered p old new e)
