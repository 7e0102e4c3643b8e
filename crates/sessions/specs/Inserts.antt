-- What a write does to its session, and when it is refused.
use Rattle.std.specs.Prelude.{◌≡◌, ◌⊎◌, ℕ, ◌+◌, ◌<◌, nat_le, ◌||◌, cond, List, Option, Some, None, slice_set, Result, Err, IfOk, IfErr, IfSome}
use Rattle.row.specs.Cells.{shard}
use Rattle.row.specs.declared.refused.Refused.{Refused}
use Rattle.row.specs.declared.refused.Refused.TheVariants.{NoMemory, Stopped, Stolen}
use Rattle.plan.specs.Layouts.{Layout, table_at, table_named}
use Rattle.model.specs.Logs.{Change, key_of}
use Rattle.model.specs.Histories.{write}
use Rattle.model.specs.Legal.{IsLegal}
use Rattle.model.specs.Refusals.{write_refusal}
use Rattle.book.specs.Replies.{IsAfter}
use Rattle.protocol.specs.Bases.{last_number}
use Rattle.protocol.specs.WorldSteps.{base_for}
use Rattle.calls.specs.Writes.{IsAnswer}
use Rattle.sessions.specs.Callers.{Caller, accepted_at}
use Rattle.sessions.specs.declared.session.Accepted.{Accepted}

-- the first of the two refusals that is there
abbrev pub first_of : Option Refused → Option Refused → Option Refused
first_of None o = o
first_of (Some r) o = Some r

-- Stolen where the session's word was found moved by another, or its call numbers are spent
abbrev pub stolen_refusal : Caller → Option Refused
stolen_refusal c = cond (c.stolen || nat_le last_number c.number) (Some Stolen) None

-- what a write to the named table is refused with for what it asks
abbrev pub call_refusal : Layout → Caller → List ℕ → Change → Option Refused
call_refusal p c name e = first_of (stolen_refusal c) (write_refusal p (table_named p name) e)

-- an accepted write: its item stands at the named index, in what was then seen, after all that its session had seen
pub record IsTaken (old new : Caller) (b : ℕ) (e : Change) (k : ℕ) : Type 0 where
  pub item : IsAfter old.seen (write old.session old.number b e) b k new.seen
  pub greatest : (i : ℕ) → accepted_at old.accepted b ≡ Some i → i < k
  pub after : new ≡ record old { number = old.number + 1; seen = new.seen; accepted = slice_set old.accepted b (Some k) }

-- the same, of the table that was named
pub record Accepts (p : Layout) (old new : Caller) (name : List ℕ) (e : Change) (a : Accepted) : Type 0 where
  pub table : table_named p name ≡ Some a.table
  pub shard : a.shard ≡ shard (key_of (table_at p a.table).key e) (table_at p a.table).shards
  pub taken : IsTaken old new (base_for p a.table e) e a.index

-- a write that is not accepted leaves the floors and what was accepted; and all that was seen, but where the log decides
pub record IsRefused (old new : Caller) : Type 0 where
  pub after : new ≡ record old { number = new.number; seen = new.seen }
  pub number : (new.number ≡ old.number) ⊎ (new.number ≡ old.number + 1)

-- it was refused for a reason of the store, or the log decided, and then the call has taken its number
pub record IsUntaken (p : Layout) (old new : Caller) (b : ℕ) (e : Change) (r : Refused) : Type 0 where
  pub rest : IsRefused old new
  pub counted : (r ≡ NoMemory) ⊎ (r ≡ Stopped) ⊎ (new.number ≡ old.number + 1)
  pub why : IsAnswer p old.seen old.session old.number b e r new.seen

-- the same, of the table that was named, or the call was refused for what it asks and nothing changed
pub data Declines (p : Layout) (old new : Caller) (name : List ℕ) (e : Change) (r : Refused) : Type 0 where
  asked : call_refusal p old name e ≡ Some r → new ≡ old → Declines p old new name e r
  untaken : call_refusal p old name e ≡ None → (t : ℕ) → table_named p name ≡ Some t → IsUntaken p old new (base_for p t e) e r → Declines p old new name e r

-- what a write to the named table comes to, of so many sessions: what was seen is legal, a session that is spent answers Stolen and stays, and else the write is refused for what it asks, accepted, or declined
pub record Writes (p : Layout) (sessions : ℕ) (old new : Caller) (name : List ℕ) (e : Change) (r : Result Accepted Refused) : Type 0 where
  pub legal : IsLegal p sessions new.seen
  pub spent : stolen_refusal old ≡ Some Stolen → (r ≡ Err Stolen) × (new ≡ old)
  pub why : IfSome (call_refusal p old name e) (λ x. r ≡ Err x)
  pub accepted : IfOk r (λ a. Accepts p old new name e a)
  pub refused : IfErr r (λ x. Declines p old new name e x)
