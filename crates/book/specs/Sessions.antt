-- Cuts and sessions, each with the history that was seen.
use Rattle.std.specs.Prelude.{◌≡◌, ℕ, ◌+◌, ◌<◌, ◌≤◌, List, length}
use mathlib.Core.List.{IsPrefix}
use Rattle.plan.specs.Layouts.{Layout, view_at}
use Rattle.model.specs.Places.{base_count}
use Rattle.model.specs.Queries.{Line}
use Rattle.row.specs.Cells.{Datum, Cells}
use Rattle.model.specs.Histories.{Item, read, fence, Lengths, IsSame, Floors, floor_at, floor_of, Place as PlaceView}
use Rattle.model.specs.Cuts.{fronts_of, IsWithin}
use Rattle.book.specs.Words.{count_at}
use Rattle.book.specs.Pages.{Page, IsAdded, IsAsk, IsDone}
use Rattle.model.specs.Tables.{IsTable, with_floor}

-- a cut, and the history that was seen with it
pub record CutView : Type 0 where
  pub lengths : Lengths
  pub seen : List Item

-- the fronts that the cut names
abbrev pub fronts : Layout → CutView → List Line
fronts p c = fronts_of p c.seen c.lengths

-- a floor for each view and shard, and the history that was seen with them
pub record FloorsView : Type 0 where
  pub floors : Floors
  pub seen : List Item

-- a session: its number, how often it has answered, its floors, and the history that it has seen
pub record SessionView : Type 0 where
  pub session : ℕ
  pub answered : ℕ
  pub floors : Floors
  pub seen : List Item

-- the session of these parts
abbrev pub session_with : ℕ → ℕ → Floors → List Item → SessionView
session_with session answered floors seen = record { session = session; answered = answered; floors = floors; seen = seen }

-- the session's word, and how many items of it were seen
abbrev pub own_word : Layout → ℕ → ℕ
own_word p session = base_count p + session

abbrev pub own_items : Layout → ℕ → List Item → ℕ
own_items p session h = count_at p (own_word p session) h

-- the session has answered so often. Where nobody has moved its word, its floors are those of the history
pub record IsSession (p : Layout) (n : ℕ) (x : SessionView) : Type 0 where
  pub range : x.session < n
  pub table : IsTable p x.floors
  pub least : x.answered ≤ own_items p x.session x.seen
  pub floors : own_items p x.session x.seen ≡ x.answered → (v j : ℕ) → v < length p.views → j < (view_at p v).shards → IsSame (floor_of p x.session v j x.seen) (floor_at x.floors v j)

-- the item may be added to the session's word now; and it was
abbrev pub IsOwnAsk : Layout → ℕ → SessionView → Page → Type 0
IsOwnAsk p n x ask = IsAsk p n (own_word p x.session) x.answered x.seen ask

abbrev pub IsOwnDone : Layout → SessionView → Page → List Item → Type 0
IsOwnDone p x ask h = IsDone p (own_word p x.session) x.answered ask x.seen h

-- one more answer, by an item that stands at the end of what was then seen; of the items of its word only its answers were there before
pub record IsAnswered (p : Layout) (x : SessionView) (i : Item) (floors : Floors) (y : SessionView) : Type 0 where
  pub counted : own_items p x.session x.seen ≡ x.answered
  pub item : IsAdded p (own_word p x.session) x.seen i y.seen
  pub stays : y ≡ record x { answered = x.answered + 1; floors = floors; seen = y.seen }

-- a read was answered over this cut, which is the session's floor then
abbrev pub IsRead : Layout → SessionView → ℕ → ℕ → Datum → List Cells → Lengths → SessionView → Type 0
IsRead p x view shard key rows cut y = IsAnswered p x (read x.session view key rows cut) (with_floor x.floors view shard cut) y

-- a fence ended with these cuts, which are the session's floors then
abbrev pub IsEnded : Layout → SessionView → List PlaceView → Floors → SessionView → Type 0
IsEnded p x own cuts y = IsAnswered p x (fence x.session own cuts) cuts y

-- the session is as it was, and its word was seen to have moved
pub record IsStolen (p : Layout) (x y : SessionView) : Type 0 where
  pub stays : y ≡ record x { seen = y.seen }
  pub grown : IsPrefix x.seen y.seen
  pub more : y.answered < own_items p y.session y.seen

-- the floors are cuts within the history
pub record AreWithin (p : Layout) (x : FloorsView) : Type 0 where
  pub table : IsTable p x.floors
  pub within : (v j : ℕ) → v < length p.views → j < (view_at p v).shards → IsWithin p x.seen (floor_at x.floors v j)
