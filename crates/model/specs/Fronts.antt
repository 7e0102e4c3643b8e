-- What a front of any kind says of its log.
use Rattle.std.specs.Prelude.{◌≡◌, ℕ, ◌<◌, ◌≤◌, true, List, [], ◌∷◌, ◌++◌, length, take}
use Rattle.std.specs.List.{list_all}
use Rattle.row.specs.Bags.{Each}
use Rattle.row.specs.Cells.{shard}
use Rattle.plan.specs.Layouts.{Layout}
use Rattle.model.specs.Histories.{Author}
use Rattle.model.specs.Legal.{limit}
use Rattle.model.specs.Logs.{Change, fits, key_of, lawful}
use Rattle.model.specs.Places.{base_count, layout_of, shard_of}

-- the beginning of the log of a base shard of a plan
pub record LogView : Type 0 where
  pub plan : Layout
  pub base : ℕ
  pub entries : List Change

-- the one list begins the other
abbrev pub Begins : {X : Type 0} → List X → List X → Type 0
Begins xs ys = take (length xs) ys ≡ xs

-- the shorter of the two begins the longer
pub record Agree {X : Type 0} (xs ys : List X) : Type 0 where
  pub first : length xs ≤ length ys → Begins xs ys
  pub second : length ys ≤ length xs → Begins ys xs

-- what holds of each: its base shard is one of the plan, its entries fit the table, a log may have so many
pub record IsLog (l : LogView) : Type 0 where
  pub range : l.base < base_count l.plan
  pub fitting : list_all (fits (layout_of l.plan l.base)) l.entries ≡ true
  pub room : length l.entries ≤ limit

-- the entry may come next: it fits, is of this shard, is lawful, there is room, and its number is above its session's
pub record AllowsEntry (l : LogView) (authors : List Author) (s m : ℕ) (e : Change) : Type 0 where
  pub fitting : fits (layout_of l.plan l.base) e ≡ true
  pub shard : shard_of l.plan l.base ≡ shard (key_of (layout_of l.plan l.base).key e) (layout_of l.plan l.base).shards
  pub lawful : lawful (layout_of l.plan l.base).key l.entries e ≡ true
  pub room : length l.entries < limit
  pub number : Each (λ (a : Author). a.session ≡ s → a.number < m) authors

-- one more entry, and its author
abbrev pub with_entry : LogView → Change → LogView
with_entry l e = record l { entries = l.entries ++ e ∷ [] }

abbrev pub with_author : List Author → ℕ → ℕ → List Author
with_author authors s m = authors ++ record { session = s; number = m } ∷ []

-- the log was seen to go on
pub record IsLonger (l m : LogView) : Type 0 where
  pub plan : m.plan ≡ l.plan
  pub base : m.base ≡ l.base
  pub begins : Begins l.entries m.entries
  pub longer : length l.entries < length m.entries
