-- Fronts: beginnings of one log, each with a history in which it was seen.
use Rattle.std.specs.Prelude.{◌≡◌, ℕ, ◌+◌, ◌<◌, ◌≤◌, true, List, [], ◌∷◌, ◌++◌, length, take}
use mathlib.Core.List.{IsPrefix}
use Rattle.row.specs.Bags.{Each}
use Rattle.row.specs.Cells.{shard}
use Rattle.plan.specs.Layouts.{Layout}
use Rattle.model.specs.Legal.{limit}
use Rattle.model.specs.Logs.{Change, fits, key_of, lawful}
use Rattle.model.specs.Places.{base_count, layout_of, shard_of}
use Rattle.model.specs.Histories.{Item, write, Author, log_of, authors_of}
use Rattle.book.specs.Pages.{IsAdded}

-- a base shard, how many entries of its log, and the history that was seen
pub record FrontView : Type 0 where
  pub base : ℕ
  pub len : ℕ
  pub seen : List Item

-- the entries, and who wrote them
abbrev pub entries : FrontView → List Change
entries f = take f.len (log_of f.base f.seen)

abbrev pub authors : FrontView → List Author
authors f = take f.len (authors_of f.base f.seen)

-- it is a front of a base shard's log
pub record IsFront (p : Layout) (f : FrontView) : Type 0 where
  pub base : f.base < base_count p
  pub len : f.len ≤ length (log_of f.base f.seen)

-- the entry is one of this shard's, the front's entries allow it, and the session's number is greater than those before
pub record MayAppend (p : Layout) (f : FrontView) (s m : ℕ) (e : Change) : Type 0 where
  pub fits : fits (layout_of p f.base) e ≡ true
  pub shard : shard_of p f.base ≡ shard (key_of (layout_of p f.base).key e) (layout_of p f.base).shards
  pub lawful : lawful (layout_of p f.base).key (entries f) e ≡ true
  pub room : f.len < limit
  pub number : Each (λ (a : Author). a.session ≡ s → a.number < m) (authors f)

-- one more entry, by an item that stands at the end of what was then seen, so that the front has all of its log
pub record IsAppended (p : Layout) (f : FrontView) (s m : ℕ) (e : Change) (g : FrontView) : Type 0 where
  pub item : IsAdded p f.base f.seen (write s m f.base e) g.seen
  pub stays : g ≡ record f { len = f.len + 1; seen = g.seen }
  pub entries : entries g ≡ entries f ++ e ∷ []
  pub authors : authors g ≡ authors f ++ record { session = s; number = m } ∷ []
  pub whole : g.len ≡ length (log_of g.base g.seen)

-- the front is as it was, and its log was seen to be longer
pub record IsMoved (f g : FrontView) : Type 0 where
  pub stays : g ≡ record f { seen = g.seen }
  pub grown : IsPrefix f.seen g.seen
  pub longer : g.len < length (log_of g.base g.seen)
