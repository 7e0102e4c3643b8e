-- The rule of the book, and what its steps tell.
use Rattle.std.specs.Prelude.{◌≡◌, ℕ, zero, suc, ◌+◌, ◌<◌, ◌≤◌, ◌==◌, true, false, List, [], ◌∷◌, ◌++◌, map, flat_map, length, slice_index_or, MatchBool}
use Rattle.logbook.specs.Pages.{Cell, Step, View, Book, Named}
use Rattle.plan.specs.Layouts.{Layout}
use Rattle.plan.specs.Recipes.{notes_plan}
use Rattle.model.specs.Places.{base_count}
use Rattle.model.specs.Histories.{Item}
use Rattle.book.specs.Words.{word_of, count_at}
use Rattle.model.specs.Legal.{Allows, IsLegal}

-- what the log of the book holds: first the plan and the number of sessions, then items
pub data Page : Type 0 where
  opens : Layout → ℕ → Page
  adds : Item → Page

-- the item that a page adds
abbrev pub item_in : Page → List Item
item_in (opens p n) = []
item_in (adds i) = i ∷ []

-- the items of a log of pages
abbrev pub history_of : List Page → List Item
history_of log = flat_map item_in log

-- the pages of a history
abbrev pub pages : Layout → ℕ → List Item → List Page
pages p n h = opens p n ∷ map adds h

-- the log of a book of this plan and so many sessions
pub record IsLogOf (p : Layout) (n : ℕ) (log : List Page) : Type 0 where
  pub whole : log ≡ pages p n (history_of log)
  pub legal : IsLegal p n (history_of log)

-- each word has the number of its items
pub record IsKeptBy (p : Layout) (n : ℕ) (cells : List Cell) (log : List Page) : Type 0 where
  pub of : IsLogOf p n log
  pub width : length cells ≡ base_count p + n
  pub words : (k : ℕ) → k < length cells → slice_index_or cells k (0, false) ≡ (count_at p k (history_of log), true)

-- the rule: the words are kept for some plan and number of sessions
abbrev pub IsKept : List Cell → List Page → Type 0
IsKept cells log = (p : Layout) × (n : ℕ) × IsKeptBy p n cells log

-- a word of the book
abbrev pub word_named : Book → ℕ → Named
word_named b k = record { tracked = true; key = k; book = b }

-- the history so far was seen, and the number of the word's items in it
abbrev pub IsLook : ℕ → ℕ → List Page → List Page → Type 0
IsLook k found v w = (p : Layout) (n : ℕ) → IsLogOf p n v → IsLogOf p n w × (found ≡ count_at p k (history_of w))

-- what a step that looks tells
abbrev pub Looks : Step Page → View Page ℕ → ℕ → View Page ℕ → Type 0
Looks s v found w = IsLook s.key found v.0 w.0

-- the new history goes on with items of other words, and then the one that was asked for
pub record IsAdded (p : Layout) (k : ℕ) (v : List Item) (i : Item) (w : List Item) : Type 0 where
  pub between : List Item
  pub quiet : count_at p k between ≡ 0
  pub added : w ≡ (v ++ between) ++ i ∷ []

-- the word had the number that the step expected, which was that of the part seen before, and the item was added; or it had moved
abbrev pub IsTold : Layout → ℕ → ℕ → Item → ℕ → List Item → List Item → Type 0
IsTold p k old i found v w = MatchBool (found == old) ((count_at p k v ≡ old) × IsAdded p k v i w) (found ≡ count_at p k w)

-- a try tells this of each item that it asked for
pub record IsTry (p : Layout) (n k old : ℕ) (ask : Page) (found : ℕ) (v w : List Page) : Type 0 where
  pub of : IsLogOf p n w
  pub tells : (i : Item) → ask ≡ adds i → IsTold p k old i found (history_of v) (history_of w)

-- what a step that adds tells
abbrev pub Tries : Step Page → View Page ℕ → ℕ → View Page ℕ → Type 0
Tries s v found w = (p : Layout) (n : ℕ) → IsLogOf p n v.0 → IsTry p n s.key s.old s.ask found v.0 w.0

-- the word had the number that was expected, and the page's item was added
abbrev pub IsDone : Layout → ℕ → ℕ → Page → List Item → List Item → Type 0
IsDone p k old ask v w = (i : Item) → ask ≡ adds i → (count_at p k v ≡ old) × IsAdded p k v i w

-- an item may be added by an exchange of this word from this number
pub record IsAsk (p : Layout) (n k old : ℕ) (h : List Item) (ask : Page) : Type 0 where
  pub item : Item
  pub asks : ask ≡ adds item
  pub word : word_of p item ≡ k
  pub range : k < base_count p + n
  pub least : old ≤ count_at p k h
  pub may : count_at p k h ≡ old → Allows p n h item

-- the words of a book, in order
abbrev pub words_of : Book → ℕ → List Named
words_of b zero = []
words_of b (suc n) = words_of b n ++ word_named b n ∷ []

-- a book, its plan and the number of its sessions
pub record Opened : Type 0 where
  pub book : Book
  pub plan : Layout
  pub sessions : ℕ

-- the plan on the first page
abbrev pub plan_on : List Page → Layout
plan_on [] = notes_plan
plan_on (opens p n ∷ rest) = p
plan_on (adds i ∷ rest) = notes_plan
