-- A legal history, and some that are not.
use Rattle.std.proofs.Common.{◌≡◌, ◌<◌, ◌≤◌, ℕ, zero, suc, Bool, true, false, not, cond, List, [], ◌∷◌, ◌++◌, length, Option, Some, None, refl, ap, codes, arith, slice_index_or}
use Rattle.std.proofs.lemmas.Bool.Decides.{nat_tests}
use Rattle.row.specs.Cells.{text, Cells, cell_at}
use Rattle.row.specs.declared.refused.Refused.TheVariants.{Duplicate, Absent}
use Rattle.plan.specs.Layouts.{Layout}
use Rattle.plan.specs.Recipes.{notes_plan, view}
use Rattle.plan.proofs.SamplePlans.{notes_sharded}
use Rattle.model.specs.Logs.{Change, inserts, deletes, updates, rows_of, is_held, lawful}
use Rattle.model.specs.Refusals.{refusal, full}
use Rattle.model.specs.Places.{source_at}
use Rattle.model.specs.Histories.{Item, write, read, fence, Lengths, Floors, Place, Author, len_at, log_of, floor_of}
use Rattle.model.specs.Cuts.{IsAtMost, IsWithin, fronts_of}
use Rattle.model.specs.Queries.{answer}
use Rattle.model.specs.Legal.{limit, IsPast, EachShard, Allows, IsLegal}
use Rattle.model.proofs.Samples.{n}
use Rattle.model.proofs.Growth.{at_most_none}

abbrev pub upto : ℕ → Lengths
upto k = (k ∷ []) ∷ []

abbrev pub floored : ℕ → Floors
floored k = (upto k ∷ []) ∷ []

abbrev pub note : Cells
note = n 1 ∷ n 7 ∷ text (codes "a") ∷ []

abbrev pub first_write : Item
first_write = write 0 0 0 (inserts note)

abbrev pub first_place : Place
first_place = record { base = 0; index = 0 }

abbrev pub history : List Item
history = fence 0 [] (floored 0) ∷ first_write ∷ fence 0 (first_place ∷ []) (floored 1) ∷ read 0 0 (n 7) (note ∷ []) (upto 1) ∷ []

-- ---- the pieces of a proof that it is legal
one_shard : (P : ℕ → ℕ → Type 0) → P 0 0 → EachShard notes_plan P
one_shard P h zero zero li lj = h
one_shard P h zero (suc j) li lj = let e : suc j < 1 = lj in absurd (omega arith)
one_shard P h (suc i) j li lj = let e : suc i < 1 = li in absurd (omega arith)

upto_lines : (k s : ℕ) → s < 1 → length (slice_index_or (upto k) s []) ≡ 1
upto_lines k zero ls = refl
upto_lines k (suc s) ls = absurd (omega arith)

upto_lengths : (k : ℕ) (h : List Item) → k ≤ length (log_of 0 h) → (s j : ℕ) → len_at (upto k) s j ≤ length (log_of (source_at notes_plan j) h)
upto_lengths k h le zero zero = le
upto_lengths k h le zero (suc j) = omega arith
upto_lengths k h le (suc s) j = omega arith

upto_within : (k : ℕ) (h : List Item) → k ≤ length (log_of 0 h) → IsWithin notes_plan h (upto k)
upto_within k h le = record { stages = refl; lines = upto_lines k; lengths = upto_lengths k h le }

upto_most : (a b : ℕ) → a ≤ b → IsAtMost (upto a) (upto b)
upto_most a b le zero zero = le
upto_most a b le zero (suc j) = omega arith
upto_most a b le (suc s) j = omega arith

past_first : IsPast notes_plan (upto 1) first_place
past_first zero zero ls lj e = omega arith
past_first zero (suc j) ls lj e = let l : suc j < 1 = lj in absurd (omega arith)
past_first (suc s) j ls lj e = let l : suc s < 1 = ls in absurd (omega arith)

abbrev after_write : List Item
after_write = fence 0 [] (floored 0) ∷ first_write ∷ []

abbrev after_fence : List Item
after_fence = after_write ++ fence 0 (first_place ∷ []) (floored 1) ∷ []

fence_first : Allows notes_plan 1 [] (fence 0 [] (floored 0))
fence_first = record {
  session = omega arith;
  within = one_shard _ (upto_within 0 [] (omega arith));
  floor = one_shard _ (at_most_none (upto 0));
  past = one_shard _ tt;
  written = tt;
}

write_first : Allows notes_plan 1 (fence 0 [] (floored 0) ∷ []) first_write
write_first = record { base = omega arith; fits = refl; shard = refl; lawful = refl; room = (let r : 0 < limit = omega arith in r); number = tt }

fence_second : Allows notes_plan 1 after_write (fence 0 (first_place ∷ []) (floored 1))
fence_second = record {
  session = omega arith;
  within = one_shard _ (upto_within 1 after_write (let r : 1 ≤ 1 = omega arith in r));
  floor = one_shard _ (upto_most 0 1 (omega arith));
  past = one_shard _ (past_first, tt);
  written = (record { source = 0; there = (let r : 0 < 1 = omega arith in r); base = refl; number = 0; wrote = refl }, tt);
}

read_first : Allows notes_plan 1 after_fence (read 0 0 (n 7) (note ∷ []) (upto 1))
read_first = record {
  session = omega arith;
  view = (let r : 0 < 1 = omega arith in r);
  within = upto_within 1 after_fence (let r : 1 ≤ 1 = omega arith in r);
  floor = upto_most 1 1 (omega arith);
  answers = refl;
}

pub history_legal : IsLegal notes_plan 1 history
history_legal = (fence_first, (write_first, (fence_second, (read_first, tt))))

-- ---- not legal after the fence
-- a read below the floor
pub not_below : Allows notes_plan 1 after_fence (read 0 0 (n 7) [] (upto 0)) → ⊥
not_below a = let f : 1 ≤ 0 = a.floor 0 0 in absurd (omega arith)

-- a read that leaves out a row
pub not_less : Allows notes_plan 1 after_fence (read 0 0 (n 7) [] (upto 1)) → ⊥
not_less a = absurd (cc (a.answers))

-- a read past the log
pub not_past : Allows notes_plan 1 after_fence (read 0 0 (n 7) (note ∷ []) (upto 2)) → ⊥
not_past a = let f : 2 ≤ 1 = a.within.lengths 0 0 in absurd (omega arith)

-- a second insert of the key
pub not_twice : Allows notes_plan 1 after_fence (write 0 1 0 (inserts note)) → ⊥
not_twice a = absurd (cc (a.lawful))

-- a write under an old number
pub not_again : Allows notes_plan 1 after_fence (write 0 0 0 (deletes (n 1))) → ⊥
not_again a = let f : 0 < 0 = a.number.0 refl in absurd (omega arith)

-- a fence that misses an own write
pub not_missed : Allows notes_plan 1 after_write (fence 0 (first_place ∷ []) (floored 0)) → ⊥
not_missed a = let f : 0 < 0 = (a.past 0 0 (let r : 0 < 1 = omega arith in r) (let r : 0 < 1 = omega arith in r)).0 0 0 (omega arith) (let r : 0 < 1 = omega arith in r) refl in absurd (omega arith)

-- a read at the empty cut, by a session that has no floor yet
unread : (h : List Item) (s : ℕ) → s < 2 → IsAtMost (floor_of notes_plan s 0 0 h) (upto 0) → [] ≡ answer notes_plan (fronts_of notes_plan h (upto 0)) 0 (n 7) → Allows notes_plan 2 h (read s 0 (n 7) [] (upto 0))
unread h s small floor answers = record { session = small; view = (let r : 0 < 1 = omega arith in r); within = upto_within 0 h (omega arith); floor = floor; answers = answers }

-- another session has no floor yet
pub other_session : Allows notes_plan 2 after_fence (read 1 0 (n 7) [] (upto 0))
other_session = unread after_fence 1 (omega arith) (at_most_none (upto 0)) refl

-- a write that does not fit its table
pub not_fitting : Allows notes_plan 1 after_fence (write 0 1 0 (inserts (n 2 ∷ []))) → ⊥
not_fitting a = absurd (cc (a.fits))

-- a write in another shard than that of its key
pub not_its_shard : Allows notes_sharded 1 [] (write 0 0 0 (inserts note)) → ⊥
not_its_shard a = let named : ℕ = 0 in let own : ℕ = 1 in let z : named ≡ own = a.shard in absurd (omega arith)

-- a write to a shard that the plan does not have
pub not_there : Allows notes_plan 1 [] (write 0 0 1 (inserts note)) → ⊥
not_there a = let z : 1 < 1 = a.base in absurd (omega arith)

-- a delete of a key that is not there
pub not_absent : Allows notes_plan 1 [] (write 0 0 0 (deletes (n 1))) → ⊥
not_absent a = absurd (cc (a.lawful))

-- a fence below the floor
pub not_lower : Allows notes_plan 1 after_fence (fence 0 [] (floored 0)) → ⊥
not_lower a = let f : 1 ≤ 0 = a.floor 0 0 (let r : 0 < 1 = omega arith in r) (let r : 0 < 1 = omega arith in r) 0 0 in absurd (omega arith)

-- a fence past the log
pub not_beyond : Allows notes_plan 1 after_fence (fence 0 [] (floored 2)) → ⊥
not_beyond a = let f : 2 ≤ 1 = (a.within 0 0 (let r : 0 < 1 = omega arith in r) (let r : 0 < 1 = omega arith in r)).lengths 0 0 in absurd (omega arith)

abbrev session_of : Option Author → ℕ
session_of None = 0
session_of (Some a) = a.session

-- a fence that calls another session's place its own
pub not_own : Allows notes_plan 2 after_write (fence 1 (first_place ∷ []) (floored 1)) → ⊥
not_own a = let theirs : ℕ = 0 in let mine : ℕ = 1 in let s : theirs ≡ mine = ap session_of a.written.0.wrote in absurd (omega arith)

-- a read of a session that there is not
pub not_a_session : Allows notes_plan 1 after_fence (read 1 0 (n 7) [] (upto 0)) → ⊥
not_a_session a = let s : 1 < 1 = a.session in absurd (omega arith)

-- ---- one clause alone
-- a write to a base shard that there is not: all else holds of no table and no row
pub not_a_base : Allows notes_plan 1 [] (write 0 0 1 (inserts [])) → ⊥
not_a_base a = let z : 1 < 1 = a.base in absurd (omega arith)

-- a read of a view that there is not: it has no rows
pub not_a_view : Allows notes_plan 1 [] (read 0 1 (n 9) [] (upto 0)) → ⊥
not_a_view a = let z : 1 < 1 = a.view in absurd (omega arith)

-- a cut with a line too many, and one with a length too many
abbrev pub long_cut : Lengths
long_cut = (1 ∷ []) ∷ (0 ∷ []) ∷ []

abbrev pub wide_cut : Lengths
wide_cut = (1 ∷ 0 ∷ []) ∷ []

pub not_longer : Allows notes_plan 1 after_fence (read 0 0 (n 7) (note ∷ []) long_cut) → ⊥
not_longer a = let two : ℕ = 2 in let one : ℕ = 1 in let z : two ≡ one = a.within.stages in absurd (omega arith)

pub not_wider : Allows notes_plan 1 after_fence (read 0 0 (n 7) (note ∷ []) wide_cut) → ⊥
not_wider a = let two : ℕ = 2 in let one : ℕ = 1 in let z : two ≡ one = a.within.lines 0 (let r : 0 < 1 = omega arith in r) in absurd (omega arith)

pub not_longer_floor : Allows notes_plan 1 after_fence (fence 0 [] ((long_cut ∷ []) ∷ [])) → ⊥
not_longer_floor a = let two : ℕ = 2 in let one : ℕ = 1 in let z : two ≡ one = (a.within 0 0 (let r : 0 < 1 = omega arith in r) (let r : 0 < 1 = omega arith in r)).stages in absurd (omega arith)

pub not_wider_floor : Allows notes_plan 1 after_fence (fence 0 [] ((wide_cut ∷ []) ∷ [])) → ⊥
not_wider_floor a = let two : ℕ = 2 in let one : ℕ = 1 in let z : two ≡ one = (a.within 0 0 (let r : 0 < 1 = omega arith in r) (let r : 0 < 1 = omega arith in r)).lines 0 (let r : 0 < 1 = omega arith in r) in absurd (omega arith)

-- a read floors its own view alone
abbrev pub notes_twice : Layout
notes_twice = record notes_plan { views = view (codes "by_author") 1 1 4 ∷ view (codes "by_id") 0 1 4 ∷ [] }

abbrev pub read_once : List Item
read_once = first_write ∷ read 0 0 (n 7) (note ∷ []) (upto 1) ∷ []

pub other_view : Allows notes_twice 1 read_once (read 0 1 (n 1) [] (upto 0))
other_view = record {
  session = omega arith;
  view = (let r : 1 < 2 = omega arith in r);
  within = record { stages = refl; lines = upto_lines 0; lengths = upto_lengths 0 read_once (omega arith) };
  floor = at_most_none (upto 0);
  answers = refl;
}

-- and its own session alone
abbrev pub read_by_other : List Item
read_by_other = first_write ∷ read 1 0 (n 7) (note ∷ []) (upto 1) ∷ []

pub other_reader : Allows notes_plan 2 read_by_other (read 0 0 (n 7) [] (upto 0))
other_reader = unread read_by_other 0 (omega arith) (at_most_none (upto 0)) refl

-- a fence whose second floor misses an own write, or is past the log
abbrev pub notes_halves : Layout
notes_halves = record notes_plan { views = view (codes "by_author") 1 2 4 ∷ [] }

pub not_missed_second : Allows notes_halves 1 (first_write ∷ []) (fence 0 (first_place ∷ []) ((upto 1 ∷ upto 0 ∷ []) ∷ [])) → ⊥
not_missed_second a = let f : 0 < 0 = (a.past 0 1 (let r : 0 < 1 = omega arith in r) (let r : 1 < 2 = omega arith in r)).0 0 0 (omega arith) (let r : 0 < 1 = omega arith in r) refl in absurd (omega arith)

pub not_beyond_second : Allows notes_halves 1 (first_write ∷ []) (fence 0 [] ((upto 1 ∷ upto 2 ∷ []) ∷ [])) → ⊥
not_beyond_second a = let f : 2 ≤ 1 = (a.within 0 1 (let r : 0 < 1 = omega arith in r) (let r : 1 < 2 = omega arith in r)).lengths 0 0 in absurd (omega arith)

-- ---- room
-- a front allows an entry exactly where it is lawful there and the log has room
full_none : (limit length : ℕ) → full limit length ≡ None → length < limit
full_none limit length e = grind (arith, nat_tests)

full_room : (limit length : ℕ) → length < limit → full limit length ≡ None
full_room limit length lt = grind (arith, nat_tests)

pub allowed : (key limit : ℕ) (log : List Change) (e : Change) → refusal key limit log e ≡ None → (lawful key log e ≡ true) × (length log < limit)
allowed key limit log (inserts r) h = by_test (is_held key (rows_of key log) (cell_at r key)) h
  where
    by_test : (b : Bool) → cond b (Some Duplicate) (full limit (length log)) ≡ None → (not b ≡ true) × (length log < limit)
    by_test true h = absurd cc
    by_test false h = (refl, full_none limit (length log) h)
allowed key limit log (deletes k) h = by_test (is_held key (rows_of key log) k) h
  where
    by_test : (b : Bool) → cond b (full limit (length log)) (Some Absent) ≡ None → (b ≡ true) × (length log < limit)
    by_test true h = (refl, full_none limit (length log) h)
    by_test false h = absurd cc
allowed key limit log (updates r) h = by_test (is_held key (rows_of key log) (cell_at r key)) h
  where
    by_test : (b : Bool) → cond b (full limit (length log)) (Some Absent) ≡ None → (b ≡ true) × (length log < limit)
    by_test true h = (refl, full_none limit (length log) h)
    by_test false h = absurd cc

pub room : (key limit : ℕ) (log : List Change) (e : Change) → lawful key log e ≡ true → length log < limit → refusal key limit log e ≡ None
room key limit log (inserts r) h lt = by_test (is_held key (rows_of key log) (cell_at r key)) h
  where
    by_test : (b : Bool) → not b ≡ true → cond b (Some Duplicate) (full limit (length log)) ≡ None
    by_test true h = absurd cc
    by_test false h = full_room limit (length log) lt
room key limit log (deletes k) h lt = rw h (full_room limit (length log) lt)
room key limit log (updates r) h lt = rw h (full_room limit (length log) lt)
