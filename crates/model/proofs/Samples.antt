-- Answers, places and refusals that the definitions compute, each an equation.
use Rattle.std.proofs.Common.{◌≡◌, ℕ, suc, List, [], ◌∷◌, length, take, slice_get, refl, codes, Some, pos, negsuc}
use Rattle.row.specs.Cells.{Datum, int, text, Cells, shard}
use Rattle.row.specs.declared.refused.Refused.TheVariants.{UnknownTable, BadRow, Duplicate, Absent, LogFull, UnknownView, BadKey}
use Rattle.plan.specs.Layouts.{Layout, table_at, table_named, view_named}
use Rattle.plan.proofs.SamplePlans.{notes_sharded, votes_counted, votes_summed, pairs_joined, clicks_summed}
use Rattle.model.specs.Logs.{Change, inserts, deletes, updates, key_of}
use Rattle.model.specs.Places.{base_at, table_of, shard_of, sources}
use Rattle.model.specs.Queries.{answer}
use Rattle.model.specs.Histories.{Item, write, Lengths, log_of}
use Rattle.model.specs.Cuts.{fronts_of}
use Rattle.model.specs.Legal.{limit}
use Rattle.model.specs.Refusals.{refusal, write_refusal, read_refusal, view_refusal, stage_refusal}

abbrev pub n : ℕ → Datum
n k = int (pos k)

-- writes to tables, one after the other, by session 0
abbrev pub writes : Layout → ℕ → List (ℕ × Change) → List Item
writes p m [] = []
writes p m (w ∷ ws) =
    let t = table_at p w.0 in
    write 0 m (base_at p w.0 (shard (key_of t.key w.1) t.shards)) w.1 ∷ writes p (suc m) ws

abbrev pub ask : Layout → List (ℕ × Change) → Lengths → Datum → List Cells
ask p ws cut k = answer p (fronts_of p (writes p 0 ws) cut) 0 k

abbrev pub both : List ℕ → Lengths
both line = line ∷ line ∷ []

-- stories 1 to 4, votes for them, one of which moves
abbrev pub voted : List (ℕ × Change)
voted =
    (0, inserts (n 1 ∷ n 7 ∷ text (codes "a") ∷ []))
    ∷ (1, inserts (n 10 ∷ n 1 ∷ n 1 ∷ []))
    ∷ (1, inserts (n 11 ∷ n 1 ∷ n 1 ∷ []))
    ∷ (0, inserts (n 2 ∷ n 7 ∷ text (codes "b") ∷ []))
    ∷ (0, inserts (n 3 ∷ n 8 ∷ text (codes "c") ∷ []))
    ∷ (1, updates (n 10 ∷ n 2 ∷ n 1 ∷ []))
    ∷ (1, inserts (n 12 ∷ n 4 ∷ n 1 ∷ []))
    ∷ (0, inserts (n 4 ∷ n 7 ∷ text (codes "d") ∷ []))
    ∷ (1, inserts (n 13 ∷ n 1 ∷ n 1 ∷ []))
    ∷ []

abbrev pub story : ℕ → List ℕ → ℕ → Cells
story i t count = n i ∷ n 7 ∷ text t ∷ n count ∷ []

pub no_story : ask votes_counted voted (both (0 ∷ 0 ∷ 0 ∷ 0 ∷ [])) (n 7) ≡ []
no_story = refl

pub one_story : ask votes_counted voted (both (0 ∷ 1 ∷ 1 ∷ 1 ∷ [])) (n 7) ≡ story 1 (codes "a") 2 ∷ []
one_story = refl

pub no_partner : ask votes_counted voted (both (1 ∷ 1 ∷ 1 ∷ 1 ∷ [])) (n 7) ≡ story 1 (codes "a") 2 ∷ []
no_partner = refl

pub moved_vote : ask votes_counted voted (both (1 ∷ 2 ∷ 2 ∷ 1 ∷ [])) (n 7) ≡ story 1 (codes "a") 1 ∷ story 2 (codes "b") 1 ∷ []
moved_vote = refl

pub third_story : ask votes_counted voted (both (2 ∷ 2 ∷ 3 ∷ 1 ∷ [])) (n 7) ≡ story 1 (codes "a") 1 ∷ story 2 (codes "b") 1 ∷ story 4 (codes "d") 1 ∷ []
third_story = refl

pub second_vote : ask votes_counted voted (both (2 ∷ 2 ∷ 3 ∷ 2 ∷ [])) (n 7) ≡ story 1 (codes "a") 2 ∷ story 2 (codes "b") 1 ∷ story 4 (codes "d") 1 ∷ []
second_vote = refl

-- stage shards may stand at different lines: story 1 stands in stage shard 1, story 2 in 0
pub uneven_cut : ask votes_counted voted ((1 ∷ 2 ∷ 2 ∷ 1 ∷ []) ∷ (0 ∷ 1 ∷ 1 ∷ 1 ∷ []) ∷ []) (n 7) ≡ story 1 (codes "a") 2 ∷ story 2 (codes "b") 1 ∷ []
uneven_cut = refl

-- ---- sums at both ends of 64 bits
abbrev pub weighed : List (ℕ × Change)
weighed =
    (0, inserts (n 1 ∷ n 7 ∷ text (codes "a") ∷ []))
    ∷ (0, inserts (n 2 ∷ n 7 ∷ text (codes "b") ∷ []))
    ∷ (1, inserts (n 10 ∷ n 1 ∷ n 9223372036854775807 ∷ []))
    ∷ (1, inserts (n 11 ∷ n 1 ∷ n 9223372036854775807 ∷ []))
    ∷ (1, inserts (n 12 ∷ n 2 ∷ int (negsuc 9223372036854775807) ∷ []))
    ∷ (1, inserts (n 13 ∷ n 2 ∷ int (negsuc 9223372036854775807) ∷ []))
    ∷ []

pub ends_of_cells
    : ask votes_summed weighed (both (1 ∷ 1 ∷ 2 ∷ 2 ∷ [])) (n 7)
    ≡ (n 1 ∷ n 7 ∷ text (codes "a") ∷ n 18446744073709551614 ∷ [])
    ∷ (n 2 ∷ n 7 ∷ text (codes "b") ∷ int (negsuc 18446744073709551615) ∷ [])
    ∷ []
ends_of_cells = refl

-- ---- shape Join, keyed by texts
abbrev pub texted : List (ℕ × Change)
texted =
    (0, inserts (text (codes "ab") ∷ n 1 ∷ []))
    ∷ (1, inserts (text (codes "ab") ∷ n 5 ∷ []))
    ∷ (0, inserts (text [] ∷ n 2 ∷ []))
    ∷ (1, inserts (text [] ∷ n 6 ∷ []))
    ∷ []

pub empty_text_key : ask pairs_joined texted (both (1 ∷ 1 ∷ 1 ∷ 1 ∷ [])) (text []) ≡ (text [] ∷ n 2 ∷ text [] ∷ n 6 ∷ []) ∷ []
empty_text_key = refl

pub text_key : ask pairs_joined texted (both (1 ∷ 1 ∷ 1 ∷ 1 ∷ [])) (text (codes "ab")) ≡ (text (codes "ab") ∷ n 1 ∷ text (codes "ab") ∷ n 5 ∷ []) ∷ []
text_key = refl

pub text_key_log : log_of (base_at pairs_joined 1 1) (writes pairs_joined 0 texted) ≡ inserts (text (codes "ab") ∷ n 5 ∷ []) ∷ []
text_key_log = refl

-- ---- shape Group with a condition
abbrev pub clicked : List (ℕ × Change)
clicked =
    (0, inserts (n 1 ∷ text (codes "home") ∷ n 5 ∷ []))
    ∷ (0, inserts (n 2 ∷ text (codes "home") ∷ int (negsuc 2) ∷ []))
    ∷ (0, inserts (n 3 ∷ text (codes "home") ∷ n 7 ∷ []))
    ∷ (0, deletes (n 1))
    ∷ (0, deletes (n 3))
    ∷ []

pub group_of_three : ask clicks_summed clicked ((3 ∷ []) ∷ []) (text (codes "home")) ≡ (text (codes "home") ∷ n 12 ∷ []) ∷ []
group_of_three = refl

pub group_after_deletes : ask clicks_summed clicked ((5 ∷ []) ∷ []) (text (codes "home")) ≡ []
group_after_deletes = refl

-- ---- shape Rows, with updates and deletes
abbrev pub noted : List (ℕ × Change)
noted =
    (0, inserts (n 1 ∷ n 7 ∷ text (codes "a") ∷ []))
    ∷ (0, updates (n 1 ∷ n 8 ∷ text (codes "a") ∷ []))
    ∷ (0, inserts (n 2 ∷ n 8 ∷ text (codes "b") ∷ []))
    ∷ (0, deletes (n 1))
    ∷ (0, inserts (n 1 ∷ n 9 ∷ text (codes "c") ∷ []))
    ∷ []

pub noted_eight : ask notes_sharded noted (both (1 ∷ 4 ∷ [])) (n 8) ≡ (n 2 ∷ n 8 ∷ text (codes "b") ∷ []) ∷ []
noted_eight = refl

pub noted_nine : ask notes_sharded noted (both (1 ∷ 4 ∷ [])) (n 9) ≡ (n 1 ∷ n 9 ∷ text (codes "c") ∷ []) ∷ []
noted_nine = refl

pub noted_seven : ask notes_sharded noted (both (1 ∷ 4 ∷ [])) (n 7) ≡ []
noted_seven = refl

-- ---- places, shards, refusals
pub shard_negative : shard (int (negsuc 2)) 8 ≡ 5
shard_negative = refl

pub sources_voting : sources votes_counted ≡ 0 ∷ 1 ∷ 2 ∷ 3 ∷ []
sources_voting = refl

pub table_third : table_of votes_counted 3 ≡ 1
table_third = refl

pub shard_third : shard_of votes_counted 3 ≡ 1
shard_third = refl

abbrev pub two_keys : List Change
two_keys = inserts (n 1 ∷ []) ∷ inserts (n 2 ∷ []) ∷ []

pub full_log : refusal 0 2 two_keys (inserts (n 3 ∷ [])) ≡ Some LogFull
full_log = refl

pub full_log_duplicate : refusal 0 2 two_keys (inserts (n 1 ∷ [])) ≡ Some Duplicate
full_log_duplicate = refl

pub full_log_absent : refusal 0 2 two_keys (deletes (n 3)) ≡ Some Absent
full_log_absent = refl

pub full_log_delete : refusal 0 2 two_keys (deletes (n 1)) ≡ Some LogFull
full_log_delete = refl

pub row_too_short : write_refusal votes_counted (table_named votes_counted (codes "stories")) (inserts (n 1 ∷ n 7 ∷ [])) ≡ Some BadRow
row_too_short = refl

pub row_of_other_kind : write_refusal votes_counted (table_named votes_counted (codes "stories")) (inserts (text (codes "x") ∷ n 7 ∷ text (codes "a") ∷ [])) ≡ Some BadRow
row_of_other_kind = refl

pub row_past_64_bits : write_refusal votes_counted (table_named votes_counted (codes "stories")) (inserts (n 9223372036854775808 ∷ n 7 ∷ text (codes "a") ∷ [])) ≡ Some BadRow
row_past_64_bits = refl

pub no_such_table : write_refusal votes_counted (table_named votes_counted (codes "nope")) (inserts (n 1 ∷ [])) ≡ Some UnknownTable
no_such_table = refl

pub no_such_view : read_refusal votes_counted (view_named votes_counted (codes "nope")) (n 7) ≡ Some UnknownView
no_such_view = refl

pub key_of_other_kind : read_refusal votes_counted (view_named votes_counted (codes "by_author")) (text (codes "x")) ≡ Some BadKey
key_of_other_kind = refl

-- ---- indexes and refusals at a shard's own log
-- story 3 is the second entry of its shard, whose first is story 1
pub third_index : length (log_of (base_at votes_counted 0 1) (writes votes_counted 0 (take 4 voted))) ≡ 1
third_index = refl

pub third_entry : slice_get (log_of (base_at votes_counted 0 1) (writes votes_counted 0 voted)) 1 ≡ Some (inserts (n 3 ∷ n 8 ∷ text (codes "c") ∷ []))
third_entry = refl

pub story_twice : refusal 0 limit (log_of (base_at votes_counted 0 1) (writes votes_counted 0 (take 4 voted))) (inserts (n 1 ∷ n 9 ∷ text (codes "x") ∷ [])) ≡ Some Duplicate
story_twice = refl

pub vote_absent : refusal 0 limit (log_of (base_at votes_counted 1 1) (writes votes_counted 0 (take 5 voted))) (deletes (n 99)) ≡ Some Absent
vote_absent = refl

pub no_view_to_ask : view_refusal (view_named votes_counted (codes "nope")) ≡ Some UnknownView
no_view_to_ask = refl

pub evicted_key : stage_refusal votes_counted (text (codes "x")) ≡ Some BadKey
evicted_key = refl

pub evicted_view : read_refusal votes_counted (view_named votes_counted (codes "nope")) (n 7) ≡ Some UnknownView
evicted_view = refl
