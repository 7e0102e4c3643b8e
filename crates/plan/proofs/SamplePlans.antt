-- Plans of the samples.
use Rattle.std.proofs.Common.{ℕ, List, [], ◌∷◌, codes, Some, None, pos}
use Rattle.row.specs.Cells.{int}
use Rattle.plan.specs.Layouts.{TableLayout, Layout}
use Rattle.plan.specs.Recipes.{number, words, table, side, view, notes_table}
use Rattle.plan.specs.declared.kinds.Aggregate.{Aggregate}
use Rattle.plan.specs.declared.kinds.Aggregate.TheVariants.{Count, Sum}
use Rattle.plan.specs.declared.kinds.Op.TheVariants as op

-- notes by author over two shards, with the author as the stage key
abbrev pub notes_sharded : Layout
notes_sharded = record { tables = notes_table 2 ∷ []; stages = 2; left = side 0 1; right = None; aggregate = None; cap = 1024; views = view (codes "by_author") 1 1 4 ∷ [] }

-- stories, and votes for them
abbrev pub stories : ℕ → TableLayout
stories shards = table (codes "stories") shards 0 (number (codes "id") ∷ number (codes "author") ∷ words (codes "title") ∷ [])

abbrev pub votes : ℕ → TableLayout
votes shards = table (codes "votes") shards 0 (number (codes "vid") ∷ number (codes "story") ∷ number (codes "weight") ∷ [])

-- stories by author, with what is told of their votes
abbrev pub voting : Aggregate → Layout
voting a = record { tables = stories 2 ∷ votes 2 ∷ []; stages = 2; left = side 0 0; right = Some (side 1 1); aggregate = Some a; cap = 1024; views = view (codes "by_author") 1 2 4 ∷ [] }

-- the number of the votes, or the sum of their weights
abbrev pub votes_counted : Layout
votes_counted = voting Count

abbrev pub votes_summed : Layout
votes_summed = voting (Sum 2)

-- fewer shards and columns
abbrev pub votes_small : Layout
votes_small = record {
  tables = table (codes "stories") 1 0 (number (codes "id") ∷ number (codes "author") ∷ []) ∷ table (codes "votes") 1 0 (number (codes "vid") ∷ number (codes "story") ∷ []) ∷ [];
  stages = 2;
  left = side 0 0;
  right = Some (side 1 1);
  aggregate = Some Count;
  cap = 1024;
  views = view (codes "by_author") 1 1 4 ∷ [];
}

-- a number for each text
abbrev pub pairs : List ℕ → TableLayout
pairs name = table name 2 0 (words (codes "k") ∷ number (codes "n") ∷ [])

-- two such tables, joined
abbrev pub pairs_joined : Layout
pairs_joined = record { tables = pairs (codes "p") ∷ pairs (codes "q") ∷ []; stages = 2; left = side 0 0; right = Some (side 1 0); aggregate = None; cap = 1024; views = view (codes "by_k") 0 2 4 ∷ [] }

-- clicks on pages
abbrev pub clicks : TableLayout
clicks = table (codes "clicks") 1 0 (number (codes "id") ∷ words (codes "page") ∷ number (codes "ms") ∷ [])

-- the sum of their times above 0, by page
abbrev pub clicks_summed : Layout
clicks_summed = record {
  tables = clicks ∷ [];
  stages = 1;
  left = record { table = 0; key = 1; conditions = record { column = 2; op = op.Greater; value = int (pos 0) } ∷ [] };
  right = None;
  aggregate = Some (Sum 2);
  cap = 1024;
  views = view (codes "by_page") 1 1 2 ∷ [];
}
