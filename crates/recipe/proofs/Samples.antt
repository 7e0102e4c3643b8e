-- Recipes that the prover reads: plans, and at least one for each refusal.
use Rattle.std.proofs.Common.{◌≡◌, ℕ, List, [], ◌∷◌, ◌++◌, map, codes, Result, Ok, Err, refl}
use Rattle.toml.proofs.OnLiterals.{toml_on_literals}
use Rattle.plan.specs.Layouts.{Layout}
use Rattle.plan.specs.Recipes.{notes_plan}
use Rattle.plan.proofs.SamplePlans.{votes_counted, votes_summed, votes_small, pairs_joined, clicks_summed}
use Rattle.recipe.specs.Plans.{plan_at, plan_of}

-- ---- recipes with gaps
-- stories and their votes: the shards of the stories, the name of the votes, the stage, the key of the view
abbrev two_tables : (shards name stage key : List ℕ) → List ℕ
two_tables shards name stage key =
    codes "[[table]]\nname = \"stories\"\nshards = " ++ shards ++ codes "\nkey = \"id\"\ncolumns = [\"id int\", \"author int\", \"title text\"]\n\n"
    ++ codes "[[table]]\nname = \"" ++ name ++ codes "\"\nshards = 2\nkey = \"vid\"\ncolumns = [\"vid int\", \"story int\", \"weight int\"]\n\n"
    ++ stage
    ++ codes "\n[[view]]\nname = \"by_author\"\nkey = \"" ++ key ++ codes "\"\nshards = 2\ncap = 4\n"

abbrev stage_of : (shards left_key right : List ℕ) → List ℕ
stage_of shards left_key right = codes "[stage]\nshards = " ++ shards ++ codes "\nleft = \"stories\"\nleft_key = \"" ++ left_key ++ codes "\"\n" ++ right

-- a count of votes
abbrev count : List ℕ
count = codes "right = \"votes\"\nright_key = \"story\"\naggregate = \"count\"\n"

abbrev voted : (left_key right : List ℕ) → List ℕ
voted left_key right = two_tables (codes "2") (codes "votes") (stage_of (codes "2") left_key right) (codes "author")

abbrev counted : List ℕ
counted = voted (codes "id") count

abbrev clicked : (key : List ℕ) → List ℕ
clicked key = codes "[[table]]\nname = \"clicks\"\nshards = 1\nkey = \"id\"\ncolumns = [\"id int\", \"page text\", \"ms int\"]\n\n[stage]\nshards = 1\nleft = \"clicks\"\nleft_key = \"page\"\naggregate = \"sum\"\nsum = \"ms\"\nleft_where = [{ column = \"ms\", op = \">\", value = 0 }]\n\n[[view]]\nname = \"by_page\"\nkey = \"" ++ key ++ codes "\"\nshards = 1\ncap = 2\n"

-- ---- recipes, each with its answer
abbrev Sample : Type 0
Sample = List ℕ × Result Layout ℕ

abbrev plans : List Sample
plans =
    (codes "[[table]]\nname = \"notes\"\nshards = 1\nkey = \"id\"\ncolumns = [\"id int\", \"author int\", \"body text\"]\n\n[stage]\nshards = 1\nleft = \"notes\"\nleft_key = \"id\"\n\n[[view]]\nname = \"by_author\"\nkey = \"author\"\nshards = 1\ncap = 4\n", Ok notes_plan)
    ∷ (counted, Ok votes_counted)
    ∷ (voted (codes "id") (codes "right = \"votes\"\nright_key = \"story\"\naggregate = \"sum\"\nsum = \"weight\"\n"), Ok votes_summed)
    ∷ (codes "[[table]]\nname = \"stories\"\nshards = 1\nkey = \"id\"\ncolumns = [\"id int\", \"author int\"]\n\n[[table]]\nname = \"votes\"\nshards = 1\nkey = \"vid\"\ncolumns = [\"vid int\", \"story int\"]\n\n[stage]\nshards = 2\nleft = \"stories\"\nleft_key = \"id\"\nright = \"votes\"\nright_key = \"story\"\naggregate = \"count\"\n\n[[view]]\nname = \"by_author\"\nkey = \"author\"\nshards = 1\ncap = 4\n", Ok votes_small)
    ∷ (codes "[[table]]\nname = \"p\"\nshards = 2\nkey = \"k\"\ncolumns = [\"k text\", \"n int\"]\n\n[[table]]\nname = \"q\"\nshards = 2\nkey = \"k\"\ncolumns = [\"k text\", \"n int\"]\n\n[stage]\nshards = 2\nleft = \"p\"\nleft_key = \"k\"\nright = \"q\"\nright_key = \"k\"\n\n[[view]]\nname = \"by_k\"\nkey = \"k\"\nshards = 2\ncap = 4\n", Ok pairs_joined)
    ∷ (clicked (codes "page"), Ok clicks_summed)
    ∷ []

abbrev refusals : List Sample
refusals =
    -- no document
    (codes "[stage", Err 20)
    -- no table, no right key, nothing to sum
    ∷ (codes "", Err 21)
    ∷ (voted (codes "id") (codes "right = \"votes\"\naggregate = \"count\"\n"), Err 21)
    ∷ (voted (codes "id") (codes "right = \"votes\"\nright_key = \"story\"\naggregate = \"sum\"\n"), Err 21)
    -- a key that is no column
    ∷ (voted (codes "nope") count, Err 22)
    -- a text for a number, something to sum that is only counted, a field that recipes do not have, keys of two kinds
    ∷ (two_tables (codes "2") (codes "votes") (stage_of (codes "\"2\"") (codes "id") count) (codes "author"), Err 23)
    ∷ (voted (codes "id") (count ++ codes "sum = \"weight\"\n"), Err 23)
    ∷ (codes "x = 1\n" ++ counted, Err 23)
    ∷ (voted (codes "title") count, Err 23)
    -- one table on both sides
    ∷ (voted (codes "id") (codes "right = \"stories\"\nright_key = \"id\"\naggregate = \"count\"\n"), Err 24)
    -- a view by a right column, and one of a group by another key than the stage's
    ∷ (two_tables (codes "2") (codes "votes") (stage_of (codes "2") (codes "id") count) (codes "weight"), Err 25)
    ∷ (clicked (codes "id"), Err 25)
    -- too many shards, beside a key that is no column
    ∷ (two_tables (codes "9") (codes "votes") (stage_of (codes "2") (codes "nope") count) (codes "author"), Err 26)
    -- one name twice
    ∷ (two_tables (codes "2") (codes "stories") (stage_of (codes "2") (codes "id") count) (codes "author"), Err 27)
    ∷ []

-- ---- what the definition makes of them
plans_are_read : map (λ (s : Sample). plan_of s.0) plans ≡ map (λ (s : Sample). s.1) plans
unfolding toml_on_literals plan_at
plans_are_read = refl

refusals_are_given : map (λ (s : Sample). plan_of s.0) refusals ≡ map (λ (s : Sample). s.1) refusals
unfolding toml_on_literals plan_at
refusals_are_given = refl
