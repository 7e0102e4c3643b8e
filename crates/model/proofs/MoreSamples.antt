-- More answers: a group that is counted, a second view, stage shards at different cuts.
use Rattle.std.proofs.Common.{◌≡◌, ℕ, Bool, true, false, List, [], ◌∷◌, ◌++◌, map, refl, codes, Some}
use Rattle.row.specs.Cells.{text}
use Rattle.plan.specs.Layouts.{Layout}
use Rattle.plan.specs.Outputs.{pass}
use Rattle.plan.specs.Recipes.{view}
use Rattle.plan.proofs.SamplePlans.{clicks_summed, votes_counted, votes_small}
use Rattle.plan.specs.declared.kinds.Aggregate.TheVariants.{Count}
use Rattle.plan.specs.declared.kinds.Op.{Op}
use Rattle.plan.specs.declared.kinds.Op.TheVariants as op
use Rattle.model.specs.Logs.{Change, inserts}
use Rattle.model.specs.Queries.{answer}
use Rattle.model.specs.Cuts.{fronts_of}
use Rattle.model.proofs.Samples.{n, writes, ask, both, clicked}

-- Group with a count and two conditions
abbrev pub clicks_counted : Layout
clicks_counted = record clicks_summed { aggregate = Some Count; left = record { table = 0; key = 1; conditions = record { column = 2; op = op.Greater; value = n 0 } ∷ record { column = 2; op = op.Less; value = n 7 } ∷ [] } }

pub counted : ask clicks_counted clicked ((3 ∷ []) ∷ []) (text (codes "home")) ≡ (text (codes "home") ∷ n 1 ∷ []) ∷ []
counted = refl

-- a second view, by title
abbrev pub votes_by_title : Layout
votes_by_title = record votes_counted { views = view (codes "by_author") 1 2 4 ∷ view (codes "by_title") 2 1 4 ∷ [] }

abbrev pub one_vote : List (ℕ × Change)
one_vote = (0, inserts (n 1 ∷ n 7 ∷ text (codes "a") ∷ [])) ∷ (1, inserts (n 10 ∷ n 1 ∷ n 1 ∷ [])) ∷ []

pub titled : answer votes_by_title (fronts_of votes_by_title (writes votes_by_title 0 one_vote) (both (0 ∷ 1 ∷ 1 ∷ 0 ∷ []))) 1 (text (codes "a")) ≡ (n 1 ∷ n 7 ∷ text (codes "a") ∷ n 1 ∷ []) ∷ []
titled = refl

-- two stage shards that stand at different cuts
abbrev pub moved : List (ℕ × Change)
moved = (0, inserts (n 1 ∷ n 7 ∷ [])) ∷ (0, inserts (n 2 ∷ n 7 ∷ [])) ∷ (1, inserts (n 10 ∷ n 1 ∷ [])) ∷ (1, inserts (n 11 ∷ n 2 ∷ [])) ∷ []

pub first_behind : ask votes_small (moved ++ (1, inserts (n 12 ∷ n 2 ∷ [])) ∷ []) ((2 ∷ 3 ∷ []) ∷ (2 ∷ 2 ∷ []) ∷ []) (n 7) ≡ (n 1 ∷ n 7 ∷ n 1 ∷ []) ∷ (n 2 ∷ n 7 ∷ n 2 ∷ []) ∷ []
first_behind = refl

pub second_behind : ask votes_small (moved ++ (1, inserts (n 12 ∷ n 1 ∷ [])) ∷ []) ((2 ∷ 2 ∷ []) ∷ (2 ∷ 3 ∷ []) ∷ []) (n 7) ≡ (n 1 ∷ n 7 ∷ n 2 ∷ []) ∷ (n 2 ∷ n 7 ∷ n 1 ∷ []) ∷ []
second_behind = refl

-- conditions of the right side: votes of weight 1 do not count
abbrev pub votes_heavy : Layout
votes_heavy = record votes_counted { right = Some (record { table = 1; key = 1; conditions = record { column = 2; op = op.Greater; value = n 1 } ∷ [] }) }

abbrev pub weighed_votes : List (ℕ × Change)
weighed_votes = (0, inserts (n 2 ∷ n 7 ∷ text (codes "b") ∷ [])) ∷ (1, inserts (n 10 ∷ n 2 ∷ n 1 ∷ [])) ∷ (1, inserts (n 12 ∷ n 2 ∷ n 2 ∷ [])) ∷ []

pub heavy : ask votes_heavy weighed_votes (both (1 ∷ 0 ∷ 2 ∷ 0 ∷ [])) (n 7) ≡ (n 2 ∷ n 7 ∷ text (codes "b") ∷ n 1 ∷ []) ∷ []
heavy = refl

pub light : ask votes_heavy weighed_votes (both (1 ∷ 0 ∷ 1 ∷ 0 ∷ [])) (n 7) ≡ []
light = refl

-- each operator, at a cell below, equal to and above its value
abbrev pub passes : Op → List Bool
passes o = pass (record { column = 0; op = o; value = n 5 } ∷ []) (n 4 ∷ []) ∷ pass (record { column = 0; op = o; value = n 5 } ∷ []) (n 5 ∷ []) ∷ pass (record { column = 0; op = o; value = n 5 } ∷ []) (n 6 ∷ []) ∷ []

pub operators : map passes (op.Equal ∷ op.NotEqual ∷ op.Less ∷ op.AtMost ∷ op.Greater ∷ op.AtLeast ∷ []) ≡ (false ∷ true ∷ false ∷ []) ∷ (true ∷ false ∷ true ∷ []) ∷ (true ∷ false ∷ false ∷ []) ∷ (true ∷ true ∷ false ∷ []) ∷ (false ∷ false ∷ true ∷ []) ∷ (false ∷ true ∷ true ∷ []) ∷ []
operators = refl
