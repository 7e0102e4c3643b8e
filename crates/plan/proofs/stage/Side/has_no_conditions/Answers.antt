use Rattle.std.proofs.Common.{◌≡◌, ℕ, suc, false, ◌==◌, List, [], ◌∷◌, length, refl, arith, rules}
use Rattle.std.specs.Prelude.{nat_lt}
use Rattle.std.specs.List.{list_all}
use Rattle.std.proofs.lemmas.Bool.Decides.{nat_tests}
use Rattle.plan.specs.Layouts.{ConditionLayout, no_table}
use Rattle.plan.specs.Profile.{is_condition}
use Rattle.plan.proofs.stage.Side.has_no_conditions.Goals as goal

none_below : (n : ℕ) → nat_lt n 0 ≡ false
none_below n = grind (arith, nat_tests)

not_none : (n : ℕ) → (suc n == 0) ≡ false
not_none n = grind (arith, nat_tests)

-- a table of no columns has none that a condition names
none_fits : (cs : List ConditionLayout) → (length cs == 0) ≡ list_all (is_condition no_table) cs
none_fits [] = refl
none_fits (c ∷ cs) = rw (none_below c.column) (not_none (length cs))

pub returns : goal.returns
returns c = search (rules, c.is_empty.ensures, none_fits c.args.self.now.conditions)
