use Rattle.std.proofs.Common.{ap, sym, subst, ◌∙◌}
use Rattle.std.specs.Option.{option_copied}
use Rattle.stage_sides.specs.Kept.{AreOfRight, rows_kept}
use Rattle.stage_sides.proofs.Keeps.{passing_kept}
use Rattle.stage_sides.proofs.kept.kept_rows.Goals as goal

pub returns-in-Some : goal.returns-in-Some
returns-in-Some c =
    let p = c.args.plan.now in
    let is = sym (ap option_copied c.in-Some.is) ∙ c.right.ensures in
    c.passing.ensures
    ∙ (passing_kept p c.in-Some.side.now c.args.rows.items (subst (λ o. AreOfRight p o c.args.rows.items) (sym is) c.requires)
    ∙ ap (λ o. rows_kept p o c.args.rows.items) is)
