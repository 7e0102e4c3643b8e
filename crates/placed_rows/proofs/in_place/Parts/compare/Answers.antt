use Rattle.std.proofs.Common.{◌∙◌, sym}
use Rattle.placed_rows.proofs.PartsOrder.{by_before, by_text, by_after}
use Rattle.placed_rows.proofs.in_place.Parts.compare.Goals as goal

pub returns-then-not-is_eq : goal.returns-then-not-is_eq
returns-then-not-is_eq c =
    by_before c.args.self.before.now c.args.other.before.now c.args.self.text.now c.args.other.text.now c.args.self.after.now c.args.other.after.now c.compare_numbers-before.result
    c.requires c.compare_numbers-before.ensures (sym c.is_eq.ensures ∙ c.if-not-is_eq.true)

pub returns-then-not-is_eq-2 : goal.returns-then-not-is_eq-2
returns-then-not-is_eq-2 c =
    by_text c.args.self.before.now c.args.other.before.now c.args.self.text.now c.args.other.text.now c.args.self.after.now c.args.other.after.now c.compare_numbers-before.result c.cmp-text.result
    c.requires c.compare_numbers-before.ensures (sym c.is_eq.ensures ∙ c.if-not-is_eq.false) c.cmp-text.ensures (sym c.is_eq-2.ensures ∙ c.if-not-is_eq-2.true)

pub returns : goal.returns
returns c =
    by_after c.args.self.before.now c.args.other.before.now c.args.self.text.now c.args.other.text.now c.args.self.after.now c.args.other.after.now c.compare_numbers-before.result c.cmp-text.result c.compare_numbers.result
    c.requires c.compare_numbers-before.ensures (sym c.is_eq.ensures ∙ c.if-not-is_eq.false) c.cmp-text.ensures (sym c.is_eq-2.ensures ∙ c.if-not-is_eq-2.false) c.compare_numbers.ensures
