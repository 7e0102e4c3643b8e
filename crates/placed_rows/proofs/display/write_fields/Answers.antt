use Rattle.std.proofs.Common.{◌∷◌, ◌-◌, ◌∙◌, [], rules, arith, ap, refl, sym, drop, map}
use Rattle.std.proofs.lemmas.List.{length-drop}
use Rattle.std.specs.Option.{option_map}
use Rattle.std.proofs.lemmas.Grind.{put_two}
use Rattle.placed_rows.specs.Values.{datum_at}
use Rattle.row.specs.Printed.{printed}
use Rattle.row.proofs.Printing.{joined_written, row_empty, row_split, words_more}
use Rattle.placed_rows.proofs.display.write_fields.Goals as goal

pub returns-in_default : goal.returns-in_default
returns-in_default g c =
    let empty = row_empty c.args.row.now (sym c.get.ensures ∙ ap (option_map datum_at) c.in_default.is) in
    rw (empty) (search rules)

pub returns : goal.returns
returns g c = λ plain _.
    let first = c.in_ok-fmt.ensures.writes plain (search rules) in
    let split = row_split c.args.row.now (datum_at c.in-Some.first) (sym c.in-Some.ensures) in
    joined_written 32 printed (datum_at c.in-Some.first) (drop 1 c.args.row.now) (c.loop-at.at - 1) _ (ap (map printed) (sym split)) (omega (arith, length-drop 1 c.args.row.now, c.loop-at-test.false, c.width-at-end.ensures)) first (c.loop-at.invariant.1 first.plain)

pub loop-at-preserved : goal.loop-at-preserved
loop-at-preserved g c = (
  omega arith,
  λ plain.
      let before = c.loop-at.invariant.1 plain in
      let blank = c.in_ok-write_str.ensures.writes before.plain (search rules) in
      let word = c.in_ok-fmt-2.ensures.writes blank.plain (search rules) in
      let both = put_two _ _ _ _ (32 ∷ []) (printed (datum_at c.field.result)) (32 ∷ printed (datum_at c.field.result)) blank word refl in
      put_two _ _ _ _ _ _ _ before both (words_more (λ d. 32 ∷ printed d) c.args.row.now c.loop-at.at (datum_at c.field.result) c.loop-at.invariant.0 c.field.ensures),
)
