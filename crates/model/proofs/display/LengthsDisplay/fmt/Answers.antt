use Rattle.std.proofs.Common.{rules, arith, ◌<◌, ◌∷◌, ◌-◌, ◌∙◌, Some, [], length, drop, map, sym, ap, refl}
use Rattle.std.proofs.lemmas.Grind.{put_two}
use Rattle.std.proofs.lemmas.List.{length-drop}
use Rattle.std.proofs.lemmas.Option.{slice_get-get_or}
use lib.Utf8.{encode}
use Rattle.row.proofs.Printing.{joined_written, row_split, words_more}
use Rattle.model.specs.Printed.{printed_line}
use Rattle.model.proofs.display.LengthsDisplay.fmt.Goals as goal

pub loop-stage-preserved : goal.loop-stage-preserved
unfolding encode
loop-stage-preserved g c = (
  omega arith,
  λ plain.
      let cut = c.args.self.now in
      let line = c.line-in-loop-stage.result.now in
      let before = c.loop-stage.invariant.1 plain in
      let slash = c.in_ok-write_char.ensures.writes before.plain (search rules) in
      let word = c.in_ok-write_line-2.ensures slash.plain (search rules) in
      let both = put_two _ _ _ _ (47 ∷ []) (printed_line line) (47 ∷ printed_line line) slash word refl in
      let lt : c.loop-stage.stage < length cut = search rules in
      put_two _ _ _ _ _ _ _ before both (words_more (λ l. 47 ∷ printed_line l) cut c.loop-stage.stage line c.loop-stage.invariant.0 (slice_get-get_or cut c.loop-stage.stage [] lt ∙ ap Some (sym c.line-in-loop-stage.ensures))),
)

pub returns-clause-writes : goal.returns-clause-writes
returns-clause-writes g c = λ plain _.
    let cut = c.args.self.now in
    let line = c.line.result.now in
    let first = c.in_ok-write_line.ensures plain (search rules) in
    let some : 0 < length cut = search rules in
    let split = row_split cut line (slice_get-get_or cut 0 [] some ∙ ap Some (sym c.line.ensures)) in
    joined_written 47 printed_line line (drop 1 cut) (c.loop-stage.stage - 1) _ (ap (map printed_line) (sym split)) (omega (arith, length-drop 1 cut, c.loop-stage-test.false, c.stages-stage-end.ensures)) first (c.loop-stage.invariant.1 first.plain)
