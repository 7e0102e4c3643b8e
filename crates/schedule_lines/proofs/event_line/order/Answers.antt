use Rattle.std.proofs.Common.{◌≤◌, length, map, refl, arith}
use Rattle.std.specs.Cow.{cow_str_bytes}
use Rattle.std.proofs.lemmas.Grind.{common_steps}
use Rattle.std.proofs.lemmas.List.{length-map}
use Rattle.schedule_lines.proofs.Asking.{no_long_order}
use Rattle.schedule_lines.proofs.event_line.order.Goals as goal

pub returns-in_err-key-clause-none : goal.returns-in_err-key-clause-none
returns-in_err-key-clause-none c = λ _ ask.
    let words = map cow_str_bytes c.args.words.items in
    let long : 3 ≤ length words = simp length-map (grind (arith, common_steps)) in
    no_long_order words ask long (c.in_err-key.ensures.none refl)
