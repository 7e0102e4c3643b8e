use Rattle.std.proofs.Common.{map, refl}
use Rattle.std.specs.Cow.{cow_str_bytes}
use Rattle.std.proofs.lemmas.Bool.{iff_false}
use Rattle.schedule_lines.proofs.Asking.{no_call}
use Rattle.schedule_lines.proofs.event_line.call.Goals as goal

pub returns-in_err-table-clause-none : goal.returns-in_err-table-clause-none
returns-in_err-table-clause-none c = λ _ session ask.
    let bare = rw c.deref.ensures.value at (iff_false c.is_want.ensures c.if-is_want.false) in
    no_call session (map cow_str_bytes c.args.words.items) ask (c.in_err-table.ensures.none refl) bare
