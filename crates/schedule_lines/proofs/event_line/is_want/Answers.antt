use Rattle.std.proofs.Common.{◌≡◌, ◌∷◌, drop, map, ap}
use Rattle.std.specs.Cow.{cow_str_bytes}
use Rattle.schedule_lines.proofs.Asking.{first_and_rest, want_found}
use Rattle.schedule_lines.proofs.event_line.is_want.Goals as goal

pub returns-in-Some : goal.returns-in-Some
returns-in-Some c =
    let words = c.args.words.now in
    let item = c.in-Some.ensures.item in
    let split : words ≡ c.in-Some.word.now ∷ drop 1 words = first_and_rest words c.in-Some.word.now item.3.0 item.1 in
    let same : map cow_str_bytes words ≡ c.as_str.result.now ∷ map cow_str_bytes (drop 1 words) = rw c.as_str.ensures.value (ap (map cow_str_bytes) split) in
    want_found (map cow_str_bytes words) c.as_str.result.now (map cow_str_bytes (drop 1 words)) c.eq.result same c.eq.ensures
