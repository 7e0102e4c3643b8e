use Rattle.std.proofs.Common.{refl, ◌≡◌, ◌<◌, ◌∷◌, drop, length, map, ap, arith}
use Rattle.std.specs.Cow.{cow_str_bytes}
use Rattle.std.proofs.lemmas.Grind.{common_steps}
use Rattle.schedule_lines.proofs.Asking.{first_and_rest, no_ask}
use Rattle.schedule_lines.proofs.event_line.EventLineForm.of_words.Goals as goal

pub returns-in_err-call-clause-none : goal.returns-in_err-call-clause-none
returns-in_err-call-clause-none c = λ _ ask.
    let is = rw c.in-Some.is at c.session_of.ensures in
    let words = c.args.words.items in
    let some : 0 < length words = grind (arith, common_steps) in
    let split : words ≡ c.index.result.now ∷ drop 1 words = first_and_rest words c.index.result.now some c.index.ensures in
    let same : map cow_str_bytes words ≡ c.as_str.result.now ∷ map cow_str_bytes c.remove-session.new.self.items = rw (c.as_str.ensures.value, c.remove-session.ensures.items) (ap (map cow_str_bytes) split) in
    no_ask (map cow_str_bytes words) (map cow_str_bytes c.remove-session.new.self.items) c.as_str.result.now c.in-Some.session ask same is (c.in_err-call.ensures.none refl c.in-Some.session)
