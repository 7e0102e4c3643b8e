use Rattle.std.proofs.Common.{◌≡◌, true, false, ap, ◌∙◌, to_z, of_z, w64}
use Rattle.std.specs.Fmt.{signed_decimal}
use Rattle.std.specs.Str.{bytes_eq}
use Rattle.std.proofs.lemmas.Int.{to_z-of_z}
use Rattle.std.proofs.lemmas.Slice.Eq.{bytes_eq-Decides}
use Rattle.script.proofs.Numbers.{small_fits, parsed}
use Rattle.script.proofs.cell.number_of.Goals as goal

pub returns-in_default : goal.returns-in_default
returns-in_default c = λ n p. c.in_default.not-Ok n (parsed c.args.word.now n c.parse.result p c.parse.ensures.value.0)

pub returns-else-eq : goal.returns-else-eq
returns-else-eq c = λ n p.
    let h = parsed c.args.word.now n c.parse.result p c.parse.ensures.value.0 in
    let is = c.in-Ok.is in
    let number : c.in-Ok.number ≡ n = cc in
    let back : signed_decimal (to_z w64 (of_z w64 c.in-Ok.number)) ≡ signed_decimal n = ap (λ x. signed_decimal (to_z w64 (of_z w64 x))) number ∙ ap signed_decimal (to_z-of_z w64 n (small_fits n p.0)) in
    let same : c.format.result.now ≡ c.args.word.now = c.format.ensures.text ∙ (back ∙ p.1) in
    let equal : bytes_eq c.format.result.now c.args.word.now ≡ true = (bytes_eq-Decides c.format.result.now c.args.word.now).1 same in
    let other : false ≡ bytes_eq c.format.result.now c.args.word.now = c.if-eq.ensures in
    cc
