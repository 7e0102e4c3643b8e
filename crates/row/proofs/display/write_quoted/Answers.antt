use Rattle.std.proofs.Common.{rules, [], ◌∷◌, ◌++◌, ap, encode_utf8}
use Rattle.std.proofs.Output.{writes_in_calls_nil, has_written_append, has_written_of_eq}
use lib.Utf8.{encode}
use Rattle.std.specs.Str.Iter.{chars_rest}
use Rattle.row.specs.Printed.{escaped}
use Rattle.row.proofs.Printing.{escaped_more, escaped_done}
use Rattle.row.proofs.display.write_quoted.Goals as goal

pub loop-c-init : goal.loop-c-init
loop-c-init g c = λ plain. ([], record { wrote = writes_in_calls_nil _ _; plain = plain }, search rules)

pub loop-c-preserved : goal.loop-c-preserved
loop-c-preserved g c = λ plain.
    let (done, wrote, left) = c.loop-c.invariant plain in
    (done ++ escaped (encode_utf8 c.in-Some.c), has_written_append _ _ _ _ _ _ wrote (search rules), escaped_more done (chars_rest c.loop-c.c-iterator) (chars_rest c.next.new.self) c.args.text.now c.in-Some.c c.in-Some.ensures.steps.0 left)

pub returns : goal.returns
unfolding encode
returns g c = λ plain ok.
    let first = c.in_ok-write_char.ensures.writes plain (search rules) in
    let (done, wrote, left) = c.loop-c.invariant first.plain in
    let last = c.write_char-2.ensures.writes wrote.plain ok in
    let whole = escaped_done done (chars_rest c.loop-c.c-iterator) c.args.text.now c.in-None.ensures.steps.0.0 left in
    has_written_of_eq _ _ _ _ _ (ap (λ t. 34 ∷ (t ++ 34 ∷ [])) whole) (has_written_append _ _ _ _ _ _ (has_written_append _ _ _ _ _ _ first wrote) last)
