use Rattle.std.proofs.Common.{◌≡◌, is_some, Err, ap, sym, arith, vec_len}
use Rattle.std.proofs.lemmas.Bool.{iff_false, eqb-false}
use Rattle.std.proofs.lemmas.Grind.{common_steps}
use Rattle.std.proofs.lemmas.List.{length-map}
use Rattle.std.proofs.lemmas.Result.{err_from_is_err_and}
use Rattle.script.proofs.Reading.{wordless, formless}
use Rattle.script.specs.declared.words.LineError.TheVariants.{BadLine}
use Rattle.script.proofs.reader.line_of.Goals as goal

pub returns-in_err-words-clause-fault : goal.returns-in_err-words-clause-fault
returns-in_err-words-clause-fault g c = λ is.
    let p = err_from_is_err_and c.from_residual.result c.from_residual.ensures.1 in
    let a = p.1 in
    let q = p.2 in
    let h : c.in_err-words.field-0.0 ≡ BadLine = cc in
    wordless g.F.Form.asks c.args.line.now (iff_false c.is_comment.ensures c.if-is_comment.false) (c.in_err-words.ensures.fault (ap (λ x. Err x) h))

pub returns-in-None-clause-fault : goal.returns-in-None-clause-fault
returns-in-None-clause-fault g c = λ _.
    let some = eqb-false (vec_len c.in_ok-words.words) 0 (sym c.if-is_empty.ensures) in
    formless g.F.Form.asks c.args.line.now _ (iff_false c.is_comment.ensures c.if-is_comment.false) c.in_ok-words.ensures.ok (simp length-map (grind (arith, common_steps))) (c.of_words.ensures.none (ap is_some c.in-None.is))
