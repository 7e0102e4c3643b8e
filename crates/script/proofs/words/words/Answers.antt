use Rattle.std.proofs.Common.{◌≡◌, drop, Err, ap, ◌∙◌}
use Rattle.std.proofs.lemmas.Result.{IfOk-weaker, err_from_is_err_and}
use Rattle.script.proofs.Scan.{line_found, line_given, line_once, at_end, at_byte}
use Rattle.script.specs.declared.words.LineError.TheVariants.{BadLine}
use Rattle.script.proofs.words.words.Goals as goal

pub returns-in_err-take-clause-fault : goal.returns-in_err-take-clause-fault
returns-in_err-take-clause-fault c = λ is others l.
    let p = err_from_is_err_and c.from_residual-in_err-take.result c.from_residual-in_err-take.ensures.1 in
    let a = p.1 in
    let q = p.2 in
    let h : c.in_err-take.field-0.0 ≡ BadLine = cc in
    let given = line_given c.args.line.now others l in
    let read = at_byte c.loop-rest.reader c.args.line.now c.loop-rest.rest.now c.in-len1-up.len_at_least c.loop-rest.invariant in
    let none = c.in_err-take.ensures.fault (ap (λ x. Err x) h) (drop 1 c.loop-rest.rest.now) in
    cc

pub returns-clause-ok : goal.returns-clause-ok
returns-clause-ok c =
    let done = at_end c.loop-rest.reader c.args.line.now c.loop-rest.rest.now c.in_default.len_below c.loop-rest.invariant in
    IfOk-weaker c.finish.result _ _ (λ x e. line_found c.args.line.now _ (done ∙ e)) c.finish.ensures.ok

pub returns-clause-only : goal.returns-clause-only
returns-clause-only c =
    let done = at_end c.loop-rest.reader c.args.line.now c.loop-rest.rest.now c.in_default.len_below c.loop-rest.invariant in
    IfOk-weaker c.finish.result _ _ (λ x e others l. line_once c.args.line.now others _ l (line_found c.args.line.now _ (done ∙ e))) c.finish.ensures.ok

pub returns-clause-fault : goal.returns-clause-fault
returns-clause-fault c =
    let done = at_end c.loop-rest.reader c.args.line.now c.loop-rest.rest.now c.in_default.len_below c.loop-rest.invariant in
    λ is others l. let a = line_given c.args.line.now others l in let b = c.finish.ensures.fault is in cc
