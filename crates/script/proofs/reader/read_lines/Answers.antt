use Rattle.std.proofs.Common.{◌≡◌, Err, ap, sym, arith}
use Rattle.std.proofs.lemmas.Bool.{eqb-true}
use Rattle.std.proofs.lemmas.List.{nil_from_length}
use Rattle.std.proofs.lemmas.Result.{err_from_is_err_and}
use Rattle.script.specs.Scripts.{lines_of}
use Rattle.script.specs.declared.script.ScriptError.TheVariants.{BadScript}
use Rattle.script.proofs.Reading.{read_more, read_all, read_fault}
use Rattle.script.proofs.reader.read_lines.Goals as goal

pub returns-in_err-take-clause-fault : goal.returns-in_err-take-clause-fault
returns-in_err-take-clause-fault g c = λ number is.
    let p = err_from_is_err_and c.from_residual.result c.from_residual.ensures.1 in
    let a = p.1 in
    let q = p.2 in
    let h : c.in_err-take.field-0.0 ≡ BadScript number = cc in
    let fault = c.in_err-take.ensures.fault number (ap (λ x. Err x) h) in
    read_fault g.F.Form.asks _ _ _ _ _ number _ c.loop-rest.invariant.read c.split_line.ensures.lines fault.0 fault.1

pub loop-rest-preserved : goal.loop-rest-preserved
loop-rest-preserved g c =
    let said = c.in_ok-take.ensures.calls in
    record {
      read = read_more g.F.Form.asks _ _ _ _ _ _ _ _ said.0 c.loop-rest.invariant.read c.split_line.ensures.lines said.1 c.in_ok-take.ensures.lines said.2;
      small = omega (arith, c.in_ok-take.ensures.lines);
    }

pub returns-clause-ok : goal.returns-clause-ok
returns-clause-ok g c =
    let empty = nil_from_length c.loop-rest.rest.now (eqb-true _ 0 (sym c.loop-rest-test.ensures)) in
    read_all g.F.Form.asks _ _ _ _ c.loop-rest.invariant.read (ap lines_of empty)
