use Rattle.std.proofs.Common.{true, [], ◌∷◌, ◌-◌, arith, refl, sym, ◌∙◌, ap}
use Rattle.row.specs.BagChanges.{with_gains}
use Rattle.row.proofs.RecordLoops.{ok_so, gains_next, gains_back, gains_done, gain_there}
use Rattle.row.proofs.bag.Bag.gain_all.Goals as goal

pub take_back-requires : goal.take_back-requires
take_back-requires c plus =
    let j = c.loop-done-then-is_err.done in
    gain_there (λ _. true) c.args.records.now (j - 1) c.index-records-done-in-loop-done-then-is_err.result (omega (arith, c.loop-done-then-is_err-test.true, c.loop-done-then-is_err.invariant.small)) c.index-records-done-in-loop-done-then-is_err.is
    c.args.self.now c.loop-done-then-is_err.self j (omega (arith, c.loop-done-then-is_err-test.true)) c.loop-done-then-is_err.invariant.gained refl plus

pub loop-done-then-is_err-preserved : goal.loop-done-then-is_err-preserved
loop-done-then-is_err-preserved c =
    let j = c.loop-done-then-is_err.done in
    record {
      small = omega (arith, c.loop-done-then-is_err.invariant.small);
      gained =
          c.take_back.ensures
          ∙ gains_back (λ _. true) c.args.records.now (j - 1) c.index-records-done-in-loop-done-then-is_err.result (omega (arith, c.loop-done-then-is_err-test.true, c.loop-done-then-is_err.invariant.small)) c.index-records-done-in-loop-done-then-is_err.is
          c.args.self.now c.loop-done-then-is_err.self j (omega (arith, c.loop-done-then-is_err-test.true)) c.loop-done-then-is_err.invariant.gained;
    }

pub loop-done-preserved : goal.loop-done-preserved
loop-done-preserved c =
    let r = c.index-records-done.result in
    record {
      small = omega (arith, c.loop-done-test.true);
      gained =
          ok_so c.gain.result _ (sym c.is_err.ensures.value ∙ c.if-is_err.false) c.gain.ensures.gained
          ∙ (ap (λ l. with_gains l (r ∷ [])) c.loop-done.invariant.gained
          ∙ sym (gains_next (λ _. true) c.args.records.now c.loop-done.done r c.loop-done-test.true c.index-records-done.is c.args.self.now));
    }

pub returns-clause-gained : goal.returns-clause-gained
returns-clause-gained c = gains_done c.args.self.now c.loop-done.self c.args.records.now c.loop-done.done c.loop-done-test.false c.loop-done.invariant.gained
