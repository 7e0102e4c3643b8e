use Rattle.std.proofs.Common.{◌∙◌, ap, fold, sym}
use Rattle.shown.specs.Boards.{state}
use Rattle.shown.specs.Sights.{ahead}
use Rattle.shown.specs.Snapshots.{Snapshot, with_change}
use Rattle.shown.proofs.Mapped.{fold_more}
use Rattle.shown.proofs.writer.ShownWriter+J+R.append_keys.Goals as goal

pub loop-key-preserved : goal.loop-key-preserved
loop-key-preserved g c =
    let first = ahead (state c.args.self.now) in
    record {
      ahead = c.in_ok-append.ensures.ahead
          ∙ ap (λ (s : Snapshot). record s { rows = with_change s.rows c.in-Some.key }) c.loop-key.invariant.ahead
          ∙ ap (λ r. record first { rows = r }) (sym (fold_more with_change first.rows c.loop-key.yielded c.in-Some.key));
      shown = c.append.ensures.shown ∙ c.loop-key.invariant.shown;
    }

pub returns-in_err-append-clause-shown : goal.returns-in_err-append-clause-shown
returns-in_err-append-clause-shown g c = c.append.ensures.shown ∙ c.loop-key.invariant.shown
