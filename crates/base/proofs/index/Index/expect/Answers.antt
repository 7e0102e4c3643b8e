use Rattle.std.proofs.Common.{◌∷◌, Some, ap, sym, subst, ◌∙◌}
use Rattle.base.specs.Indexed.{IsOf, with_waiting}
use Rattle.base.proofs.Indexes.{expected}
use Rattle.base.proofs.index.Index.expect.Goals as goal

pub take_away-requires : goal.take_away-requires
take_away-requires c =
    let is = sym c.replace.ensures.value ∙ c.in-Some-replace.is in (
      c.args.row.now ∷ c.requires.0,
      expected c.in-Some.rows c.add.new.rows c.args.self.now.waiting c.in-Some-replace.other c.args.row.now c.requires.0 is (rw c.in-Some.is at c.requires.1) c.in_ok-add.ensures.added,
    )

pub returns-in-Some-replace-clause-kept : goal.returns-in-Some-replace-clause-kept
returns-in-Some-replace-clause-kept c rows h =
    let is = sym c.replace.ensures.value ∙ c.in-Some-replace.is in
    let waits = c.replace.ensures.after ∙ ap Some c.in_ok-copy.ensures in
    let more = expected c.in-Some.rows c.add.new.rows c.args.self.now.waiting c.in-Some-replace.other c.args.row.now rows is (rw c.in-Some.is at h) c.in_ok-add.ensures.added in
    subst (λ w. IsOf c.take_away.new.rows (with_waiting w rows)) (sym waits) (c.take_away.ensures.taken (c.args.row.now ∷ rows) more)
