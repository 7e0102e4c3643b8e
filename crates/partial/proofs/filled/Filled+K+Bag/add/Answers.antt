use Rattle.std.proofs.Common.{◌∙◌, ap, sym, reverse, Some}
use Rattle.std.specs.Map.{lookup, keys_of}
use Rattle.std.proofs.lemmas.Map.Steps.{set_value_same}
use Rattle.std.proofs.lemmas.Result.{on_ok_weaker, on_err_weaker}
use Rattle.row.specs.Bags.{inserted}
use Rattle.row.specs.Cells.{row_cmp}
use Rattle.partial.proofs.Reversed.{changed_all, absent_all, changed_order}
use Rattle.partial.proofs.filled.Filled+K+Bag.add.Goals as goal
use Rattle.partial.proofs.filled.Filled+K+Bag.add.Goals.{in-Some, in-None}

pub returns-clause-added : goal.returns-clause-added
returns-clause-added g c = rw (← c.self.view_is) (elim c.match-peek_mut.branch [
  | in-Some w ↦ rw (w.result-is) (on_ok_weaker w.add.result (λ p k. ap (λ x. lookup (g.K.PartialEq.eq k) (reverse x.latest)) w.self-inside-is
      ∙ changed_all g.met.K.Eq.laws c.args.key.now c.self.inside.latest c.len.ensures.unique (inserted row_cmp c.args.row) w.in-Some.rows.now w.add.new.self w.in-Some.ensures.value p k) w.add.ensures.added)
  | in-None w ↦ rw (w.result-is) (λ k. ap (λ x. lookup (g.K.PartialEq.eq k) (reverse x.latest)) w.self-inside-is
      ∙ absent_all g.met.K.Eq.laws c.args.key.now c.self.inside.latest c.len.ensures.unique (inserted row_cmp c.args.row) w.in-None.ensures.value k)
])

pub returns-clause-order : goal.returns-clause-order
returns-clause-order g c = rw (← c.self.view_is) (elim c.match-peek_mut.branch [
  | in-Some w ↦ ap (λ x. keys_of (reverse x.latest)) w.self-inside-is ∙ changed_order (g.K.PartialEq.eq c.args.key.now) c.self.inside.latest w.add.new.self
  | in-None w ↦ ap (λ x. keys_of (reverse x.latest)) w.self-inside-is
])

pub returns-clause-err : goal.returns-clause-err
returns-clause-err g c = rw (← c.self.view_is) (elim c.match-peek_mut.branch [
  | in-Some w ↦ rw (w.result-is) (on_err_weaker w.add.result (λ p. ap (λ x. reverse x.latest) w.self-inside-is
      ∙ ap reverse (set_value_same (g.K.PartialEq.eq c.args.key.now) c.self.inside.latest w.add.new.self (sym w.in-Some.ensures.value ∙ ap Some (sym p)))) w.add.ensures.err)
  | in-None w ↦ rw (w.result-is) tt
])
