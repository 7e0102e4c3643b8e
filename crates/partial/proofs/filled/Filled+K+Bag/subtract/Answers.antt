use Rattle.std.proofs.Common.{◌∙◌, ap, sym, reverse}
use Rattle.std.specs.Map.{lookup, keys_of}
use Rattle.row.specs.Bags.{removed}
use Rattle.row.specs.Cells.{row_cmp}
use Rattle.partial.proofs.Reversed.{changed_all, absent_all, changed_order, lookup-reverse}
use Rattle.partial.proofs.filled.Filled+K+Bag.subtract.Goals as goal
use Rattle.partial.proofs.filled.Filled+K+Bag.subtract.Goals.{in-Some, in-None}

pub subtract-requires : goal.subtract-requires
subtract-requires g c =
    c.requires c.in-Some.rows.now (ap (λ l. lookup (g.K.PartialEq.eq c.args.key.now) l) (sym c.self.view_is)
    ∙ lookup-reverse g.met.K.Eq.laws c.args.key.now c.self.inside.latest c.len.ensures.unique ∙ sym c.in-Some.ensures.value)

pub returns-clause-taken : goal.returns-clause-taken
returns-clause-taken g c = rw (← c.self.view_is) (elim c.match-peek_mut.branch [
  | in-Some w ↦ λ k. ap (λ x. lookup (g.K.PartialEq.eq k) (reverse x.latest)) w.self-inside-is
      ∙ changed_all g.met.K.Eq.laws c.args.key.now c.self.inside.latest c.len.ensures.unique (removed row_cmp c.args.row.now) w.in-Some.rows.now w.subtract.new.self w.in-Some.ensures.value w.subtract.ensures k
  | in-None w ↦ λ k. ap (λ x. lookup (g.K.PartialEq.eq k) (reverse x.latest)) w.self-inside-is
      ∙ absent_all g.met.K.Eq.laws c.args.key.now c.self.inside.latest c.len.ensures.unique (removed row_cmp c.args.row.now) w.in-None.ensures.value k
])

pub returns-clause-order : goal.returns-clause-order
returns-clause-order g c = rw (← c.self.view_is) (elim c.match-peek_mut.branch [
  | in-Some w ↦ ap (λ x. keys_of (reverse x.latest)) w.self-inside-is ∙ changed_order (g.K.PartialEq.eq c.args.key.now) c.self.inside.latest w.subtract.new.self
  | in-None w ↦ ap (λ x. keys_of (reverse x.latest)) w.self-inside-is
])
