use Rattle.std.proofs.Common.{sym, ◌∙◌}
use Rattle.base.proofs.Indexes.{settled}
use Rattle.base.proofs.index.Index.settle.Goals as goal

pub returns-then-eq : goal.returns-then-eq
returns-then-eq c rows h =
    settled c.args.self.now.rows c.args.self.now.waiting c.take.new.self c.in-Some.other c.args.row.now rows (sym c.take.ensures.value ∙ c.in-Some.is) (sym c.eq.ensures ∙ c.if-eq.true) c.take.ensures.after h
