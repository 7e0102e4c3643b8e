use Rattle.std.proofs.Common.{sym, ◌∙◌}
use Rattle.key_rows.proofs.Pieced.{taken_out, replaced}
use Rattle.key_rows.proofs.pieces.put.Goals as goal

pub returns-then-len-eq0-clause-ok : goal.returns-then-len-eq0-clause-ok
returns-then-len-eq0-clause-ok c =
    taken_out c.args.pieces.now.items c.remove.new.self.items c.args.at c.args.rows (sym c.len.ensures.rows ∙ c.if-len-eq0.true) c.remove.ensures.items

pub returns-clause-ok : goal.returns-clause-ok
returns-clause-ok c = replaced c.args.pieces.now.items c.args.at c.in_ok-pieces.field-0 c.args.rows c.requires c.in_ok-pieces.ensures
