use Rattle.std.proofs.Common.{arith}
use Rattle.key_rows.proofs.Few.{given_small}
use Rattle.key_rows.proofs.answer_rows.AnswerRows.iter.Goals as goal

pub shared_whole_as_front-few : goal.shared_whole_as_front-few
shared_whole_as_front-few c = (given_small c.self.inside.few c.self.inside.given c.in-Few.count c.in-Few.is c.self.invariant.0, omega arith)
