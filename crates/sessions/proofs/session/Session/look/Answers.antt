use Rattle.row.specs.Cells.{datum_of}
use Rattle.sessions.proofs.Found.{found_over}
use Rattle.sessions.proofs.Looks.{looked_read, looked_undone}
use Rattle.sessions.proofs.session.Session.look.Goals as goal

pub answer-requires-clause-found : goal.answer-requires-clause-found
answer-requires-clause-found g c = found_over g.J.Naming.plan _ c.args.view (datum_of c.args.key.now) _ _ _ (c.in-Ok.ensures.hit c.if-not-hit.false) c.in-Some.is

pub returns-in-Ok-answer-clause-hit : goal.returns-in-Ok-answer-clause-hit
returns-in-Ok-answer-clause-hit g c = rw c.into_lengths.ensures (looked_read g.J.Naming.plan _ _ _ c.find.ensures.looked _ _ _ _ c.in-Ok-answer.ensures.read)

pub returns-in-Err-answer-clause-refused : goal.returns-in-Err-answer-clause-refused
returns-in-Err-answer-clause-refused g c = looked_undone g.J.Naming.plan _ _ _ c.find.ensures.looked _ c.in-Err-answer.ensures.refused
