use Rattle.std.proofs.Common.{map, ap, ◌∙◌, arith}
use Rattle.sessions.specs.Callers.{reader_of}
use Rattle.sessions.proofs.Callers.{caller_new}
use Rattle.sessions.proofs.Looks.{looks_new}
use Rattle.sessions.proofs.session.Session.new.Goals as goal

pub invariant_of-result : goal.invariant_of-result
invariant_of-result g c =
    let q = c.requires in
    let w = c.args.word in
    let are = ap (map reader_of) c.new.ensures ∙ q.readers in
    (caller_new g.J.Naming.plan w.session c.part-seen.result c.args.accepted.items w.floors c.new.result q.accepted q.floors, omega (arith, q.answered), looks_new g.J.Naming.plan w.session c.part-seen.result c.args.accepted.items w.floors c.new.result are q.floors _ _, q.range)
