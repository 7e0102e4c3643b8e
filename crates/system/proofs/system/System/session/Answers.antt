use Rattle.std.proofs.Common.{arith}
use Rattle.book.proofs.Rights.{fresh_first}
use Rattle.system.proofs.system.System.session.Goals as goal

pub new-requires-clause-floors : goal.new-requires-clause-floors
new-requires-clause-floors g c =
    let i = c.self.invariant in
    (fresh_first c.self.inside.given c.self.inside.words.items c.remove-word.result i.0 (omega (arith, i.1, i.2, c.if-self.false)) c.remove-word.ensures.value).floors
