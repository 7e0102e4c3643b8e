use Rattle.book.specs.Pages.{history_of}
use Rattle.book.proofs.Replies.{legal_longer}
use Rattle.book.proofs.part.Part.is_legal.Goals as goal

pub returns : goal.returns
returns g c =
    let i = c.self.invariant in
    record { legal = rw (← c.self.view_is) (legal_longer g.J.Naming.plan g.J.Naming.sessions (history_of c.self.inside.first.log) (history_of c.self.inside.second.log) i.2.legal i.3.legal) }
