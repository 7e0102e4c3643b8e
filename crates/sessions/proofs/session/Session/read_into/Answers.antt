use Rattle.sessions.proofs.session.Session.read_into.Goals as goal

pub returns : goal.returns
returns g c =
    let r = c.read_view-answer.ensures in
    record { legal = rw (← c.self.view_is) c.is_legal.ensures.legal; why = r.why; answer = r.answer; refused = r.refused }
