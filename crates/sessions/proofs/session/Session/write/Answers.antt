use Rattle.sessions.proofs.session.Session.write.Goals as goal

pub returns : goal.returns
returns g c =
    let w = c.write_fitting-answer.ensures in
    record { legal = rw (← c.self.view_is) c.is_legal.ensures.legal; spent = w.spent; why = w.why; accepted = w.accepted; refused = w.refused }
