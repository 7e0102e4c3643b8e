use Rattle.sessions.proofs.session.Session.try_read.Goals as goal

pub returns : goal.returns
returns g c =
    let t = c.try_view-answer.ensures in
    record { legal = rw (← c.self.view_is) c.is_legal.ensures.legal; why = t.why; hit = t.hit; miss = t.miss; refused = t.refused }
