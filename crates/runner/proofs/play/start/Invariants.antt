use Rattle.runner.proofs.play.start.Given as goal

-- the book that was just opened
abbrev pub ghosts-start_named : goal.ghosts-start_named
ghosts-start_named g a = record { book = a.opened.book; plan = a.opened.plan; sessions = a.opened.sessions }
