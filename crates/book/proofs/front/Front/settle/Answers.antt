use Rattle.std.proofs.Common.{◌≡◌, ◌≤◌, arith, length}
use Rattle.model.specs.Histories.{log_of}
use Rattle.book.specs.Pages.{history_of}
use Rattle.book.proofs.Replies.{placed}
use Rattle.book.proofs.front.Front.settle.Goals as goal

pub returns-clause-told : goal.returns-clause-told
returns-clause-told g c =
    let l = c.learn.ensures in
    let same : c.self.inside.base ≡ c.other.inside.base = let b = c.requires.base in rw (← c.self.view_is, ← c.other.view_is) at b in
    let whole : c.self.inside.len ≡ length (log_of c.self.inside.base (history_of c.self.inside.seen.log)) = let w = c.requires.whole in rw (← c.self.view_is) at w in
    let le : length (log_of c.other.inside.base (history_of c.self.inside.seen.log)) ≤ c.args.index = let w : c.self.inside.len ≡ length (log_of c.other.inside.base (history_of c.self.inside.seen.log)) = rw same at whole in omega (arith, w, c.if-index-self.false) in
    rw (← c.self.view_is, ← c.other.view_is) (placed c.self.inside.seen.log c.other.inside.seen.log c.learn.new.seen.log c.other.inside.base c.other.inside.len c.args.index l.grown l.others le)
