use Rattle.std.proofs.Common.{◌⊎◌}
use mathlib.Core.List.{IsPrefix}
use Rattle.book.proofs.FrontLogs.{fronts_agree}
use Rattle.book.proofs.front.FrontFronts.meet.Goals as goal

pub returns : goal.returns
returns g c =
    let one : IsPrefix c.args.self.now.seen c.args.other.now.seen ⊎ IsPrefix c.args.other.now.seen c.args.self.now.seen = rw (← c.part-mine.ensures.part, ← c.part-theirs.ensures.part) c.meet.ensures.one in
    fronts_agree c.args.self.now c.args.other.now c.requires.1 one c.len-len.ensures.within c.len-other.ensures.within
