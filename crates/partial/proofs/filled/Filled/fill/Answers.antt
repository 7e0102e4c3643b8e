use Rattle.std.proofs.Common.{◌∙◌, ap, reverse}
use Rattle.std.specs.Map.{lookup}
use Rattle.partial.proofs.Reversed.{put_is, pushed_lookup}
use Rattle.partial.proofs.filled.Filled.fill.Goals as goal

pub returns-clause-filled : goal.returns-clause-filled
returns-clause-filled g c =
    let none = rw (← c.self.view_is) at c.requires in
    rw (← c.self.view_is) (ap reverse c.in_ok-put.ensures.entries ∙ put_is g.met.K.Eq.laws c.self.inside.latest c.args.key c.args.entry c.len.ensures.unique none)

pub returns-clause-entries : goal.returns-clause-entries
returns-clause-entries g c = λ k. ap (λ l. lookup (g.K.PartialEq.eq k) l) (returns-clause-filled g c) ∙ pushed_lookup g.met.K.Eq.laws c.args.key k c.args.entry c.args.self.now c.requires
