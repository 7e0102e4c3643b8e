use Rattle.std.proofs.Common.{◌∙◌, sym}
use Rattle.partial.proofs.Reversed.{lookup-reverse}
use Rattle.partial.proofs.filled.Filled.get.Goals as goal

pub returns : goal.returns
returns g c = rw (← c.self.view_is) (c.peek.ensures ∙ sym (lookup-reverse g.met.K.Eq.laws c.args.key.now c.self.inside.latest c.len.ensures.unique))
