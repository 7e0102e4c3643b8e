use Rattle.std.proofs.Common.{◌∙◌, sym, ap, reverse}
use Rattle.std.specs.Option.{is_some}
use Rattle.std.specs.Map.{lookup, keys_of}
use Rattle.partial.proofs.Reversed.{lookup-reverse, removed_lookup, removed_order}
use Rattle.partial.proofs.filled.Filled.remove.Goals as goal

pub returns-clause-known : goal.returns-clause-known
returns-clause-known g c =
    rw (← c.self.view_is) (c.is_some.ensures ∙ ap is_some (c.pop.ensures.value ∙ sym (lookup-reverse g.met.K.Eq.laws c.args.key.now c.self.inside.latest c.len.ensures.unique)))

pub returns-clause-entries : goal.returns-clause-entries
returns-clause-entries g c =
    rw (← c.self.view_is) (λ k. ap (λ l. lookup (g.K.PartialEq.eq k) (reverse l)) c.pop.ensures.entries
    ∙ removed_lookup g.met.K.Eq.laws c.args.key.now k c.self.inside.latest c.len.ensures.unique)

pub returns-clause-order : goal.returns-clause-order
returns-clause-order g c =
    rw (← c.self.view_is) (ap (λ l. keys_of (reverse l)) c.pop.ensures.entries ∙ removed_order g.met.K.Eq.laws c.args.key.now c.self.inside.latest c.len.ensures.unique)
