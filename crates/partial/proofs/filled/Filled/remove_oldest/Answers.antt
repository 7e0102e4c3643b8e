use Rattle.std.proofs.Common.{◌∙◌, ap, reverse, Some}
use Rattle.partial.proofs.Reversed.{oldest_is, oldest_gone, rest_reversed}
use Rattle.std.specs.Map.{lookup}
use Rattle.partial.proofs.filled.Filled.remove_oldest.Goals as goal

pub returns-clause-key : goal.returns-clause-key
returns-clause-key g c = rw (← c.self.view_is) (oldest_is c.self.inside.latest (Some (c.in_ok-key.key, c.in_ok-key.field-0-1)) c.in_ok-key.ensures.value)

pub returns-clause-entries : goal.returns-clause-entries
returns-clause-entries g c = rw (← c.self.view_is) (ap reverse c.pop_oldest.ensures.entries ∙ rest_reversed c.self.inside.latest)

pub returns-clause-gone : goal.returns-clause-gone
returns-clause-gone g c =
    rw (← c.self.view_is) (λ k. ap (λ l. lookup (g.K.PartialEq.eq k) (reverse l)) c.pop_oldest.ensures.entries
    ∙ oldest_gone g.met.K.Eq.laws c.in_ok-key.key k c.in_ok-key.field-0-1 c.self.inside.latest c.len.ensures.unique c.in_ok-key.ensures.value)
