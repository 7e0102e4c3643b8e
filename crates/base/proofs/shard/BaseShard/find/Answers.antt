use Rattle.std.proofs.Common.{◌∙◌}
use Rattle.base.proofs.Stores.{found_held}
use Rattle.base.proofs.Records.{found_row}
use Rattle.base.proofs.shard.BaseShard.find.Goals as goal

pub returns-clause-held : goal.returns-clause-held
returns-clause-held c =
    rw (← c.self.view_is) (found_held c.self.inside.key_column c.value.result.now _ c.self.inside.rows.entries c.self.invariant.0.keyed (c.value.ensures ∙ c.key_in-key.ensures) c.get.result c.get.ensures)

pub returns-clause-only : goal.returns-clause-only
returns-clause-only c =
    rw (← c.self.view_is) (found_row c.self.inside.key_column c.value.result.now _ c.self.inside.rows.entries c.self.invariant.0.keyed c.self.invariant.0.unique (c.value.ensures ∙ c.key_in-key.ensures) c.get.result c.get.ensures)
