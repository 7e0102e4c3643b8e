use Rattle.std.proofs.Common.{◌≡◌, ◌<◌, true, length, ap, sym, ◌∙◌, subst}
use Rattle.plan.specs.Layouts.{Layout, no_table, table_at}
use Rattle.plan.specs.Facts.{IsTable}
use Rattle.model.specs.Logs.{fits}
use Rattle.model.specs.Entries.{change_of}
use Rattle.model.specs.Places.{table_of}
use Rattle.model.proofs.Lists.{each_at}
use Rattle.model.proofs.PlaceLaws.{base_table}
use Rattle.base.proofs.Fitting.{fits_key}
use Rattle.schedule.proofs.places.Places.base_for.Goals as goal

pub entry_shard-requires-clause-key : goal.entry_shard-requires-clause-key
entry_shard-requires-clause-key c =
    let p = c.self.inside.plan.now in
    let t = c.args.table in
    let lt = subst (λ (q : Layout). t < length q.tables) (sym c.self.view_is) c.requires.table in
    fits_key (table_at p t) (change_of c.args.entry.now) (each_at IsTable p.tables t no_table c.keeps_profile.ensures.tables lt).key (subst (λ (q : Layout). fits (table_at q t) (change_of c.args.entry.now) ≡ true) (sym c.self.view_is) c.requires.fits)

pub returns-clause-table : goal.returns-clause-table
returns-clause-table c =
    let p = c.self.inside.plan.now in
    let t = c.args.table in
    let lt = subst (λ (q : Layout). t < length q.tables) (sym c.self.view_is) c.requires.table in
    ap (λ (q : Layout). table_of q c.base_at.result) (sym c.self.view_is) ∙ ap (table_of p) c.base_at.ensures.number ∙ base_table p t c.entry_shard.result lt c.entry_shard.ensures.range
