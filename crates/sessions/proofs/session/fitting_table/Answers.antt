use Rattle.plan.specs.Layouts.{no_table, table_at}
use Rattle.plan.specs.Facts.{IsTable}
use Rattle.model.specs.Entries.{change_of}
use Rattle.model.proofs.Lists.{each_at}
use Rattle.base.proofs.Fitting.{fits_key}
use Rattle.sessions.proofs.session.fitting_table.Goals as goal

pub returns-clause-key : goal.returns-clause-key
returns-clause-key c =
    let p = c.args.plan.now in
    let t = c.in_ok-table.table in
    fits_key (table_at p t) (change_of c.args.entry.now) (each_at IsTable p.tables t no_table c.keeps_profile.ensures.tables c.in_ok-table.ensures.there).key c.in_ok-table.ensures.fits
