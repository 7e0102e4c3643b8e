use Rattle.std.proofs.Common.{length, ap, sym, ◌∙◌, subst, arith, refl}
use Rattle.std.proofs.lemmas.List.{length-map, take_all}
use Rattle.row.specs.Bags.{Each}
use Rattle.model.specs.Tables.{IsTable}
use Rattle.book.proofs.Sessions.{table_set}
use Rattle.schedule.specs.Codes.{reader_in}
use Rattle.packet.specs.Readers.{readers}
use Rattle.protocol.proofs.Lists.{each_at}
use Rattle.sessions.specs.Callers.{reader_of}
use Rattle.sessions.specs.Sights.{HasAll, IsCut}
use Rattle.sessions.proofs.Cuts.{even_table, set_next}
use Rattle.sessions.proofs.Found.{within}
use Rattle.sessions.proofs.Later.{all_readers, all_self, all_trans}
use Rattle.sessions.proofs.Looks.{within_whole}
use Rattle.sessions.proofs.Shards.{IsThere, each_there}
use Rattle.sessions.proofs.sights.Sights.cuts.Goals as goal

pub returns-in_default-clause-later : goal.returns-in_default-clause-later
returns-in_default-clause-later g c = all_self _

pub loop-place-init : goal.loop-place-init
loop-place-init g c = record { later = all_self _; shards = c.are_all.ensures; table = subst (IsTable g.J.Naming.plan) (sym c.in-Ok.ensures.floors) (even_table g.J.Naming.plan _); cuts = tt }

pub cut_at-requires : goal.cut_at-requires
cut_at-requires g c = within g.J.Naming.plan c.readers-place-end.result.now c.loop-place.self c.loop-place.place c.readers-place-end.ensures c.loop-place.invariant.shards c.loop-place-test.true

pub returns-in-Err-clause-later : goal.returns-in-Err-clause-later
returns-in-Err-clause-later g c = all_trans _ _ _ c.loop-place.invariant.later c.cut_at.ensures.later

pub returns-then-not-has_all-clause-later : goal.returns-then-not-has_all-clause-later
returns-then-not-has_all-clause-later g c = all_trans _ _ _ c.loop-place.invariant.later c.cut_at.ensures.later

pub set-requires-clause-view : goal.set-requires-clause-view
set-requires-clause-view g c = let t = each_at (IsThere g.J.Naming.plan) (readers g.J.Naming.plan) c.loop-place.place (reader_in c.reader_at-view.result) c.reader_at-view.ensures (each_there g.J.Naming.plan) in t.0

pub set-requires-clause-shard : goal.set-requires-clause-shard
set-requires-clause-shard g c = let t = each_at (IsThere g.J.Naming.plan) (readers g.J.Naming.plan) c.loop-place.place (reader_in c.reader_at-view.result) c.reader_at-view.ensures (each_there g.J.Naming.plan) in t.1

pub loop-place-preserved : goal.loop-place-preserved
loop-place-preserved g c =
    let p = g.J.Naming.plan in
    let i = c.loop-place.invariant in
    let at = c.in-Ok-cut_at.ensures.cut in
    let t = each_at (IsThere p) (readers p) c.loop-place.place (reader_in c.reader_at-view.result) c.reader_at-view.ensures (each_there p) in
    let within_cut = c.lengths.ensures.within in
    let all : HasAll p c.args.looked.now c.in-Ok-cut_at.cut.lengths = subst (HasAll p c.args.looked.now) c.lengths.ensures.lengths (c.if-not-has_all.ensures refl) in
    record {
      later = all_trans _ _ _ i.later c.cut_at.ensures.later;
      shards = all_readers _ _ c.cut_at.ensures.later ∙ i.shards;
      table = subst (IsTable p) (sym c.set.ensures.floors) (table_set p c.loop-place.cuts.floors c.reader_at-view.result.view c.reader_at-view.result.shard c.in-Ok-cut_at.cut.lengths i.table t.0);
      cuts = set_next p c.args.looked.now c.loop-place.self c.cut_at.new.self c.loop-place.place c.reader_at-view.result.view c.reader_at-view.result.shard c.in-Ok-cut_at.cut c.loop-place.cuts c.set.new.self at i.shards c.reader_at-view.ensures t.0 t.1 i.table c.set.ensures.floors c.set.ensures.seen (within_whole p c.in-Ok-cut_at.cut.seen c.set.new.self.seen c.in-Ok-cut_at.cut.lengths within_cut c.set.ensures.others) all i.cuts;
    }

pub returns-clause-cuts : goal.returns-clause-cuts
returns-clause-cuts g c =
    subst (Each (IsCut g.J.Naming.plan c.args.looked.now c.loop-place.cuts)) (take_all c.loop-place.place c.loop-place.self (omega (arith, c.loop-place-test.false, length-map c.readers-place-end.result.now reader_in, length-map c.loop-place.self reader_of, ap length c.readers-place-end.ensures, ap length c.loop-place.invariant.shards))) c.loop-place.invariant.cuts
