use Rattle.std.proofs.Common.{min, take, refl, ap, sym, ◌∙◌}
use Rattle.protocol.specs.Bases.{last_number}
use Rattle.schedule.specs.Codes.{reader_in}
use Rattle.sessions.specs.Counts.{asked_of}
use Rattle.sessions.proofs.Counts.{asked_next, capped_more}
use Rattle.sessions.proofs.Later.{all_readers, all_self, all_trans}
use Rattle.sessions.proofs.sights.Sights.asked.Goals as goal

pub loop-place-init : goal.loop-place-init
loop-place-init g c = record { later = all_self _; shards = c.are_all.ensures; sum = refl }

pub returns-in-Err-clause-later : goal.returns-in-Err-clause-later
returns-in-Err-clause-later g c = all_trans _ _ _ c.loop-place.invariant.later c.asked_at.ensures.later

pub loop-place-preserved : goal.loop-place-preserved
loop-place-preserved g c =
    let p = g.J.Naming.plan in
    let i = c.loop-place.invariant in
    let next = asked_next p c.args.view c.loop-place.place (reader_in c.reader_at.result) c.loop-place.self c.asked_at.new.self _ c.in-Ok.asked i.shards c.reader_at.ensures refl c.in-Ok.ensures.asked in
    record {
      later = all_trans _ _ _ i.later c.asked_at.ensures.later;
      shards = all_readers _ _ c.asked_at.ensures.later ∙ i.shards;
      sum = c.saturating_add-sum.ensures
          ∙ (capped_more (asked_of c.args.view (take c.loop-place.place c.loop-place.self)) c.in-Ok.asked last_number c.loop-place.sum i.sum
          ∙ ap (λ n. min n last_number) (sym next));
    }
