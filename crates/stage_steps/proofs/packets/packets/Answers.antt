use Rattle.packet.specs.Codes.{mark_in}
use Rattle.packet.specs.Lines.{entries_of}
use Rattle.stage_steps.specs.Told.{names_in, told_if}
use Rattle.stage_steps.proofs.Readers.{put_view}
use Rattle.stage_steps.proofs.packets.packets.Goals as goal

pub loop-view-preserved : goal.loop-view-preserved
loop-view-preserved g c =
    let n = c.args.news.now in
    put_view (told_if c.args.each n.plan.now n.stage (entries_of n.from.now) (entries_of n.to.now) n.records.now (names_in n.names.now) (mark_in n.marker)) n.plan.now c.loop-view.all.items c.push_view.new.all.items c.loop-view.view c.loop-view.invariant
    c.in_ok-push_view.ensures
