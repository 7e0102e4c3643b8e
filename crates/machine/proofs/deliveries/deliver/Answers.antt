use Rattle.std.proofs.Common.{◌<◌, length, refl, ap, subst, sym}
use Rattle.std.specs.Result.{IfOk}
use Rattle.packet.specs.Readers.{view_of}
use Rattle.protocol.specs.Stages.{packet, request}
use Rattle.protocol.specs.WorldSteps.{ask_came, base_came, delivery}
use Rattle.schedule.specs.Codes.{reply_of, wire_in}
use Rattle.machine.specs.Held.{IsAsk, IsDone, stage_node, world_of}
use Rattle.machine.specs.Machines.{held}
use Rattle.machine.proofs.Meeting.{meets_packet, seen, seen_up}
use Rattle.machine.proofs.Queued.{first_queued}
use Rattle.machine.proofs.Steps.{none_comes, off_reader, off_source, request_placed, source_placed, stage_got, stage_off}
use Rattle.machine.proofs.deliveries.deliver.Goals as goal

-- there is none
pub returns-in_default : goal.returns-in_default
returns-in_default g c = record {
  done = none_comes g.F.Fronts.log g.F.Fronts.authors (held c.args.machine.now).to_stage c.take.new.self c.in-FromSource.stage c.in-FromSource.source (off_source g.F.Fronts.log g.F.Fronts.authors (held c.args.machine.now)) (base_came (world_of g.F.Fronts.log g.F.Fronts.authors (held c.args.machine.now)) c.in-FromSource.source c.in-FromSource.stage) _ (ap (λ x. delivery (world_of g.F.Fronts.log g.F.Fronts.authors (held c.args.machine.now)) (wire_in x)) c.in-FromSource.is) c.requires.whole.placed refl c.in_default.ensures.none c.in_default.ensures.same;
}

pub returns-in_default-take : goal.returns-in_default-take
returns-in_default-take g c = record {
  done = none_comes g.F.Fronts.log g.F.Fronts.authors (held c.args.machine.now).from_view c.take-in-AskStage.new.self c.in-AskStage.stage c.in-AskStage.reader (off_reader g.F.Fronts.log g.F.Fronts.authors (held c.args.machine.now)) (ask_came (world_of g.F.Fronts.log g.F.Fronts.authors (held c.args.machine.now)) c.in-AskStage.reader c.in-AskStage.stage) _ (ap (λ x. delivery (world_of g.F.Fronts.log g.F.Fronts.authors (held c.args.machine.now)) (wire_in x)) c.in-AskStage.is) c.requires.whole.placed refl c.in_default-take.ensures.none c.in_default-take.ensures.same;
}

-- the stage shard has stopped
pub returns-then-not-stage_runs : goal.returns-then-not-stage_runs
returns-then-not-stage_runs g c = record {
  done = stage_off g.F.Fronts.log g.F.Fronts.authors (held c.args.machine.now).to_stage c.take.new.self c.in-FromSource.stage c.in-FromSource.source (off_source g.F.Fronts.log g.F.Fronts.authors (held c.args.machine.now)) (base_came (world_of g.F.Fronts.log g.F.Fronts.authors (held c.args.machine.now)) c.in-FromSource.source c.in-FromSource.stage) _ (ap (λ x. delivery (world_of g.F.Fronts.log g.F.Fronts.authors (held c.args.machine.now)) (wire_in x)) c.in-FromSource.is) c.in-Some.packet c.in-Some.ensures.first c.in-FromSource.stage (packet c.in-FromSource.source c.in-Some.packet) (source_placed g.F.Fronts.log g.F.Fronts.authors (held c.args.machine.now) c.in-FromSource.stage c.in-FromSource.source c.in-Some.packet c.take.new.self c.requires.whole.placed c.in-Some.ensures.first) refl
      (seen_up stage_node c.deref.result.now c.args.machine.now.stages.items c.in-FromSource.stage _ c.if-not-stage_runs.ensures.runs c.deref.ensures.value);
}

pub returns-then-not-stage_runs-2 : goal.returns-then-not-stage_runs-2
returns-then-not-stage_runs-2 g c = record {
  done = stage_off g.F.Fronts.log g.F.Fronts.authors (held c.args.machine.now).from_view c.take-in-AskStage.new.self c.in-AskStage.stage c.in-AskStage.reader (off_reader g.F.Fronts.log g.F.Fronts.authors (held c.args.machine.now)) (ask_came (world_of g.F.Fronts.log g.F.Fronts.authors (held c.args.machine.now)) c.in-AskStage.reader c.in-AskStage.stage) _ (ap (λ x. delivery (world_of g.F.Fronts.log g.F.Fronts.authors (held c.args.machine.now)) (wire_in x)) c.in-AskStage.is) c.in-Some-take.request c.in-Some-take.ensures.first c.in-AskStage.stage (request c.in-Some-take.request) (request_placed g.F.Fronts.log g.F.Fronts.authors (held c.args.machine.now) c.in-AskStage.stage c.in-AskStage.reader c.in-Some-take.request c.take-in-AskStage.new.self c.requires.whole.placed c.in-Some-take.ensures.first) refl
      (seen_up stage_node c.deref-in-AskStage.result.now c.args.machine.now.stages.items c.in-AskStage.stage _ c.if-not-stage_runs-2.ensures.runs c.deref-in-AskStage.ensures.value);
}

-- it runs
pub give_stage-requires : goal.give_stage-requires
give_stage-requires g c =
    let first = c.in-Some.ensures.first in
    let s = seen stage_node c.deref.result.now c.args.machine.now.stages.items c.in-FromSource.stage c.if-not-stage_runs.ensures.runs (c.if-not-stage_runs.ensures.there refl) c.deref.ensures.value in
    record {
      placed = source_placed g.F.Fronts.log g.F.Fronts.authors (held c.args.machine.now) c.in-FromSource.stage c.in-FromSource.source c.in-Some.packet c.take.new.self c.requires.whole.placed first;
      up = s.0;
      there = s.1;
      meets = λ d at running. meets_packet g.F.Fronts.log g.F.Fronts.authors g.F.Fronts.are_one c.requires.agree (held c.args.machine.now) c.in-FromSource.stage c.in-FromSource.source d c.in-Some.packet first.rest c.requires.whole at running first.was;
    }

pub give_stage-requires-in-AskStage : goal.give_stage-requires-in-AskStage
give_stage-requires-in-AskStage g c =
    let first = c.in-Some-take.ensures.first in
    let s = seen stage_node c.deref-in-AskStage.result.now c.args.machine.now.stages.items c.in-AskStage.stage c.if-not-stage_runs-2.ensures.runs (c.if-not-stage_runs-2.ensures.there refl) c.deref-in-AskStage.ensures.value in
    let asks = first_queued (IsAsk c.args.machine.now.places) c.args.machine.now.from_view c.in-AskStage.stage c.in-AskStage.reader c.in-Some-take.request first.rest first.was c.requires.whole.placed.from_view in
    record {
      meets = λ d at running. subst (λ p. view_of c.in-Some-take.request.tag < length p.views) (sym (c.requires.whole.placed.stages.each c.in-AskStage.stage d at).plan) asks;
      placed = request_placed g.F.Fronts.log g.F.Fronts.authors (held c.args.machine.now) c.in-AskStage.stage c.in-AskStage.reader c.in-Some-take.request c.take-in-AskStage.new.self c.requires.whole.placed first;
      up = s.0;
      there = s.1;
    }

pub returns-in_ok-give_stage-in-FromSource : goal.returns-in_ok-give_stage-in-FromSource
returns-in_ok-give_stage-in-FromSource g c = record { done = stage_got g.F.Fronts.log g.F.Fronts.authors (held c.args.machine.now).to_stage c.take.new.self c.in-FromSource.stage c.in-FromSource.source (off_source g.F.Fronts.log g.F.Fronts.authors (held c.args.machine.now)) (base_came (world_of g.F.Fronts.log g.F.Fronts.authors (held c.args.machine.now)) c.in-FromSource.source c.in-FromSource.stage) _ (ap (λ x. delivery (world_of g.F.Fronts.log g.F.Fronts.authors (held c.args.machine.now)) (wire_in x)) c.in-FromSource.is) c.in-Some.packet c.in-Some.ensures.first c.in-FromSource.stage (packet c.in-FromSource.source c.in-Some.packet) (source_placed g.F.Fronts.log g.F.Fronts.authors (held c.args.machine.now) c.in-FromSource.stage c.in-FromSource.source c.in-Some.packet c.take.new.self c.requires.whole.placed c.in-Some.ensures.first) refl (held c.give_stage.new.machine) c.in_ok-give_stage-in-FromSource.ensures.given }

pub returns-in_ok-give_stage-in-AskStage : goal.returns-in_ok-give_stage-in-AskStage
returns-in_ok-give_stage-in-AskStage g c = record { done = stage_got g.F.Fronts.log g.F.Fronts.authors (held c.args.machine.now).from_view c.take-in-AskStage.new.self c.in-AskStage.stage c.in-AskStage.reader (off_reader g.F.Fronts.log g.F.Fronts.authors (held c.args.machine.now)) (ask_came (world_of g.F.Fronts.log g.F.Fronts.authors (held c.args.machine.now)) c.in-AskStage.reader c.in-AskStage.stage) _ (ap (λ x. delivery (world_of g.F.Fronts.log g.F.Fronts.authors (held c.args.machine.now)) (wire_in x)) c.in-AskStage.is) c.in-Some-take.request c.in-Some-take.ensures.first c.in-AskStage.stage (request c.in-Some-take.request) (request_placed g.F.Fronts.log g.F.Fronts.authors (held c.args.machine.now) c.in-AskStage.stage c.in-AskStage.reader c.in-Some-take.request c.take-in-AskStage.new.self c.requires.whole.placed c.in-Some-take.ensures.first) refl (held c.give_stage-in-AskStage.new.machine) c.in_ok-give_stage-in-AskStage.ensures.given }

pub from_stage-requires : goal.from_stage-requires
from_stage-requires g c = record { agree = c.requires.agree; whole = c.requires.whole }

pub returns-in-FromStage : goal.returns-in-FromStage
returns-in-FromStage g c = record {
  done = subst (λ x. IfOk c.from_stage.result (λ r. IsDone g.F.Fronts.log g.F.Fronts.authors (delivery (world_of g.F.Fronts.log g.F.Fronts.authors (held c.args.machine.now)) (wire_in x)) (reply_of r) (held c.from_stage.new.machine))) (sym c.in-FromStage.is) c.from_stage.ensures.done;
}

pub ask_source-requires : goal.ask_source-requires
ask_source-requires g c = record { whole = c.requires.whole }

pub returns-in-AskSource : goal.returns-in-AskSource
returns-in-AskSource g c = record {
  done = subst (λ x. IfOk c.ask_source.result (λ r. IsDone g.F.Fronts.log g.F.Fronts.authors (delivery (world_of g.F.Fronts.log g.F.Fronts.authors (held c.args.machine.now)) (wire_in x)) (reply_of r) (held c.ask_source.new.machine))) (sym c.in-AskSource.is) c.ask_source.ensures.done;
}
