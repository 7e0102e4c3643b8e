use Rattle.std.proofs.Common.{◌<◌, length, map, slice_index_or, ap, ◌∙◌, arith}
use Rattle.packet.specs.Lines.{empty_log}
use Rattle.machine.proofs.Starting.{source_there, source_right, map_pushed, taken_more, taken_all}
use Rattle.machine.proofs.starts.first_line.Goals as goal

pub bounds-rights-base : goal.bounds-rights-base
bounds-rights-base g c =
    source_there g.F.Fronts.log g.F.Fronts.authors g.F.Fronts.front c.args.places.now c.plan.result.now c.sources-base-items.result.now c.args.rights.now c.loop-base.base-index c.plan.ensures c.keeps_profile.ensures.plan c.sources-base-items.ensures c.requires c.loop-base-test.true

pub offset_bounds-rights-base : goal.offset_bounds-rights-base
offset_bounds-rights-base g c =
    let there = source_there g.F.Fronts.log g.F.Fronts.authors g.F.Fronts.front c.args.places.now c.plan.result.now c.sources-base-items.result.now c.args.rights.now c.loop-base.base-index c.plan.ensures c.keeps_profile.ensures.plan c.sources-base-items.ensures c.requires c.loop-base-test.true in
    omega (arith, there)

pub loop-base-preserved : goal.loop-base-preserved
loop-base-preserved g c =
    let log = g.F.Fronts.log in
    let authors = g.F.Fronts.authors in
    let p = c.args.places.now in
    let bs = c.sources-base-items.result.now in
    let b = slice_index_or bs c.loop-base.base-index 0 in
    let there : b < length c.args.rights.now = source_there log authors g.F.Fronts.front p c.plan.result.now bs c.args.rights.now c.loop-base.base-index c.plan.ensures c.keeps_profile.ensures.plan c.sources-base-items.ensures c.requires c.loop-base-test.true in
    record {
      logs = taken_more (empty_log p) bs c.loop-base.base-index 0 (map log c.loop-base.fronts.items) (map log c.push.new.self.items) (log c.in_ok-of.field-0) c.loop-base-test.true c.loop-base.invariant.logs
          (c.in_ok-of.ensures.same.0 ∙ source_right log authors g.F.Fronts.front p c.args.rights.now b c.index-rights-base.result c.requires there c.index-rights-base.is)
          (map_pushed log c.loop-base.fronts.items c.push.new.self.items c.in_ok-of.field-0 c.in_ok-push.ensures.items);
    }

pub returns : goal.returns
returns g c =
    let logs = empty_log c.args.places.now in
    c.new.ensures ∙ (c.loop-base.invariant.logs ∙ (taken_all logs c.sources-base-items.result.now c.loop-base.base-index c.loop-base-test.false ∙ ap (map logs) c.sources-base-items.ensures))
