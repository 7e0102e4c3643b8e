use Rattle.packet.proofs.GroupSteps.{records_next, names_next}
use Rattle.packet.proofs.groups.grouped.Goals as goal

pub loop-keyed-preserved : goal.loop-keyed-preserved
loop-keyed-preserved c = record {
  records = records_next c.loop-keyed.groups c.push.new.self c.loop-keyed.yielded c.in-Some.keyed c.into_parts-key.result.0 c.into_parts-key.result.1 c.into_parts-key.ensures.key c.into_parts-key.ensures.change c.in_ok-push.ensures.records c.loop-keyed.invariant.records;
  names = names_next c.loop-keyed.groups c.push.new.self c.loop-keyed.yielded c.in-Some.keyed c.into_parts-key.result.0 c.into_parts-key.result.1 c.into_parts-key.ensures.key c.into_parts-key.ensures.change c.in_ok-push.ensures.names c.loop-keyed.invariant.names;
}
