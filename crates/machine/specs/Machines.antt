-- The program's machine as data.
use Rattle.machine.specs.Held.{Held}
use Rattle.machine.specs.declared.machine.Machine.{Machine}

abbrev pub held : {F W R : Type 0} → Machine F W R → Held F
held m = record {
  plan = m.places;
  bases = m.bases.items;
  stages = m.stages.items;
  views = m.views.items;
  to_stage = m.to_stage;
  to_view = m.to_view;
  from_view = m.from_view;
  to_base = m.to_base;
  sessions = m.callers.items;
}
