use Rattle.stage_steps.proofs.entries.keeps_order.Goals as goal

pub returns : goal.returns
returns c = record {
  up = c.keeps_order.ensures.lefts;
  column = c.keeps_order.ensures.column;
  known = c.keeps_order.ensures.known;
  apart = c.keeps_order.ensures.apart;
}
