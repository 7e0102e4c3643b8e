use Rattle.std.proofs.Common.{rules, ◌∙◌}
use Rattle.model.proofs.PlaceLaws.{sources_numbered}
use Rattle.model.proofs.places.sources.Goals as goal
use Rattle.model.proofs.places.sources.Goals.{in-Some+in_ok-push_bases-2, in_default}

pub returns-clause-range : goal.returns-clause-range
returns-clause-range c = elim c.match-right.branch [
  | in-Some+in_ok-push_bases-2 w ↦ rw (w.bases-is) w.in_ok-push_bases-2.ensures.range
  | in_default w ↦ rw (w.bases-is) c.in_ok-push_bases.ensures.range
]

pub returns-clause-sources : goal.returns-clause-sources
returns-clause-sources c = search rules

pub returns-clause-domains : goal.returns-clause-domains
returns-clause-domains c = returns-clause-sources c ∙ sources_numbered c.args.plan.now
