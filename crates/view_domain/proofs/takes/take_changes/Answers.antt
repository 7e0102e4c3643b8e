use Rattle.std.proofs.Common.{map}
use Rattle.row.specs.Cells.{datum_of}
use Rattle.row.specs.Groups.{equal}
use Rattle.partial.specs.States.{state_of}
use Rattle.view_domain.specs.Parts.{groups_of}
use Rattle.view_domain.proofs.TakeSteps.{taken_fits, taken_true}
use Rattle.view_domain.proofs.takes.take_changes.Goals as goal

pub change_parted-requires : goal.change_parted-requires
change_parted-requires c =
    taken_fits c.args.source c.args.kept.now c.evict_keys.new.kept (map datum_of c.args.evicts.items) c.args.changes.items (groups_of c.in_ok-records.records) c.requires.may.apart c.in_ok-evict_keys.ensures.state c.in_ok-records.ensures.records c.in_ok-records.ensures.names c.requires.may.fits

pub returns-clause-truth : goal.returns-clause-truth
returns-clause-truth c = λ k parts part next here step t.
    taken_true c.args.source c.args.kept.now c.evict_keys.new.kept (map datum_of c.args.evicts.items) c.args.changes.items (groups_of c.in_ok-records.records) c.requires.may.apart c.in_ok-evict_keys.ensures.state c.in_ok-records.ensures.records c.in_ok-records.ensures.names parts part next here k
    (state_of equal c.change_parted.new.kept k) (c.in_ok-change_parted.ensures.state k) step t
