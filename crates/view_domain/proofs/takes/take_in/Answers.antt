use Rattle.std.proofs.Common.{slice_set}
use Rattle.view_domain.proofs.takes.take_in.Goals as goal

pub returns-clause-truth : goal.returns-clause-truth
returns-clause-truth c = λ k parts part next here step piece t.
    c.in_ok-cap_keys.ensures.truth k (slice_set parts c.args.source next) (c.in_ok-take_piece.ensures.truth k (slice_set parts c.args.source next) piece (c.in_ok-taken.ensures.truth k parts part next here step t))
