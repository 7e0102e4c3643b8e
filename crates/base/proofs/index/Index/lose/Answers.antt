use Rattle.base.specs.Indexed.{with_waiting}
use Rattle.base.proofs.Indexes.{waiting_out}
use Rattle.base.proofs.index.Index.lose.Goals as goal

pub take_away-requires : goal.take_away-requires
take_away-requires c =
    let waiting = c.args.self.now.waiting in
    (with_waiting waiting c.requires.0, waiting_out c.in-Some.rows waiting c.args.row.now c.requires.0 (rw c.in-Some.is at c.requires.1))
