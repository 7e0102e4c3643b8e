use Rattle.std.proofs.Common.{◌/◌}
use Rattle.key_rows.proofs.Pieced.{halved, front_and_back}
use Rattle.key_rows.proofs.pieces.put_halves.Goals as goal

pub returns-clause-ok : goal.returns-clause-ok
returns-clause-ok c =
    halved c.args.pieces.now.items c.insert.new.self.items c.args.at c.in_ok-front.front c.in_ok-back-2.back c.args.rows c.requires.small
    (front_and_back c.args.rows c.split_off.new.self c.in_ok-back.back c.in_ok-front.front c.in_ok-back-2.back (c.len.result / 2) c.in_ok-back.ensures.front c.in_ok-back.ensures.back c.in_ok-front.ensures c.in_ok-back-2.ensures)
    c.in_ok-insert.ensures.items
