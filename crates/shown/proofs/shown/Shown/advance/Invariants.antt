use Rattle.std.proofs.Common.{◌≡◌, ◌<◌, [], length, slice_index_or, slice_set}
use Rattle.book.specs.Sessions.{fronts}
use Rattle.packet.specs.Lines.{entries_of, lengths_of}
use Rattle.shown.proofs.Placed.{mixed}
use Rattle.shown.proofs.shown.Shown.advance.Given as goal

abbrev pub invariant-loop-source : goal.invariant-loop-source
invariant-loop-source g l = record {
  small : l.fn.moved.stage < length l.fn.self.lengths;
  wide : length (slice_index_or l.fn.self.lengths l.fn.moved.stage []) ≡ length l.fn.moved.line;
  few : l.fn.moved.stage < length l.fn.self.cut;
  broad : length (slice_index_or l.fn.self.cut l.fn.moved.stage []) ≡ length l.fn.moved.line;
  lengths : l.self-inside.cut.lengths ≡ slice_set l.fn.self.lengths l.fn.moved.stage (mixed l.source (lengths_of l.fn.moved.line) (slice_index_or l.fn.self.lengths l.fn.moved.stage []));
  cut : fronts g.J.Naming.plan l.self-inside.cut ≡ slice_set l.fn.self.cut l.fn.moved.stage (mixed l.source (entries_of l.fn.moved.line) (slice_index_or l.fn.self.cut l.fn.moved.stage []));
  view : l.self-inside.view ≡ l.fn.self.view;
  shard : l.self-inside.shard ≡ l.fn.self.shard;
  rows : l.self-inside.rows ≡ l.fn.self.rows;
  asked : l.self-inside.asked ≡ l.fn.self.asked;
}
