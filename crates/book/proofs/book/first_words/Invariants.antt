use Rattle.std.proofs.Common.{◌≡◌, length}
use Rattle.book.specs.Rights.{AreFresh}
use Rattle.book.proofs.book.first_words.Given as goal

abbrev pub invariant-loop-number : goal.invariant-loop-number
invariant-loop-number g l = record {
  fresh : AreFresh 0 l.words.items;
  count : length l.words.items ≡ l.number;
}
