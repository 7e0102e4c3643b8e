use Rattle.std.proofs.Common.{◌≡◌, ◌-◌, map}
use Rattle.crossbeam_utils.specs.Padded.{padded_value}
use Rattle.book.specs.Pages.{words_of}
use Rattle.book.proofs.book.words.Given as goal

abbrev pub invariant-loop-key : goal.invariant-loop-key
invariant-loop-key l = record {
  book : l.pens.book ≡ l.fn.pens.book;
  next : l.pens.next ≡ l._key;
  left : l.pens.left ≡ l.count - l._key;
  words : map padded_value l.words.items ≡ words_of l.fn.pens.book l._key;
}
