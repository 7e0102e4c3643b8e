use Rattle.std.proofs.Common.{◌≡◌, ◌+◌, ◌<◌, ap, sym, ◌∙◌, arith, length, map, slice_index_or}
use Rattle.std.proofs.lemmas.List.{get_or-map, length-map}
use Rattle.crossbeam_utils.specs.Padded.{padded_value}
use Rattle.model.specs.Places.{base_count}
use Rattle.book.proofs.Words.{length_words, word_at}
use Rattle.book.proofs.book.Book.word.Goals as goal

pub index-requires : goal.index-requires
index-requires g c =
    let i = c.self.invariant in
    let n : length (map padded_value c.self.inside.words.items) ≡ base_count g.J.Naming.plan + g.J.Naming.sessions = ap length i.0 ∙ (length_words _ _ ∙ ap (λ b. b + c.self.inside.sessions) i.1 ∙ ap (λ s. base_count g.J.Naming.plan + s) i.3) in
    omega (arith, length-map c.self.inside.words.items padded_value, n)

pub returns : goal.returns
returns g c =
    let i = c.self.invariant in
    let words = c.self.inside.words.items in
    let key = c.args.key in
    let found = c.index.result.now in
    let lt : key < c.self.inside.bases + c.self.inside.sessions = omega (arith, i.1, i.3) in
    let n : length (map padded_value words) ≡ c.self.inside.bases + c.self.inside.sessions = ap length i.0 ∙ length_words _ _ in
    let there : key < length words = omega (arith, length-map words padded_value, n) in
    c.deref.ensures
    ∙ (ap padded_value c.index.ensures
    ∙ (sym (get_or-map padded_value words key found (padded_value found) there)
    ∙ (ap (λ ws. slice_index_or ws key (padded_value found)) i.0
    ∙ word_at g.J.Naming.book (c.self.inside.bases + c.self.inside.sessions) key (padded_value found) lt)))
