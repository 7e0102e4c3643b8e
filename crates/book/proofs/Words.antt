-- The words of a book.
use Rattle.std.proofs.Common.{◌≡◌, ◌≢◌, ℕ, zero, suc, ◌<◌, [], ◌∷◌, ◌++◌, length, slice_index_or, refl, ◌∙◌, arith, ◌⊎◌, inl, inr}
use Rattle.std.proofs.lemmas.List.{length_push, get_or_push, get_or_append_left}
use Rattle.std.proofs.lemmas.Bool.Decides.{eqb_tells}
use Rattle.logbook.specs.Pages.{Book, Named}
use Rattle.book.specs.Pages.{words_of, word_named}

pub length_words : (b : Book) (n : ℕ) → length (words_of b n) ≡ n
length_words b zero = refl
length_words b (suc n) = omega (arith, length_push (words_of b n) (word_named b n), length_words b n)

word_step : (b : Book) (n k : ℕ) (d : Named) → k < suc n → (k < n → slice_index_or (words_of b n) k d ≡ word_named b k) → ((k ≡ n) ⊎ (k ≢ n)) → slice_index_or (words_of b n ++ word_named b n ∷ []) k d ≡ word_named b k
word_step b n k d lt rest (inl e) = rw e (get_or_push (words_of b n) (word_named b n) d n (length_words b n))
word_step b n k d lt rest (inr e) =
    let l : k < length (words_of b n) = omega (arith, length_words b n) in
    get_or_append_left (words_of b n) (word_named b n ∷ []) d k l ∙ rest (omega arith)

pub word_at : (b : Book) (n k : ℕ) (d : Named) → k < n → slice_index_or (words_of b n) k d ≡ word_named b k
word_at b zero k d lt = absurd (omega arith)
word_at b (suc n) k d lt = word_step b n k d lt (word_at b n k d) (elim (eqb_tells k n) as (λ _. (k ≡ n) ⊎ (k ≢ n)) [ inl s ↦ inl s.1 | inr s ↦ inr s.1 ])
