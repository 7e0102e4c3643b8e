-- What a try tells of a front.
use Rattle.std.proofs.Common.{◌≡◌, ℕ, ◌+◌, ◌<◌, ◌≤◌, ◌==◌, Bool, true, false, cond, List, [], ◌∷◌, ◌++◌, length, take, refl, ap, sym, ◌∙◌, subst, arith, append-nil, flat_map, length-append, take_all}
use Rattle.std.proofs.lemmas.List.Concat.{flat_map-append}
use Rattle.std.proofs.lemmas.List.{take-append-le}
use Rattle.std.proofs.lemmas.Bool.Decides.{nat_tests}
use mathlib.Core.List.{IsPrefix}
use Rattle.row.specs.Bags.{Each}
use Rattle.plan.specs.Layouts.{Layout}
use Rattle.model.specs.Logs.{Change, lawful}
use Rattle.model.specs.Places.{layout_of}
use Rattle.model.specs.Histories.{Item, write, Author, entry_in, log_of, author_in, authors_of}
use Rattle.book.specs.Words.{count_at}
use Rattle.model.specs.Legal.{AllowsWrite}
use Rattle.book.specs.Pages.{Page, history_of, IsAdded}
use Rattle.book.specs.Fronts.{FrontView, entries, authors, IsFront, IsAppended, IsMoved, MayAppend}
use Rattle.book.proofs.Parts.{length_log, flat_later, entry_blind, author_blind, IsBlind}
use Rattle.book.proofs.Steps.{rest_of}

abbrev pub front_at : ℕ → ℕ → List Page → FrontView
front_at base len log = record { base = base; len = len; seen = history_of log }

authors_step : (b s m c : ℕ) (e : Change) (h : List Item) → length (authors_of b h) ≡ length (log_of b h) → (t : Bool) → length (cond t ((record { session = s; number = m }) ∷ []) [] ++ authors_of b h) ≡ length (cond t (e ∷ []) [] ++ log_of b h)
authors_step b s m c e h rest true = omega (arith, rest)
authors_step b s m c e h rest false = rest

pub length_authors : (b : ℕ) (h : List Item) → length (authors_of b h) ≡ length (log_of b h)
length_authors b [] = refl
length_authors b (write s m c e ∷ h) = authors_step b s m c e h (length_authors b h) (c == b)
length_authors b (x ∷ h) = length_authors b h

-- a part of the word's own has one more at its end
pub part_added : {A : Type 0} (p : Layout) (k : ℕ) (g : Item → List A) → IsBlind p k g → (v w : List Item) (i : Item) (x : A) → IsAdded p k v i w → g i ≡ x ∷ [] → flat_map g w ≡ flat_map g v ++ x ∷ []
part_added p k g blind v w i x a is =
    ap (flat_map g) a.added ∙ (flat_map-append g (v ++ a.between) (i ∷ []) ∙ (ap (λ l. l ++ flat_map g (i ∷ [])) (flat_later p k g blind v a.between a.quiet) ∙ ap (λ l. flat_map g v ++ l) (append-nil (g i) ∙ is)))

itself : (b : ℕ) → (b == b) ≡ true
itself b = grind (arith, nat_tests)

pub entries_added : (p : Layout) (b s m : ℕ) (e : Change) (v w : List Item) → IsAdded p b v (write s m b e) w → log_of b w ≡ log_of b v ++ e ∷ []
entries_added p b s m e v w a = part_added p b (entry_in b) (entry_blind p b) v w (write s m b e) e a (rw (itself b) refl)

pub authors_added : (p : Layout) (b s m : ℕ) (e : Change) (v w : List Item) → IsAdded p b v (write s m b e) w → authors_of b w ≡ authors_of b v ++ (record { session = s; number = m }) ∷ []
authors_added p b s m e v w a = part_added p b (author_in b) (author_blind p b) v w (write s m b e) (record { session = s; number = m }) a (rw (itself b) refl)

-- all of a list and one more
take_more_all : {A : Type 0} (xs ys : List A) (x : A) (n : ℕ) → n ≡ length xs → ys ≡ xs ++ x ∷ [] → take (n + 1) ys ≡ take n xs ++ x ∷ []
take_more_all xs ys x n is e =
    rw (e, take_all (n + 1) (xs ++ x ∷ []) (omega (arith, length-append xs (x ∷ []))), take_all n xs (omega arith)) refl

pub appended : (p : Layout) (v w : List Page) (b len s m : ℕ) (e : Change) → IsFront p (front_at b len v) → (count_at p b (history_of v) ≡ len) × IsAdded p b (history_of v) (write s m b e) (history_of w)
    → IsAppended p (front_at b len v) s m e (front_at b (len + 1) w)
appended p v w b len s m e f (is, a) =
    let l : length (log_of b (history_of v)) ≡ len = length_log p b f.base (history_of v) ∙ is in
    record {
      item = a;
      stays = refl;
      entries = take_more_all (log_of b (history_of v)) (log_of b (history_of w)) e len (sym l) (entries_added p b s m e (history_of v) (history_of w) a);
      authors = take_more_all (authors_of b (history_of v)) (authors_of b (history_of w)) (record { session = s; number = m }) len (sym (length_authors b (history_of v) ∙ l)) (authors_added p b s m e (history_of v) (history_of w) a);
      whole = let g = entries_added p b s m e (history_of v) (history_of w) a in rw g (omega (arith, length-append (log_of b (history_of v)) (e ∷ []), l));
    }

pub appended_front : (p : Layout) (v w : List Page) (b len s m : ℕ) (e : Change) → IsFront p (front_at b len v) → (count_at p b (history_of v) ≡ len) × IsAdded p b (history_of v) (write s m b e) (history_of w) → IsFront p (front_at b (len + 1) w)
appended_front p v w b len s m e f (is, a) = record {
  base = f.base;
  len = let g = entries_added p b s m e (history_of v) (history_of w) a in rw g (omega (arith, length-append (log_of b (history_of v)) (e ∷ []), length_log p b f.base (history_of v), is));
}

-- a longer history keeps what a front is
pub front_later : (p : Layout) (v w : List Page) (b len : ℕ) → IsFront p (front_at b len v) → IsPrefix v w → IsFront p (front_at b len w)
front_later p v w b len f pre =
    let r = rest_of v w pre in
    record {
      base = f.base;
      len = rw (r.1, flat_map-append (entry_in b) (history_of v) r.0) (omega (arith, f.len, length-append (log_of b (history_of v)) (log_of b r.0)));
    }

pub entries_later : (p : Layout) (v w : List Page) (b len : ℕ) → IsFront p (front_at b len v) → IsPrefix v w → entries (front_at b len w) ≡ entries (front_at b len v)
entries_later p v w b len f pre =
    let r = rest_of v w pre in
    rw (r.1, flat_map-append (entry_in b) (history_of v) r.0) (take-append-le len (log_of b (history_of v)) (log_of b r.0) f.len)

pub authors_later : (p : Layout) (v w : List Page) (b len : ℕ) → IsFront p (front_at b len v) → IsPrefix v w → authors (front_at b len w) ≡ authors (front_at b len v)
authors_later p v w b len f pre =
    let r = rest_of v w pre in
    rw (r.1, flat_map-append (author_in b) (history_of v) r.0) (take-append-le len (authors_of b (history_of v)) (authors_of b r.0) (omega (arith, f.len, length_authors b (history_of v))))

pub moved : (p : Layout) (v w : List Page) (b len : ℕ) → IsFront p (front_at b len v) → IsPrefix v w → len < count_at p b (history_of w) → IsMoved (front_at b len v) (front_at b len w)
moved p v w b len f pre more =
    let r = rest_of v w pre in
    record {
      stays = refl;
      grown = (r.0, sym r.1);
      longer = omega (arith, length_log p b f.base (history_of w), more);
    }

-- what the front says of the log, while nobody has moved its word
pub may_write : (p : Layout) (v : List Page) (b len s m : ℕ) (e : Change) → IsFront p (front_at b len v) → MayAppend p (front_at b len v) s m e → count_at p b (history_of v) ≡ len → AllowsWrite p (history_of v) s m b e
may_write p v b len s m e f q is =
    let l : length (log_of b (history_of v)) ≡ len = length_log p b f.base (history_of v) ∙ is in
    let es : take len (log_of b (history_of v)) ≡ log_of b (history_of v) = take_all len (log_of b (history_of v)) (omega arith) in
    let ws : take len (authors_of b (history_of v)) ≡ authors_of b (history_of v) = take_all len (authors_of b (history_of v)) (omega (arith, length_authors b (history_of v))) in
    record {
      fits = q.fits;
      base = f.base;
      shard = q.shard;
      lawful = ap (λ log. lawful (layout_of p b).key log e) (sym es) ∙ q.lawful;
      room = rw l q.room;
      number = subst (λ (w : List Author). Each (λ (a : Author). a.session ≡ s → a.number < m) w) ws q.number;
    }

pub front_count : (p : Layout) (v : List Page) (b len : ℕ) → IsFront p (front_at b len v) → len ≤ count_at p b (history_of v)
front_count p v b len f = omega (arith, f.len, length_log p b f.base (history_of v))
