-- A history that goes on: what it named, allowed and had stays.
use mathlib.Core.List.{IsPrefix}
use Rattle.std.proofs.Common.{ap, ◌≡◌, ℕ, zero, suc, ◌≤◌, List, [], ◌∷◌, ◌++◌, length, slice_index_or, slice_get, Some, refl, sym, ◌∙◌, subst, arith, append_assoc, append-nil, length-append, ◌==◌, true, false}
use Rattle.std.proofs.lemmas.List.Concat.{flat_map-append}
use Rattle.std.proofs.lemmas.List.{take-append-le}
use Rattle.plan.specs.Layouts.{Layout}
use Rattle.model.specs.Logs.{Change}
use Rattle.model.specs.Places.{sources, source_at}
use Rattle.model.specs.Histories.{Item, write, Lengths, Place, entry_in, log_of, author_in, authors_of, len_at}
use Rattle.model.specs.Cuts.{IsAtMost, line_of, fronts_of, IsWithin}
use Rattle.model.specs.Legal.{IsOwn, Allows, IsLegalAfter}
use Rattle.std.proofs.lemmas.Bool.Decides.{nat_tests}

-- a write adds its entry to its log
pub log_push : (b : ℕ) (h : List Item) (s m : ℕ) (e : Change) → log_of b (h ++ write s m b e ∷ []) ≡ log_of b h ++ e ∷ []
log_push b h s m e = let is : (b == b) ≡ true = grind (arith, nat_tests) in flat_map-append (entry_in b) h (write s m b e ∷ []) ∙ rw (is) refl

-- and leaves the others
pub log_other : (b c : ℕ) (h : List Item) (s m : ℕ) (e : Change) → (c == b) ≡ false → log_of b (h ++ write s m c e ∷ []) ≡ log_of b h
log_other b c h s m e apart = flat_map-append (entry_in b) h (write s m c e ∷ []) ∙ rw (apart) (append-nil (log_of b h))

-- its author likewise
pub authors_push : (b : ℕ) (h : List Item) (s m : ℕ) (e : Change) → authors_of b (h ++ write s m b e ∷ []) ≡ authors_of b h ++ record { session = s; number = m } ∷ []
authors_push b h s m e = let is : (b == b) ≡ true = grind (arith, nat_tests) in flat_map-append (author_in b) h (write s m b e ∷ []) ∙ rw (is) refl

pub authors_other : (b c : ℕ) (h : List Item) (s m : ℕ) (e : Change) → (c == b) ≡ false → authors_of b (h ++ write s m c e ∷ []) ≡ authors_of b h
authors_other b c h s m e apart = flat_map-append (author_in b) h (write s m c e ∷ []) ∙ rw (apart) (append-nil (authors_of b h))

pub at_most_self : (c : Lengths) → IsAtMost c c
at_most_self c = λ s j. omega arith

pub at_most_trans : (c d e : Lengths) → IsAtMost c d → IsAtMost d e → IsAtMost c e
at_most_trans c d e f g = λ s j. omega (arith, f s j, g s j)

-- [] is all zeros
pub at_most_none : (c : Lengths) → IsAtMost [] c
at_most_none c = λ s j. omega arith

pub log_more : (b : ℕ) (h r : List Item) → log_of b (h ++ r) ≡ log_of b h ++ log_of b r
log_more b h r = flat_map-append (entry_in b) h r

-- the fronts that a line names stay
pub line_later : (h r : List Item) (bs ns : List ℕ) → ((j : ℕ) → slice_index_or ns j 0 ≤ length (log_of (slice_index_or bs j 0) h)) → line_of (h ++ r) bs ns ≡ line_of h bs ns
line_later h r [] ns within = refl
line_later h r (b ∷ bs) [] within = refl
line_later h r (b ∷ bs) (n ∷ ns) within =
    let here : n ≤ length (log_of b h) = within 0 in
    rw (log_more b h r, take-append-le n (log_of b h) (log_of b r) here, line_later h r bs ns (λ j. within (suc j))) refl

pub fronts_later : (p : Layout) (h r : List Item) (cut : Lengths) → ((s j : ℕ) → len_at cut s j ≤ length (log_of (source_at p j) h)) → fronts_of p (h ++ r) cut ≡ fronts_of p h cut
fronts_later p h r [] within = refl
fronts_later p h r (ns ∷ nss) within = rw (line_later h r (sources p) ns (within 0), fronts_later p h r nss (λ s j. within (suc s) j)) refl

pub within_later : (p : Layout) (h r : List Item) (cut : Lengths) → IsWithin p h cut → IsWithin p (h ++ r) cut
within_later p h r cut w = record {
  stages = w.stages;
  lines = w.lines;
  lengths = λ s j. (let b = source_at p j in let l = w.lengths s j in rw (log_more b h r) (omega (arith, l, length-append (log_of b h) (log_of b r))));
}

pub get_later : {A : Type 0} (xs ys : List A) (k : ℕ) (x : A) → slice_get xs k ≡ Some x → slice_get (xs ++ ys) k ≡ Some x
get_later [] ys k x h = absurd cc
get_later (y ∷ xs) ys zero x h = h
get_later (y ∷ xs) ys (suc k) x h = get_later xs ys k x h

pub own_later : (p : Layout) (h r : List Item) (s : ℕ) (x : Place) → IsOwn p h s x → IsOwn p (h ++ r) s x
own_later p h r s x o = record {
  source = o.source;
  there = o.there;
  base = o.base;
  number = o.number;
  wrote = rw (flat_map-append (author_in x.base) h r) (get_later (authors_of x.base h) (authors_of x.base r) x.index _ o.wrote);
}

-- a legal history goes on by an item that it allows
pub legal_more : (p : Layout) (n : ℕ) (past h : List Item) (i : Item) → IsLegalAfter p n past h → Allows p n (past ++ h) i → IsLegalAfter p n past (h ++ i ∷ [])
legal_more p n past [] i legal a = (subst (λ (l : List Item). Allows p n l i) (append-nil past) a, tt)
legal_more p n past (x ∷ h) i legal a = (legal.0, legal_more p n (past ++ x ∷ []) h i legal.1 (subst (λ (l : List Item). Allows p n l i) (sym (append_assoc past (x ∷ []) h)) a))

-- ---- logs of a longer history are longer
pub log_grows : (b : ℕ) (h w : List Item) → IsPrefix h w → IsPrefix (log_of b h) (log_of b w)
log_grows b h w p = (log_of b p.0, sym (ap (log_of b) (sym p.1) ∙ flat_map-append (entry_in b) h p.0))

pub authors_grow : (b : ℕ) (h w : List Item) → IsPrefix h w → IsPrefix (authors_of b h) (authors_of b w)
authors_grow b h w p = (authors_of b p.0, sym (ap (authors_of b) (sym p.1) ∙ flat_map-append (author_in b) h p.0))
