-- What a session knows from a reply.
use Rattle.std.proofs.Common.{◌≡◌, ℕ, zero, suc, ◌+◌, ◌-◌, ◌<◌, ◌≤◌, ◌==◌, nat_le, Bool, true, false, cond, List, [], ◌∷◌, ◌++◌, length, slice_get, take, drop, take-append-drop, Some, refl, ap, sym, ◌∙◌, subst, arith, append_assoc, flat_map, length-append, ◌⊎◌, inl, inr}
use Rattle.std.proofs.lemmas.List.Concat.{flat_map-append}
use Rattle.std.proofs.lemmas.Bool.Decides.{nat_tests}
use mathlib.Core.List.{IsPrefix}
use Rattle.plan.specs.Layouts.{Layout}
use Rattle.model.specs.Logs.{Change}
use Rattle.model.specs.Histories.{Item, write, read, fence, Author, log_of, authors_of, entry_in, author_in}
use Rattle.book.specs.Pages.{Page, history_of}
use Rattle.book.specs.Fronts.{FrontView}
use Rattle.model.specs.Legal.{IsLegal}
use Rattle.book.specs.Replies.{IsAfter, IsPlaced, HasLogOf, longer}
use Rattle.model.proofs.Prefixes.{prefix_either, prefix_get, prefix_whole, prefix_length, prefix_self}
use Rattle.book.proofs.Steps.{rest_of, seen_more}
use Rattle.book.proofs.Fronts.{front_at, length_authors}

abbrev by : ℕ → ℕ → Author
by s m = record { session = s; number = m }

-- a place beyond the first list is in the second
get_beyond : {A : Type 0} (xs ys : List A) (k : ℕ) (x : A) → length xs ≤ k → slice_get (xs ++ ys) k ≡ Some x → slice_get ys (k - length xs) ≡ Some x
get_beyond [] ys k x le is = let e : k - 0 ≡ k = omega arith in rw e is
get_beyond (y ∷ xs) ys zero x le is = absurd (omega arith)
get_beyond (y ∷ xs) ys (suc k) x le is = let e : suc k - suc (length xs) ≡ k - length xs = omega arith in rw e (get_beyond xs ys k x (omega arith) is)

-- the history up to the item of a place
pub record IsSplit (b k s m : ℕ) (e : Change) (h : List Item) : Type 0 where
  pub before : List Item
  pub after : List Item
  pub is : h ≡ before ++ write s m b e ∷ after
  pub at : length (log_of b before) ≡ k

split_on : (b k j s m : ℕ) (e : Change) (x : Item) (h : List Item) → IsSplit b k s m e h → length (entry_in b x) + k ≡ j → IsSplit b j s m e (x ∷ h)
split_on b k j s m e x h p is = record {
  before = x ∷ p.before;
  after = p.after;
  is = ap (λ l. x ∷ l) p.is;
  at = length-append (entry_in b x) (log_of b p.before) ∙ (ap (λ n. length (entry_in b x) + n) p.at ∙ is);
}

split_write : (b k s m t n c : ℕ) (e f : Change) (h : List Item) → slice_get (log_of b (write t n c f ∷ h)) k ≡ Some e → slice_get (authors_of b (write t n c f ∷ h)) k ≡ Some (by s m)
    → ((j : ℕ) → slice_get (log_of b h) j ≡ Some e → slice_get (authors_of b h) j ≡ Some (by s m) → IsSplit b j s m e h)
    → (o : Bool) → (c == b) ≡ o → IsSplit b k s m e (write t n c f ∷ h)
split_write b zero s m t n c e f h at who rest true o =
    let same : c ≡ b = grind (arith, nat_tests) in
    let x : Some f ≡ Some e = rw o at at in
    let y : Some (by t n) ≡ Some (by s m) = rw o at who in
    let f' : f ≡ e = cc x in
    let y' : by t n ≡ by s m = cc y in
    let item : write t n c f ≡ write s m b e = ap (λ (q : Author). write q.session q.number c f) y' ∙ cc (same, f') in
    record { before = []; after = h; is = ap (λ i. i ∷ h) item; at = refl }
split_write b (suc k) s m t n c e f h at who rest true o =
    let one : length (entry_in b (write t n c f)) + k ≡ suc k = rw o (omega arith) in
    split_on b k (suc k) s m e (write t n c f) h (rest k (rw o at at) (rw o at who)) one
split_write b k s m t n c e f h at who rest false o =
    let none : length (entry_in b (write t n c f)) + k ≡ k = rw o (omega arith) in
    split_on b k k s m e (write t n c f) h (rest k (rw o at at) (rw o at who)) none

pub split_at : (b k s m : ℕ) (e : Change) (h : List Item) → slice_get (log_of b h) k ≡ Some e → slice_get (authors_of b h) k ≡ Some (by s m) → IsSplit b k s m e h
split_at b k s m e [] at who = absurd (cc at)
split_at b k s m e (write t n c f ∷ h) at who = split_write b k s m t n c e f h at who (λ j. split_at b j s m e h) (c == b) refl
split_at b k s m e (read t v key rows cut ∷ h) at who = split_on b k k s m e (read t v key rows cut) h (split_at b k s m e h at who) (omega arith)
split_at b k s m e (fence t own floors ∷ h) at who = split_on b k k s m e (fence t own floors) h (split_at b k s m e h at who) (omega arith)

-- an entry whose place is beyond a part stands after it
pub stands_after : (v o w : List Page) (s m b k : ℕ) (e : Change) → IsPrefix v w → IsPrefix o w → length (log_of b (history_of v)) ≤ k → slice_get (log_of b (history_of o)) k ≡ Some e → slice_get (authors_of b (history_of o)) k ≡ Some (by s m)
    → IsAfter (history_of v) (write s m b e) b k (history_of w)
stands_after v o w s m b k e vw ow le at who =
    let r = rest_of v w vw in
    let q = rest_of o w ow in
    let es : slice_get (log_of b (history_of w)) k ≡ Some e = prefix_get (log_of b (history_of o)) (log_of b (history_of w)) k e (log_of b q.0, sym (ap (log_of b) q.1 ∙ flat_map-append (entry_in b) (history_of o) q.0)) at in
    let ws : slice_get (authors_of b (history_of w)) k ≡ Some (by s m) = prefix_get (authors_of b (history_of o)) (authors_of b (history_of w)) k (by s m) (authors_of b q.0, sym (ap (authors_of b) q.1 ∙ flat_map-append (author_in b) (history_of o) q.0)) who in
    let es' : slice_get (log_of b (history_of v) ++ log_of b r.0) k ≡ Some e = ap (λ l. slice_get l k) (sym (ap (log_of b) r.1 ∙ flat_map-append (entry_in b) (history_of v) r.0)) ∙ es in
    let ws' : slice_get (authors_of b (history_of v) ++ authors_of b r.0) k ≡ Some (by s m) = ap (λ l. slice_get l k) (sym (ap (authors_of b) r.1 ∙ flat_map-append (author_in b) (history_of v) r.0)) ∙ ws in
    let lw : length (authors_of b (history_of v)) ≡ length (log_of b (history_of v)) = length_authors b (history_of v) in
    let p = split_at b (k - length (log_of b (history_of v))) s m e r.0 (get_beyond (log_of b (history_of v)) (log_of b r.0) k e le es') (rw lw at (get_beyond (authors_of b (history_of v)) (authors_of b r.0) k (by s m) (rw lw le) ws')) in
    record {
      between = p.before;
      rest = p.after;
      stands = r.1 ∙ (ap (λ l. history_of v ++ l) p.is ∙ sym (append_assoc (history_of v) p.before (write s m b e ∷ p.after)));
      place = ap length (flat_map-append (entry_in b) (history_of v) p.before) ∙ omega (arith, length-append (log_of b (history_of v)) (log_of b p.before), p.at, le);
    }

-- of two parts of one history one begins the other
pub one_begins : (v o w : List Page) → IsPrefix v w → IsPrefix o w → IsPrefix (history_of v) (history_of o) ⊎ IsPrefix (history_of o) (history_of v)
one_begins v o w vw ow = prefix_either (history_of v) (history_of o) (history_of w) (seen_more v w vw) (seen_more o w ow)

-- the longer of two parts of one history begins with both
longer_of : (xs ys : List Item) → IsPrefix xs ys ⊎ IsPrefix ys xs → (o : Bool) → nat_le (length xs) (length ys) ≡ o → IsPrefix xs (cond o ys xs) × IsPrefix ys (cond o ys xs)
longer_of xs ys (inl p) true o = (p, prefix_self ys)
longer_of xs ys (inl p) false o = absurd (let l : length ys < length xs = grind (arith, nat_tests) in omega (arith, prefix_length xs ys p))
longer_of xs ys (inr p) true o =
    let l : length xs ≤ length ys = grind (arith, nat_tests) in
    let same : ys ≡ xs = prefix_whole ys xs p l in
    (subst (λ (zs : List Item). IsPrefix xs zs) (sym same) (prefix_self xs), prefix_self ys)
longer_of xs ys (inr p) false o = (prefix_self xs, p)

pub longer_both : (xs ys : List Item) → IsPrefix xs ys ⊎ IsPrefix ys xs → IsPrefix xs (longer xs ys) × IsPrefix ys (longer xs ys)
longer_both xs ys either = longer_of xs ys either (nat_le (length xs) (length ys)) refl

-- where the second part's items make no shorter list, it is the list of the longer part
list_longer : {A : Type 0} (g : Item → List A) (xs ys : List Item) → IsPrefix xs ys ⊎ IsPrefix ys xs → length (flat_map g xs) ≤ length (flat_map g ys) → (o : Bool) → nat_le (length xs) (length ys) ≡ o → flat_map g (cond o ys xs) ≡ flat_map g ys
list_longer g xs ys either le true o = refl
list_longer g xs ys (inl p) le false o = absurd (let l : length ys < length xs = grind (arith, nat_tests) in omega (arith, prefix_length xs ys p))
list_longer g xs ys (inr p) le false o =
    let pre : IsPrefix (flat_map g ys) (flat_map g xs) = (flat_map g p.0, sym (ap (flat_map g) (sym p.1) ∙ flat_map-append g ys p.0)) in
    sym (prefix_whole (flat_map g ys) (flat_map g xs) pre le)

pub has_log : (f : FrontView) (xs : List Item) → IsPrefix xs f.seen ⊎ IsPrefix f.seen xs → length (log_of f.base xs) ≤ length (log_of f.base f.seen) → HasLogOf f (longer xs f.seen)
has_log f xs either le =
    let more = nat_le (length xs) (length f.seen) in
    record {
      log = list_longer (entry_in f.base) xs f.seen either le more refl;
      authors = list_longer (author_in f.base) xs f.seen either (omega (arith, le, length_authors f.base xs, length_authors f.base f.seen)) more refl;
    }

-- the longer part is one of the two
pub legal_longer : (p : Layout) (n : ℕ) (xs ys : List Item) → IsLegal p n xs → IsLegal p n ys → IsLegal p n (longer xs ys)
legal_longer p n xs ys l m = pick (nat_le (length xs) (length ys))
  where
    pick : (o : Bool) → IsLegal p n (cond o ys xs)
    pick true = m
    pick false = l

pub longer_within : (xs ys zs : List Item) → IsPrefix xs zs → IsPrefix ys zs → IsPrefix (longer xs ys) zs
longer_within xs ys zs l m = pick (nat_le (length xs) (length ys))
  where
    pick : (o : Bool) → IsPrefix (cond o ys xs) zs
    pick true = m
    pick false = l

-- what stands at a place of a front stands there in its log
take_get : {A : Type 0} (n k : ℕ) (xs : List A) (x : A) → slice_get (take n xs) k ≡ Some x → slice_get xs k ≡ Some x
take_get n k xs x at = prefix_get (take n xs) xs k x (drop n xs, take-append-drop n xs) at

pub placed : (v o w : List Page) (b n k : ℕ) → IsPrefix v w → IsPrefix o w → length (log_of b (history_of v)) ≤ k → IsPlaced (history_of v) (front_at b n o) k (history_of w)
placed v o w b n k vw ow le s m e at =
    stands_after v o w s m b k e vw ow le (take_get n k (log_of b (history_of o)) e at.entry) (take_get n k (authors_of b (history_of o)) (by s m) at.author)
