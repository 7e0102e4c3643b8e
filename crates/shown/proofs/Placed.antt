-- A line that is put in the place of another, front by front.
use Rattle.std.proofs.Common.{◌≡◌, ℕ, zero, suc, ◌+◌, ◌<◌, ◌≤◌, List, [], ◌∷◌, ◌++◌, Some, map, length, take, drop, replicate, slice_get, slice_set, slice_index_or, refl, ap, sym, ◌∙◌, arith}
use Rattle.std.proofs.lemmas.List.{get_or-set_same, set-get_or}
use Rattle.plan.specs.Layouts.{Layout}
use Rattle.model.specs.Cuts.{line_of, fronts_of}
use Rattle.model.specs.Fronts.{LogView}
use Rattle.model.specs.Histories.{Item, Lengths}
use Rattle.model.specs.Places.{sources}
use Rattle.packet.specs.Lines.{IsOf, entries_of, lengths_of}
use Rattle.packet.specs.Truth.{Pointwise}
use Rattle.shown.specs.Snapshots.{Snapshot}

some_is : {X : Type 0} (x y : X) → Some x ≡ Some y → x ≡ y
some_is x y e = cc

-- so many of the new ones, and then the old ones
abbrev pub mixed : {X : Type 0} → ℕ → List X → List X → List X
mixed i news olds = take i news ++ drop i olds

set_mixed : {X : Type 0} (i : ℕ) (news olds : List X) (x : X) → i < length olds → slice_get news i ≡ Some x → slice_set (mixed i news olds) i x ≡ mixed (suc i) news olds
set_mixed zero [] olds x s h = cc
set_mixed zero (n ∷ news) [] x s h = absurd (omega (arith, s))
set_mixed zero (n ∷ news) (o ∷ olds) x s h = ap (λ y. y ∷ olds) (sym (some_is n x h))
set_mixed (suc i) [] olds x s h = cc
set_mixed (suc i) (n ∷ news) [] x s h = absurd (omega (arith, s))
set_mixed (suc i) (n ∷ news) (o ∷ olds) x s h = ap (λ l. n ∷ l) (set_mixed i news olds x (omega (arith, s)) h)

whole_mixed : {X : Type 0} (i : ℕ) (news olds : List X) → length olds ≡ length news → length news ≤ i → mixed i news olds ≡ news
whole_mixed zero [] [] e s = refl
whole_mixed (suc i) [] [] e s = refl
whole_mixed i [] (o ∷ olds) e s = absurd (omega (arith, e))
whole_mixed i (n ∷ news) [] e s = absurd (omega (arith, e))
whole_mixed zero (n ∷ news) (o ∷ olds) e s = absurd (omega (arith, s))
whole_mixed (suc i) (n ∷ news) (o ∷ olds) e s = ap (λ l. n ∷ l) (whole_mixed i news olds (omega (arith, e)) (omega (arith, s)))

set_twice : {X : Type 0} (ls : List X) (s : ℕ) (a b : X) → slice_set (slice_set ls s a) s b ≡ slice_set ls s b
set_twice [] s a b = refl
set_twice (l ∷ ls) zero a b = refl
set_twice (l ∷ ls) (suc s) a b = ap (λ t. l ∷ t) (set_twice ls s a b)

module _ {X : Type 0} (ls : List (List X)) (s : ℕ) (news : List X) where
  pub none_placed : slice_set ls s (mixed 0 news (slice_index_or ls s [])) ≡ ls
  none_placed = set-get_or ls s []

  pub one_placed : (i : ℕ) (x : X) (now : List (List X)) → s < length ls → i < length (slice_index_or ls s []) → slice_get news i ≡ Some x
      → now ≡ slice_set ls s (mixed i news (slice_index_or ls s []))
      → slice_set now s (slice_set (slice_index_or now s []) i x) ≡ slice_set ls s (mixed (i + 1) news (slice_index_or ls s []))
  one_placed i x now small wide h e =
      let old = slice_index_or ls s [] in
      let next : suc i ≡ i + 1 = omega arith in
      let l = mixed i news old in
      ap (λ t. slice_set t s (slice_set (slice_index_or t s []) i x)) e
      ∙ ap (λ m. slice_set (slice_set ls s l) s (slice_set m i x)) (get_or-set_same ls s l [] small)
      ∙ set_twice ls s l (slice_set l i x)
      ∙ ap (slice_set ls s) (set_mixed i news old x wide h)
      ∙ ap (λ n. slice_set ls s (mixed n news old)) next

  pub all_placed : (i : ℕ) → length (slice_index_or ls s []) ≡ length news → length news ≤ i → slice_set ls s (mixed i news (slice_index_or ls s [])) ≡ slice_set ls s news
  all_placed i e done = ap (slice_set ls s) (whole_mixed i news (slice_index_or ls s []) e done)

-- ---- the fronts of a cut
pub count_fronts : (p : Layout) (h : List Item) (ls : Lengths) → length (fronts_of p h ls) ≡ length ls
count_fronts p h [] = refl
count_fronts p h (ns ∷ ls) = ap suc (count_fronts p h ls)

count_line : (h : List Item) (bs ns : List ℕ) → length ns ≡ length bs → length (line_of h bs ns) ≡ length bs
count_line h [] ns e = refl
count_line h (b ∷ bs) [] e = absurd (omega (arith, e))
count_line h (b ∷ bs) (n ∷ ns) e = ap suc (count_line h bs ns (omega (arith, e)))

pub wide_fronts : (p : Layout) (h : List Item) (ls : Lengths) (s : ℕ) → s < length ls → length (slice_index_or ls s []) ≡ length (sources p) → length (slice_index_or (fronts_of p h ls) s []) ≡ length (sources p)
wide_fronts p h [] s small e = absurd (omega (arith, small))
wide_fronts p h (ns ∷ ls) zero small e = count_line h (sources p) ns e
wide_fronts p h (ns ∷ ls) (suc s) small e = wide_fronts p h ls s (omega (arith, small)) e

-- ---- the fronts of a line
pub count_of : (p : Layout) (bs : List ℕ) (line : List LogView) → Pointwise (IsOf p) bs line → length bs ≡ length line
count_of p [] [] of = refl
count_of p [] (l ∷ line) of = absurd of
count_of p (b ∷ bs) [] of = absurd of
count_of p (b ∷ bs) (l ∷ line) of = ap suc (count_of p bs line of.1)

pub base_at_of : (p : Layout) (bs : List ℕ) (line : List LogView) (i : ℕ) (l : LogView) → Pointwise (IsOf p) bs line → slice_get line i ≡ Some l → slice_index_or bs i 0 ≡ l.base
base_at_of p [] [] i l of h = cc
base_at_of p [] (x ∷ line) i l of h = absurd of
base_at_of p (b ∷ bs) [] i l of h = absurd of
base_at_of p (b ∷ bs) (x ∷ line) zero l of h = sym of.0.base ∙ ap (λ (y : LogView). y.base) (some_is x l h)
base_at_of p (b ∷ bs) (x ∷ line) (suc i) l of h = base_at_of p bs line i l of.1 h

pub entries_at : (line : List LogView) (i : ℕ) (l : LogView) → slice_get line i ≡ Some l → slice_get (entries_of line) i ≡ Some l.entries
entries_at [] i l h = cc
entries_at (x ∷ line) zero l h = ap (λ (y : LogView). Some y.entries) (some_is x l h)
entries_at (x ∷ line) (suc i) l h = entries_at line i l h

pub length_at : (line : List LogView) (i : ℕ) (l : LogView) → slice_get line i ≡ Some l → slice_get (lengths_of line) i ≡ Some (length l.entries)
length_at [] i l h = cc
length_at (x ∷ line) zero l h = ap (λ (y : LogView). Some (length y.entries)) (some_is x l h)
length_at (x ∷ line) (suc i) l h = length_at line i l h

pub count_map : {X Y : Type 0} (f : X → Y) (xs : List X) → length (map f xs) ≡ length xs
count_map f [] = refl
count_map f (x ∷ xs) = ap suc (count_map f xs)

pub count_take : {X : Type 0} (n : ℕ) (xs : List X) → n ≤ length xs → length (take n xs) ≡ n
count_take zero xs s = refl
count_take (suc n) [] s = absurd (omega (arith, s))
count_take (suc n) (x ∷ xs) s = ap suc (count_take n xs (omega (arith, s)))

-- ---- over no entries
no_line : (h : List Item) (bs : List ℕ) → line_of h bs (replicate (length bs) 0) ≡ replicate (length bs) []
no_line h [] = refl
no_line h (b ∷ bs) = ap (λ l. [] ∷ l) (no_line h bs)

pub no_fronts : (p : Layout) (h : List Item) (n : ℕ) → fronts_of p h (replicate n (replicate (length (sources p)) 0)) ≡ replicate n (replicate (length (sources p)) [])
no_fronts p h zero = refl
no_fronts p h (suc n) = ap (λ l. l ∷ fronts_of p h (replicate n (replicate (length (sources p)) 0))) (no_line h (sources p)) ∙ ap (λ t. replicate (length (sources p)) [] ∷ t) (no_fronts p h n)

-- two snapshots that show the same are one
pub one_snapshot : (a b : Snapshot) → a.view ≡ b.view → a.shard ≡ b.shard → a.lengths ≡ b.lengths → a.cut ≡ b.cut → a.rows ≡ b.rows → a.asked ≡ b.asked → a ≡ b
one_snapshot a b v s l c r n = λ i. record { view = v i; shard = s i; lengths = l i; cut = c i; rows = r i; asked = n i }
