-- The steps keep the rule.
use Rattle.std.proofs.Common.{◌≡◌, ◌≢◌, ℕ, ◌+◌, ◌<◌, ◌≤◌, ◌==◌, Bool, true, false, cond, List, [], ◌∷◌, ◌++◌, length, map, slice_index_or, slice_set, Option, Result, Ok, Err, OnErr, refl, ap, sym, ◌∙◌, subst, arith, append_assoc, append-nil, inl, inr, None, ◌⊎◌, length-set, get_or-set_same, get_or-set_other}
use Rattle.std.proofs.lemmas.List.Concat.{flat_map-append}
use Rattle.std.proofs.lemmas.List.{map-append}
use Rattle.std.proofs.lemmas.Bool.Decides.{nat_tests, eqb_tells}
use mathlib.Core.List.{IsPrefix}
use prog.Atomic.{either}
use Rattle.logbook.specs.Pages.{Cell, Act, keeps, no_nib, step, Moves, View, Valid, Runs, cells_after, nib_after}
use Rattle.plan.specs.Layouts.{Layout}
use Rattle.model.specs.Histories.{Item}
use Rattle.model.specs.Places.{base_count}
use Rattle.book.specs.Words.{word_of, count_at}
use Rattle.model.specs.Legal.{Allows}
use Rattle.book.specs.Pages.{Page, opens, adds, item_in, history_of, IsLogOf, IsKeptBy, IsKept, IsTry, Tries, IsAsk, IsDone}
use Rattle.book.proofs.Parts.{count_append}
use Rattle.book.proofs.Later.{allows_later}
use Rattle.model.proofs.Growth.{legal_more}

pub history_more : (xs ys : List Page) → history_of (xs ++ ys) ≡ history_of xs ++ history_of ys
history_more xs ys = flat_map-append item_in xs ys

-- a beginning of a log of a plan has that plan
pub same_plan : (p q : Layout) (m n : ℕ) (v log : List Page) → IsLogOf p m v → IsLogOf q n log → IsPrefix v log → (q ≡ p) × (n ≡ m)
same_plan p q m n v log a b pre =
    let e : (opens p m ∷ map adds (history_of v)) ++ pre.0 ≡ opens q n ∷ map adds (history_of log) = ap (λ (l : List Page). l ++ pre.0) (sym a.whole) ∙ (pre.1 ∙ b.whole) in
    (cc e, cc e)

pub kept_by : (p : Layout) (n : ℕ) (v log : List Page) (cs : List Cell) → IsLogOf p n v → IsKept cs log → IsPrefix v log → IsKeptBy p n cs log
kept_by p n v log cs a kept pre =
    let e = same_plan p kept.0 n kept.1 v log a kept.2.of pre in
    let half : IsKeptBy p kept.1 cs log = subst (λ (q : Layout). IsKeptBy q kept.1 cs log) e.0 kept.2 in
    subst (λ (m : ℕ). IsKeptBy p m cs log) e.1 half

pub log_by : (p q : Layout) (m n : ℕ) (v log : List Page) → IsLogOf p m v → IsLogOf q n log → IsPrefix v log → IsLogOf p m log
log_by p q m n v log a b pre =
    let e = same_plan p q m n v log a b pre in
    let half : IsLogOf p n log = subst (λ (o : Layout). IsLogOf o n log) e.0 b in
    subst (λ (o : ℕ). IsLogOf p o log) e.1 half

-- the log of a longer history
pub log_more : (p : Layout) (n : ℕ) (log : List Page) (i : Item) → IsLogOf p n log → Allows p n (history_of log) i → IsLogOf p n (log ++ adds i ∷ [])
log_more p n log i a may =
    let h : history_of (log ++ adds i ∷ []) ≡ history_of log ++ i ∷ [] = history_more log (adds i ∷ []) in
    record {
      whole = rw h (ap (λ (l : List Page). l ++ adds i ∷ []) a.whole ∙ ap (λ (l : List Page). opens p n ∷ l) (sym (map-append adds (history_of log) (i ∷ []))));
      legal = rw h (legal_more p n [] (history_of log) i a.legal may);
    }

-- the words after the word k was set
pub set_words : (p : Layout) (cs : List Cell) (h g : List Item) (k y : ℕ) → k < length cs → ((j : ℕ) → j < length cs → slice_index_or cs j (0, false) ≡ (count_at p j h, true)) → y ≡ count_at p k g → ((j : ℕ) → j ≢ k → count_at p j g ≡ count_at p j h)
    → (j : ℕ) → j < length (slice_set cs k (y, true)) → slice_index_or (slice_set cs k (y, true)) j (0, false) ≡ (count_at p j g, true)
set_words p cs h g k y lt words at rest j jt = by_case (eqb_tells j k)
  where
    by_case : (((j == k) ≡ true) × (j ≡ k)) ⊎ (((j == k) ≡ false) × (j ≢ k)) → slice_index_or (slice_set cs k (y, true)) j (0, false) ≡ (count_at p j g, true)
    by_case (inl s) = rw s.1 (get_or-set_same cs k (y, true) (0, false) lt ∙ ap (λ (n : ℕ). (n, true)) at)
    by_case (inr s) = get_or-set_other cs k j (y, true) (0, false) s.1 ∙ (words j (let l : j < length cs = rw (length-set cs k (y, true)) at jt in l) ∙ ap (λ (n : ℕ). (n, true)) (sym (rest j s.1)))

abbrev pub shown : List Page → List Page
shown log = []

abbrev pub moved : List Page → List Page → ℕ → Type 0
moved xs ys n = Unit {0}

-- Goes, by the cell that the step finds
abbrev GoesAt : (v : List Page) (k : ℕ) (f : ℕ → ℕ) → (ℕ → View Page ℕ → Type 0) → List Cell → List Page → Cell → Type 0
GoesAt v k f then cs log x = (a : Act) × (more : List Page) × (t : Option ℕ) × Valid a no_nib × IsKept (cells_after a no_nib (slice_set cs k (f x.0, true))) (log ++ more)
    × Runs moved None t (shown log) (shown (log ++ more)) × then x.0 (log ++ more, (nib_after a no_nib cs, t))

-- ---- a step that keeps the log, and its word as it is
log_still : (p q : Layout) (n m : ℕ) (v log : List Page) → IsLogOf p n log → IsLogOf q m v → IsPrefix v log → IsLogOf q m (log ++ [])
log_still p q n m v log of seen pre = subst (IsLogOf q m) (sym (append-nil log)) (log_by q p m n v log seen of pre)

told_still : (p q : Layout) (n m : ℕ) (v log : List Page) (k : ℕ) → IsLogOf p n log → IsLogOf q m v → IsPrefix v log → count_at p k (history_of log) ≡ count_at q k (history_of (log ++ []))
told_still p q n m v log k of seen pre =
    let e = same_plan q p m n v log seen of pre in
    subst (λ (o : Layout). count_at p k (history_of log) ≡ count_at o k (history_of (log ++ []))) e.0 (ap (λ l. count_at p k (history_of l)) (sym (append-nil log)))

goes_still : (p : Layout) (n : ℕ) (v log : List Page) (k : ℕ) (f : ℕ → ℕ) (then : ℕ → View Page ℕ → Type 0) (cs : List Cell) → IsKeptBy p n cs log → k < length cs → f (count_at p k (history_of log)) ≡ count_at p k (history_of log)
    → then (count_at p k (history_of log)) (log ++ [], (no_nib, None)) → GoesAt v k f then cs log (count_at p k (history_of log), true)
goes_still p n v log k f then cs kept lt same done =
    let cell = f (count_at p k (history_of log)) in
    let words = set_words p cs (history_of log) (history_of log) k cell lt kept.words same (λ j apart. refl) in
    let still : IsKept (slice_set cs k (cell, true)) log = (p, n, record { of = kept.of; width = length-set cs k _ ∙ kept.width; words = words }) in
    (keeps, [], None, tt, subst (IsKept (slice_set cs k (cell, true))) (sym (append-nil log)) still, inl (refl, refl), done)

-- one more item, of the word k
pub count_one : (p : Layout) (h : List Item) (i : Item) (j : ℕ) → count_at p j (h ++ i ∷ []) ≡ count_at p j h + cond (word_of p i == j) 1 0
count_one p h i j = omega (arith, count_append p j h (i ∷ []))

pub count_own : (p : Layout) (h : List Item) (i : Item) (k : ℕ) → word_of p i ≡ k → count_at p k (h ++ i ∷ []) ≡ count_at p k h + 1
count_own p h i k own =
    let t : (word_of p i == k) ≡ true = grind (arith, nat_tests) in
    count_one p h i k ∙ ap (λ b. count_at p k h + cond b 1 0) t

count_other : (p : Layout) (h : List Item) (i : Item) (k j : ℕ) → word_of p i ≡ k → j ≢ k → count_at p j (h ++ i ∷ []) ≡ count_at p j h
count_other p h i k j own apart =
    let t : (word_of p i == j) ≡ false = grind (arith, nat_tests) in
    count_one p h i j ∙ (ap (λ b. count_at p j h + cond b 1 0) t ∙ omega arith)

-- what a longer history has more
pub rest_of : (v log : List Page) → IsPrefix v log → (r : List Item) × (history_of log ≡ history_of v ++ r)
rest_of v log pre = (history_of pre.0, ap history_of (sym pre.1) ∙ history_more v pre.0)

try_goes : (p : Layout) (n : ℕ) (v log : List Page) (i : Item) (k old : ℕ) (cs : List Cell) → IsLogOf p n v → (count_at p k (history_of v) ≡ old → Allows p n (history_of v) i) → word_of p i ≡ k → old ≤ count_at p k (history_of v)
    → IsKeptBy p n cs log → IsPrefix v log → k < length cs
    → (b : Bool) → (count_at p k (history_of log) == old) ≡ b
    → GoesAt v k (λ c. either (c == old) (old + 1) c) (Tries (step k old (old + 1) (adds i)) (v, (no_nib, None))) cs log (count_at p k (history_of log), true)
try_goes p n v log i k old cs a may own seen kept pre lt true is =
    let same : count_at p k (history_of log) ≡ old = grind (arith, nat_tests) in
    let r = rest_of v log pre in
    let quiet : count_at p k r.0 ≡ 0 = omega (arith, count_append p k (history_of v) r.0, ap (count_at p k) r.1) in
    let before : count_at p k (history_of v) ≡ old = omega (arith, count_append p k (history_of v) r.0, ap (count_at p k) r.1) in
    let may' : Allows p n (history_of log) i = subst (λ (h : List Item). Allows p n h i) (sym r.1) (allows_later p n (history_of v) r.0 i (let q : count_at p (word_of p i) r.0 ≡ 0 = rw own quiet in q) (may before)) in
    let of' : IsLogOf p n (log ++ adds i ∷ []) = log_more p n log i kept.of may' in
    let h : history_of (log ++ adds i ∷ []) ≡ history_of log ++ i ∷ [] = history_more log (adds i ∷ []) in
    let y : either (count_at p k (history_of log) == old) (old + 1) (count_at p k (history_of log)) ≡ count_at p k (history_of log ++ i ∷ []) = rw is (omega (arith, count_own p (history_of log) i k own, same)) in
    let words = set_words p cs (history_of log) (history_of log ++ i ∷ []) k _ lt kept.words y (λ j apart. count_other p (history_of log) i k j own apart) in (
      keeps,
      adds i ∷ [],
      None,
      tt,
      (p, n, record { of = of'; width = length-set cs k _ ∙ kept.width; words = rw h words }),
      inl (refl, refl),
      λ q m b. record {
        of = log_by q p m n v (log ++ adds i ∷ []) b of' (let t = pre in (t.0 ++ adds i ∷ [], sym (append_assoc v t.0 (adds i ∷ [])) ∙ ap (λ l. l ++ adds i ∷ []) t.1));
        tells = λ j ask. rw is (
          subst (λ (o : Layout). count_at o k (history_of v) ≡ old) (let e = same_plan q p m n v log b kept.of pre in e.0) before,
          record {
            between = r.0;
            quiet = subst (λ (o : Layout). count_at o k r.0 ≡ 0) (let e = same_plan q p m n v log b kept.of pre in e.0) quiet;
            added = h ∙ (ap (λ l. l ++ i ∷ []) r.1 ∙ ap (λ x. (history_of v ++ r.0) ++ x ∷ []) (let e : i ≡ j = cc in e));
          },
        );
      },
    )
try_goes p n v log i k old cs a may own seen kept pre lt false is =
    goes_still p n v log k (λ c. either (c == old) (old + 1) c) (Tries (step k old (old + 1) (adds i)) (v, (no_nib, None))) cs kept lt (rw is refl) (λ q m b. record {
      of = log_still p q n m v log kept.of b pre;
      tells = λ j ask. rw is (told_still p q n m v log k kept.of b pre);
    })

-- whatever the book is, the exchange adds the item, or finds that its word has moved
pub try_moves : (p : Layout) (n : ℕ) (v : List Page) (i : Item) (k old : ℕ) → IsLogOf p n v → (count_at p k (history_of v) ≡ old → Allows p n (history_of v) i) → word_of p i ≡ k → k < base_count p + n → old ≤ count_at p k (history_of v)
    → Moves IsKept shown moved k (v, (no_nib, None)) (λ c. either (c == old) (old + 1) c) (Tries (step k old (old + 1) (adds i)) (v, (no_nib, None)))
try_moves p n v i k old a may own range seen cs log kept pre away =
    let by = kept_by p n v log cs a kept pre in
    let lt : k < length cs = omega (arith, by.width) in
    let is = by.words k lt in (
      lt,
      ap (λ x. x.1) is,
      subst (GoesAt v k (λ c. either (c == old) (old + 1) c) (Tries (step k old (old + 1) (adds i)) (v, (no_nib, None))) cs log) (sym is) (try_goes p n v log i k old cs a may own seen by pre lt (count_at p k (history_of log) == old) refl),
    )

-- ---- what holds of a result
pub any_err : {A E P : Type 0} (r : Result A E) → P → OnErr r P
any_err (Ok x) p = tt
any_err (Err e) p = p

pub on_err : {A E P Q : Type 0} (r : Result A E) → (P → Q) → OnErr r P → OnErr r Q
on_err (Ok x) f p = tt
on_err (Err e) f p = f p

-- what a try tells where it found the number that it expected, and where it did not
pub told_yes : (p : Layout) (n k old : ℕ) (ask : Page) (found : ℕ) (v w : List Page) → IsTry p n k old ask found v w → found ≡ old → IsDone p k old ask (history_of v) (history_of w)
told_yes p n k old ask found v w t is i asks =
    let yes : (found == old) ≡ true = grind (arith, nat_tests) in
    let all = t.tells i asks in
    rw yes at all

pub told_no : (p : Layout) (n k old : ℕ) (ask : Page) (found : ℕ) (v w : List Page) → IsTry p n k old ask found v w → IsAsk p n k old (history_of v) ask → IsPrefix v w → found ≢ old → old < count_at p k (history_of w)
told_no p n k old ask found v w t q pre is =
    let off : (found == old) ≡ false = grind (arith, nat_tests) in
    let all = t.tells q.item q.asks in
    let now : found ≡ count_at p k (history_of w) = rw off at all in
    let r = rest_of v w pre in
    omega (arith, q.least, count_append p k (history_of v) r.0, ap (count_at p k) r.1, now, is)

pub ask_moves : (p : Layout) (n : ℕ) (v : List Page) (k old : ℕ) (ask : Page) → IsLogOf p n v → IsAsk p n k old (history_of v) ask
    → Moves IsKept shown moved k (v, (no_nib, None)) (λ c. either (c == old) (old + 1) c) (Tries (step k old (old + 1) ask) (v, (no_nib, None)))
ask_moves p n v k old ask a q = rw q.asks (try_moves p n v q.item k old a q.may q.word q.range q.least)

pub seen_more : (v w : List Page) → IsPrefix v w → IsPrefix (history_of v) (history_of w)
seen_more v w pre = let r = rest_of v w pre in (r.0, sym r.1)
