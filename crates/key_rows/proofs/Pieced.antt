-- Rows in order in pieces: the lists of the pieces, and the piece in which a row's place is.
use Rattle.std.proofs.Common.{◌≡◌, ℕ, zero, suc, ◌+◌, ◌-◌, ◌<◌, ◌≤◌, Bool, true, false, cond, not, List, [], ◌∷◌, ◌++◌, length, take, drop, set, insert, remove, get_or, reverse, take-append-drop, refl, ap, sym, ◌∙◌, subst, append_assoc, append-nil, length-append, length-drop, add-one, arith, Ordering, Result, Ok, Err, OnOk}
use Rattle.std.specs.declared.cmp.Ordering.TheVariants.{Less, Equal, Greater}
use Rattle.std.specs.Ordering.{is_eq, is_gt}
use Rattle.std.specs.Cmp.{IsTotalOrder}
use Rattle.std.proofs.lemmas.List.{reverse-append}
use Rattle.row.specs.Bags.{joined, Each, IsAscending, inserted, removed}
use Rattle.row.proofs.BagLemmas.{Each-weaker, Each-at, none_below, removed_absent, below_chain, up_chain}
use Rattle.key_rows.specs.Pieces.{has_reached, IsPieceOf}

pub on_ok : {A E : Type 0} (r : Result A E) (P Q : Type 0) → OnOk r P → (P → Q) → OnOk r Q
on_ok (Ok x) P Q h f = f h
on_ok (Err e) P Q h f = h

-- ---- the lists
pub joined_append : {X : Type 0} (ps qs : List (List X)) → joined (ps ++ qs) ≡ joined ps ++ joined qs
joined_append [] qs = refl
joined_append (p ∷ ps) qs = ap (λ t. p ++ t) (joined_append ps qs) ∙ sym (append_assoc p (joined ps) (joined qs))

pub joined_at : {X : Type 0} (ps : List (List X)) (at : ℕ) → at < length ps → joined ps ≡ joined (take at ps) ++ (get_or ps at [] ++ joined (drop (suc at) ps))
joined_at [] at h = absurd (omega arith)
joined_at (p ∷ ps) zero h = refl
joined_at (p ∷ ps) (suc at) h = ap (λ t. p ++ t) (joined_at ps at (omega arith)) ∙ sym (append_assoc p (joined (take at ps)) (get_or ps at [] ++ joined (drop (suc at) ps)))

pub joined_take : {X : Type 0} (ps : List (List X)) (at : ℕ) → at < length ps → joined (take (suc at) ps) ≡ joined (take at ps) ++ get_or ps at []
joined_take [] at h = absurd (omega arith)
joined_take (p ∷ ps) zero h = append-nil p
joined_take (p ∷ ps) (suc at) h = ap (λ t. p ++ t) (joined_take ps at (omega arith)) ∙ sym (append_assoc p (joined (take at ps)) (get_or ps at []))

-- another in its place
pub joined_set : {X : Type 0} (ps : List (List X)) (at : ℕ) (q : List X) → at < length ps → joined (set ps at q) ≡ joined (take at ps) ++ (q ++ joined (drop (suc at) ps))
joined_set [] at q h = absurd (omega arith)
joined_set (p ∷ ps) zero q h = refl
joined_set (p ∷ ps) (suc at) q h = ap (λ t. p ++ t) (joined_set ps at q (omega arith)) ∙ sym (append_assoc p (joined (take at ps)) (q ++ joined (drop (suc at) ps)))

-- two in its place
pub joined_halves : {X : Type 0} (ps : List (List X)) (at : ℕ) (q r : List X) → at < length ps
    → joined (set (take (suc at) ps ++ r ∷ drop (suc at) ps) at q) ≡ joined (take at ps) ++ ((q ++ r) ++ joined (drop (suc at) ps))
joined_halves [] at q r h = absurd (omega arith)
joined_halves (p ∷ ps) zero q r h = sym (append_assoc q r (joined ps))
joined_halves (p ∷ ps) (suc at) q r h = ap (λ t. p ++ t) (joined_halves ps at q r (omega arith)) ∙ sym (append_assoc p (joined (take at ps)) ((q ++ r) ++ joined (drop (suc at) ps)))

-- the same of what the code does: none in its place, another, or two
pub taken_out : {X : Type 0} (ps new : List (List X)) (at : ℕ) (rows : List X) → length rows ≡ 0 → new ≡ remove ps at → joined new ≡ joined (take at ps) ++ (rows ++ joined (drop (at + 1) ps))
taken_out ps new at [] none e = rw (e, add-one at) (joined_append (take at ps) (drop (suc at) ps))
taken_out ps new at (x ∷ rows) none e = absurd (omega arith)

pub replaced : {X : Type 0} (ps : List (List X)) (at : ℕ) (q rows : List X) → at < length ps → q ≡ rows → joined (set ps at q) ≡ joined (take at ps) ++ (rows ++ joined (drop (at + 1) ps))
replaced ps at q rows small e = rw (← e, add-one at) (joined_set ps at q small)

pub halved : {X : Type 0} (ps new : List (List X)) (at : ℕ) (q r rows : List X) → at < length ps → q ++ r ≡ rows → new ≡ insert ps (at + 1) r
    → joined (set new at q) ≡ joined (take at ps) ++ (rows ++ joined (drop (at + 1) ps))
halved ps new at q r rows small e n = rw (n, ← e, add-one at) (joined_halves ps at q r small)

pub front_and_back : {X : Type 0} (rows front back q r : List X) (n : ℕ) → front ≡ take n rows → back ≡ drop n rows → q ≡ front → r ≡ back → q ++ r ≡ rows
front_and_back rows front back q r n a b c d = rw (c, d, a, b) (take-append-drop n rows)

-- one more, where the last comes first
pub joined_reverse : {X : Type 0} (front back : List X) (ps : List (List X)) → front ++ joined (reverse (ps ++ back ∷ [])) ≡ (front ++ back) ++ joined (reverse ps)
joined_reverse front back ps = rw (reverse-append ps (back ∷ [])) (sym (append_assoc front back (joined (reverse ps))))

pub get_or_any : {X : Type 0} (xs : List X) (at : ℕ) (d e : X) → at < length xs → get_or xs at d ≡ get_or xs at e
get_or_any [] at d e h = absurd (omega arith)
get_or_any (x ∷ xs) zero d e h = refl
get_or_any (x ∷ xs) (suc at) d e h = get_or_any xs at d e (omega arith)

Each_both : {X : Type 0} (P : X → Type 0) (xs ys : List X) → Each P xs → Each P ys → Each P (xs ++ ys)
Each_both P [] ys h k = k
Each_both P (x ∷ xs) ys h k = (h.0, Each_both P xs ys h.1 k)

Each_left : {X : Type 0} (P : X → Type 0) (xs ys : List X) → Each P (xs ++ ys) → Each P xs
Each_left P [] ys h = tt
Each_left P (x ∷ xs) ys h = (h.0, Each_left P xs ys h.1)

Each_right : {X : Type 0} (P : X → Type 0) (xs ys : List X) → Each P (xs ++ ys) → Each P ys
Each_right P [] ys h = h
Each_right P (x ∷ xs) ys h = Each_right P xs ys h.1

module _ {X : Type 0} (cmp : X → X → Ordering) where
  IsAscending_left : (xs ys : List X) → IsAscending cmp (xs ++ ys) → IsAscending cmp xs
  IsAscending_left [] ys h = tt
  IsAscending_left (x ∷ xs) ys h = (Each_left (λ z. is_gt (cmp x z) ≡ false) xs ys h.0, IsAscending_left xs ys h.1)

  IsAscending_right : (xs ys : List X) → IsAscending cmp (xs ++ ys) → IsAscending cmp ys
  IsAscending_right [] ys h = h
  IsAscending_right (x ∷ xs) ys h = IsAscending_right xs ys h.1

  pub IsAscending-take : (n : ℕ) (xs : List X) → IsAscending cmp xs → IsAscending cmp (take n xs)
  IsAscending-take n xs up = IsAscending_left (take n xs) (drop n xs) (rw (take-append-drop n xs) up)

  pub IsAscending-drop : (n : ℕ) (xs : List X) → IsAscending cmp xs → IsAscending cmp (drop n xs)
  IsAscending-drop n xs up = IsAscending_right (take n xs) (drop n xs) (rw (take-append-drop n xs) up)

  -- those before an element are not above it
  before_middle : (xs : List X) (z : X) (ys : List X) → IsAscending cmp (xs ++ z ∷ ys) → Each (λ y. is_gt (cmp y z) ≡ false) xs
  before_middle [] z ys h = tt
  before_middle (x ∷ xs) z ys h = ((Each_right (λ y. is_gt (cmp x y) ≡ false) xs (z ∷ ys) h.0).0, before_middle xs z ys h.1)

  -- ---- how long
  pub length-inserted : (x : X) (ys : List X) → length (inserted cmp x ys) ≡ length ys + 1
  length-inserted x [] = refl
  length-inserted x (y ∷ ys) = step (is_gt (cmp x y)) (length-inserted x ys)
    where
      step : (b : Bool) → length (inserted cmp x ys) ≡ length ys + 1 → length (cond b (y ∷ inserted cmp x ys) (x ∷ y ∷ ys)) ≡ length (y ∷ ys) + 1
      step true h = omega (arith, h)
      step false h = omega arith

  pub length-removed-le : (x : X) (ys : List X) → length (removed cmp x ys) ≤ length ys
  length-removed-le x [] = omega arith
  length-removed-le x (y ∷ ys) = step (is_eq (cmp x y)) (length-removed-le x ys)
    where
      step : (b : Bool) → length (removed cmp x ys) ≤ length ys → length (cond b ys (y ∷ removed cmp x ys)) ≤ length (y ∷ ys)
      step true h = omega arith
      step false h = omega (arith, h)

  -- ---- behind rows that are all below it
  unreached : (x : X) (ys : List X) → has_reached cmp x ys ≡ false → Each (λ y. is_gt (cmp x y) ≡ true) ys
  unreached x [] h = tt
  unreached x (y ∷ ys) h = step (is_gt (cmp x y)) refl h (unreached x ys)
    where
      step : (b : Bool) → is_gt (cmp x y) ≡ b → cond b (has_reached cmp x ys) true ≡ false → (has_reached cmp x ys ≡ false → Each (λ y. is_gt (cmp x y) ≡ true) ys)
          → (is_gt (cmp x y) ≡ true) × Each (λ y. is_gt (cmp x y) ≡ true) ys
      step true e h k = (e, k h)
      step false e h k = absurd cc

  inserted_behind : (x : X) (xs ys : List X) → Each (λ y. is_gt (cmp x y) ≡ true) xs → inserted cmp x (xs ++ ys) ≡ xs ++ inserted cmp x ys
  inserted_behind x [] ys h = refl
  inserted_behind x (y ∷ xs) ys h = rw (h.0, inserted_behind x xs ys h.1) refl

  removed_behind : (x : X) (xs ys : List X) → Each (λ y. is_gt (cmp x y) ≡ true) xs → removed cmp x (xs ++ ys) ≡ xs ++ removed cmp x ys
  removed_behind x [] ys h = refl
  removed_behind x (y ∷ xs) ys h = step (cmp x y) h.0 (removed_behind x xs ys h.1)
    where
      step : (o : Ordering) → is_gt o ≡ true → removed cmp x (xs ++ ys) ≡ xs ++ removed cmp x ys → cond (is_eq o) (xs ++ ys) (y ∷ removed cmp x (xs ++ ys)) ≡ y ∷ (xs ++ removed cmp x ys)
      step Less e k = cc
      step Equal e k = cc
      step Greater e k = ap (λ t. y ∷ t) k

  -- ---- among rows that have reached it
  inserted_within : (x : X) (xs ys : List X) → has_reached cmp x xs ≡ true → inserted cmp x (xs ++ ys) ≡ inserted cmp x xs ++ ys
  inserted_within x [] ys h = cc
  inserted_within x (y ∷ xs) ys h = step (is_gt (cmp x y)) h (inserted_within x xs ys)
    where
      step : (b : Bool) → cond b (has_reached cmp x xs) true ≡ true → (has_reached cmp x xs ≡ true → inserted cmp x (xs ++ ys) ≡ inserted cmp x xs ++ ys)
          → cond b (y ∷ inserted cmp x (xs ++ ys)) (x ∷ y ∷ (xs ++ ys)) ≡ cond b (y ∷ inserted cmp x xs) (x ∷ y ∷ xs) ++ ys
      step true h k = ap (λ t. y ∷ t) (k h)
      step false h k = refl

  module _ (total : IsTotalOrder cmp) where
    -- what is above the second of two in order is above the first
    above_both : (x y z : X) → is_gt (cmp y z) ≡ false → is_gt (cmp x z) ≡ true → is_gt (cmp x y) ≡ true
    above_both x y z k h = step (is_gt (cmp x y)) refl
      where
        step : (b : Bool) → is_gt (cmp x y) ≡ b → is_gt (cmp x y) ≡ true
        step true e = e
        step false e = let low = up_chain cmp total x y z e k in cc

    removed_above : (x y : X) (ys : List X) → cmp x y ≡ Less → Each (λ z. is_gt (cmp y z) ≡ false) ys → removed cmp x (y ∷ ys) ≡ y ∷ ys
    removed_above x y ys e up =
        removed_absent cmp total x (y ∷ ys) (none_below cmp total x (y ∷ ys) (e, Each-weaker (λ z. is_gt (cmp y z) ≡ false) (λ z. cmp x z ≡ Less) (λ z m. below_chain cmp total x y z e m) ys up))

    removed_within : (x : X) (xs ys : List X) → IsAscending cmp (xs ++ ys) → has_reached cmp x xs ≡ true → removed cmp x (xs ++ ys) ≡ removed cmp x xs ++ ys
    removed_within x [] ys up h = cc
    removed_within x (y ∷ xs) ys up h = step (cmp x y) refl h (removed_within x xs ys up.1)
      where
        step : (o : Ordering) → cmp x y ≡ o → cond (is_gt o) (has_reached cmp x xs) true ≡ true → (has_reached cmp x xs ≡ true → removed cmp x (xs ++ ys) ≡ removed cmp x xs ++ ys)
            → removed cmp x (y ∷ (xs ++ ys)) ≡ removed cmp x (y ∷ xs) ++ ys
        step Less e h k =
            removed_above x y (xs ++ ys) e up.0 ∙ ap (λ t. t ++ ys) (sym (removed_above x y xs e (Each_left (λ z. is_gt (cmp y z) ≡ false) xs ys up.0)))
        step Equal e h k = rw e refl
        step Greater e h k = rw e (ap (λ t. y ∷ t) (k h))

    -- the last tells whether they have
    pub reached_by_last : (x : X) (ys : List X) (i : ℕ) (z : X) → IsAscending cmp ys → suc i ≡ length ys → z ≡ get_or ys i z → has_reached cmp x ys ≡ not (is_gt (cmp x z))
    reached_by_last x [] i z up last is = absurd (omega arith)
    reached_by_last x (y ∷ []) zero z up last is = rw is (step (is_gt (cmp x y)))
      where
        step : (b : Bool) → cond b false true ≡ not b
        step true = refl
        step false = refl
    reached_by_last x (y ∷ []) (suc i) z up last is = absurd (omega arith)
    reached_by_last x (y ∷ w ∷ ys) zero z up last is = absurd (omega arith)
    reached_by_last x (y ∷ w ∷ ys) (suc i) z up last is = step (is_gt (cmp x y)) refl (reached_by_last x (w ∷ ys) i z up.1 (omega arith) is)
      where
        low : is_gt (cmp y z) ≡ false
        low = rw is (Each-at (λ t. is_gt (cmp y t) ≡ false) (w ∷ ys) up.0 i z (omega arith))

        step : (b : Bool) → is_gt (cmp x y) ≡ b → has_reached cmp x (w ∷ ys) ≡ not (is_gt (cmp x z)) → cond b (has_reached cmp x (w ∷ ys)) true ≡ not (is_gt (cmp x z))
        step true e k = k
        step false e k = sym (ap not (up_chain cmp total x y z e low))

    -- ---- in pieces
    -- a piece that has not reached it tells that the pieces before have not
    pub before_next : (x : X) (ps : List (List X)) (at : ℕ) → IsAscending cmp (joined ps) → at < length ps → 0 < length (get_or ps at []) → has_reached cmp x (get_or ps at []) ≡ false
        → Each (λ y. is_gt (cmp x y) ≡ true) (joined (take (at + 1) ps))
    before_next x ps at up small some h =
        rw (add-one at, joined_take ps at small) (Each_both (λ y. is_gt (cmp x y) ≡ true) (joined (take at ps)) (get_or ps at []) (front (get_or ps at []) refl some (unreached x (get_or ps at []) h)) (unreached x (get_or ps at []) h))
      where
        front : (p : List X) → get_or ps at [] ≡ p → 0 < length p → Each (λ y. is_gt (cmp x y) ≡ true) p → Each (λ y. is_gt (cmp x y) ≡ true) (joined (take at ps))
        front [] e some all = absurd (omega arith)
        front (z ∷ p) e some all =
            let up2 : IsAscending cmp (joined (take at ps) ++ (z ∷ (p ++ joined (drop (suc at) ps)))) = rw (← (ap (λ t. joined (take at ps) ++ (t ++ joined (drop (suc at) ps))) e), ← (joined_at ps at small)) up in
            Each-weaker (λ y. is_gt (cmp y z) ≡ false) (λ y. is_gt (cmp x y) ≡ true) (λ y m. above_both x y z m all.0) (joined (take at ps)) (before_middle (joined (take at ps)) z (p ++ joined (drop (suc at) ps)) up2)

    module _ (x : X) (ps : List (List X)) (at : ℕ) (small : at < length ps) (place : IsPieceOf cmp x ps at) where
      pub inserted_pieces : inserted cmp x (joined ps) ≡ joined (take at ps) ++ (inserted cmp x (get_or ps at []) ++ joined (drop (suc at) ps))
      inserted_pieces =
          let p = get_or ps at [] in
          rw (joined_at ps at small) (inserted_behind x (joined (take at ps)) (p ++ joined (drop (suc at) ps)) place.before ∙ ap (λ t. joined (take at ps) ++ t) (within (drop (suc at) ps) refl))
        where
          within : (rest : List (List X)) → drop (suc at) ps ≡ rest → inserted cmp x (get_or ps at [] ++ joined rest) ≡ inserted cmp x (get_or ps at []) ++ joined rest
          within [] e = rw (append-nil (get_or ps at []), append-nil (inserted cmp x (get_or ps at []))) refl
          within (r ∷ rest) e = inserted_within x (get_or ps at []) (joined (r ∷ rest)) (place.here (omega (arith, length-drop (suc at) ps, ap length e)))

      pub removed_pieces : IsAscending cmp (joined ps) → removed cmp x (joined ps) ≡ joined (take at ps) ++ (removed cmp x (get_or ps at []) ++ joined (drop (suc at) ps))
      removed_pieces up =
          rw (joined_at ps at small) (removed_behind x (joined (take at ps)) (get_or ps at [] ++ joined (drop (suc at) ps)) place.before ∙ ap (λ t. joined (take at ps) ++ t) (within (drop (suc at) ps) refl))
        where
          rest_up : IsAscending cmp (get_or ps at [] ++ joined (drop (suc at) ps))
          rest_up = IsAscending_right (joined (take at ps)) (get_or ps at [] ++ joined (drop (suc at) ps)) (rw (← (joined_at ps at small)) up)

          within : (rest : List (List X)) → drop (suc at) ps ≡ rest → removed cmp x (get_or ps at [] ++ joined rest) ≡ removed cmp x (get_or ps at []) ++ joined rest
          within [] e = rw (append-nil (get_or ps at []), append-nil (removed cmp x (get_or ps at []))) refl
          within (r ∷ rest) e =
              removed_within x (get_or ps at []) (joined (r ∷ rest)) (subst (λ t. IsAscending cmp (get_or ps at [] ++ joined t)) e rest_up) (place.here (omega (arith, length-drop (suc at) ps, ap length e)))

      -- the same of what the code does with the piece
      module _ (p q : List X) (new : List X) (is : p ≡ get_or ps at p) (put : new ≡ joined (take at ps) ++ (q ++ joined (drop (at + 1) ps))) where
        found : p ≡ get_or ps at []
        found = is ∙ get_or_any ps at p [] small

        pub piece_added : q ≡ inserted cmp x p → new ≡ inserted cmp x (joined ps)
        piece_added e = rw (put, e, found, add-one at) (sym inserted_pieces)

        pub piece_taken : IsAscending cmp (joined ps) → q ≡ removed cmp x p → new ≡ removed cmp x (joined ps)
        piece_taken up e = rw (put, e, found, add-one at) (sym (removed_pieces up))

        -- how many rows fewer
        pub piece_shorter : (n : ℕ) → q ≡ removed cmp x p → n ≡ length p - length q → length new + n ≡ length (joined ps)
        piece_shorter n e taken =
            let a = joined (take at ps) in
            let b = joined (drop (suc at) ps) in
            let all : length (joined ps) ≡ length a + (length p + length b) = rw (joined_at ps at small, ← found, length-append a (p ++ b), length-append p b) refl in
            let some : length new ≡ length a + (length q + length b) = rw (put, add-one at, length-append a (q ++ b), length-append q b) refl in
            let fewer : length q ≤ length p = rw e (length-removed-le x p) in
            omega (arith, all, some, fewer, taken)
