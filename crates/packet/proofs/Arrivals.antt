-- A marker that comes from one sender more, and leaves when it has come from all.
use Rattle.std.proofs.Common.{◌≡◌, ℕ, zero, suc, ◌+◌, ◌<◌, ◌≤◌, Bool, true, false, cond, not, nat_lt, List, [], ◌∷◌, ◌++◌, length, get_or, slice_set, Some, None, refl, ap, sym, ◌∙◌, subst, arith}
use Rattle.std.specs.List.{position, position_or_len}
use Rattle.std.proofs.lemmas.Bool.{ltb-true, ltb-false}
use Rattle.row.specs.Bags.{Each}
use Rattle.model.proofs.Lists.{any_end, each_one}
use Rattle.packet.specs.Marks.{Gathering, IsWaiting, arrived, come, complete, first_of, has_come, partly}
use Rattle.packet.specs.Messages.{Mark, is_mark}
use Rattle.packet.specs.Leaves.{left_at, no_gathering, OthersWait}

-- ---- it leaves
none_complete : (n : ℕ) (gs : List Gathering) → Each (IsWaiting n) gs → complete gs ≡ []
none_complete n [] h = refl
none_complete n (g ∷ gs) h = rw h.0.waits (none_complete n gs h.1)

all_partly : (n : ℕ) (gs : List Gathering) → Each (IsWaiting n) gs → partly gs ≡ gs
all_partly n [] h = refl
all_partly n (g ∷ gs) h = rw h.0.waits (ap (λ l. g ∷ l) (all_partly n gs h.1))

pub one_complete : (n i : ℕ) (gs : List Gathering) → OthersWait n i gs → complete gs ≡ complete (get_or gs i no_gathering ∷ [])
one_complete n i [] h = absurd h
one_complete n zero (g ∷ gs) h = by (has_come g) refl
  where
    by : (b : Bool) → has_come g ≡ b → complete (g ∷ gs) ≡ complete (g ∷ [])
    by true e = rw e (ap (λ l. g.mark ∷ l) (none_complete n gs h.1))
    by false e = rw e (none_complete n gs h.1)
one_complete n (suc i) (g ∷ gs) h = rw h.0.waits (one_complete n i gs h.1)

pub one_left : (n i : ℕ) (gs : List Gathering) → OthersWait n i gs → left_at i gs ≡ partly gs
one_left n i [] h = absurd h
one_left n zero (g ∷ gs) h = by (has_come g) refl
  where
    by : (b : Bool) → has_come g ≡ b → left_at zero (g ∷ gs) ≡ partly (g ∷ gs)
    by true e = rw e (sym (all_partly n gs h.1))
    by false e = rw e (ap (λ l. g ∷ l) (sym (all_partly n gs h.1)))
one_left n (suc i) (g ∷ gs) h = along (has_come (get_or gs i no_gathering)) refl (one_left n i gs h.1) ∙ rw h.0.waits refl
  where
    along : (b : Bool) → has_come (get_or gs i no_gathering) ≡ b → left_at i gs ≡ partly gs → left_at (suc i) (g ∷ gs) ≡ g ∷ partly gs
    along true e is = rw e (ap (λ l. g ∷ l) (sym (rw e refl) ∙ is))
    along false e is = rw e (ap (λ l. g ∷ l) (sym (rw e refl) ∙ is))

-- what is left waits
pub partly_waits : (n i : ℕ) (gs : List Gathering) → OthersWait n i gs → Each (IsWaiting n) (partly gs)
partly_waits n i [] h = absurd h
partly_waits n zero (g ∷ gs) h = by (has_come g) refl
  where
    by : (b : Bool) → has_come g ≡ b → Each (IsWaiting n) (partly (g ∷ gs))
    by true e = rw (e, all_partly n gs h.1) h.1
    by false e = rw (e, all_partly n gs h.1) (record { count = h.0; waits = e }, h.1)
partly_waits n (suc i) (g ∷ gs) h = rw h.0.waits (h.0, partly_waits n i gs h.1)

-- ---- it comes
abbrev pub is_of : Mark → Gathering → Bool
is_of m g = is_mark g.mark m

abbrev place : Mark → List Gathering → ℕ
place m gs = position_or_len (is_of m) gs

there : (n j : ℕ) (m : Mark) (gs : List Gathering) (i : ℕ) → place m gs ≡ i → i < length gs → slice_set gs i (arrived j (get_or gs i no_gathering)) ≡ come n j m gs
there n j m [] i at lt = absurd (omega (arith, lt))
there n j m (g ∷ gs) zero at lt = by (is_mark g.mark m) refl at
  where
    by : (b : Bool) → is_mark g.mark m ≡ b → cond (not b) (1 + place m gs) 0 ≡ 0 → arrived j g ∷ gs ≡ cond (is_mark g.mark m) (arrived j g ∷ gs) (g ∷ come n j m gs)
    by true e a = rw e refl
    by false e a = absurd (omega (arith, a))
there n j m (g ∷ gs) (suc i) at lt = by (is_mark g.mark m) refl at (there n j m gs i)
  where
    by : (b : Bool) → is_mark g.mark m ≡ b → cond (not b) (1 + place m gs) 0 ≡ suc i → (place m gs ≡ i → i < length gs → slice_set gs i (arrived j (get_or gs i no_gathering)) ≡ come n j m gs)
        → g ∷ slice_set gs i (arrived j (get_or gs i no_gathering)) ≡ cond (is_mark g.mark m) (arrived j g ∷ gs) (g ∷ come n j m gs)
    by true e a more = absurd (omega (arith, a))
    by false e a more = rw e (ap (λ k. g ∷ k) (more (omega (arith, a)) (omega (arith, lt))))

-- where it is found
pub found : (m : Mark) (gs : List Gathering) (i : ℕ) → position (is_of m) gs ≡ Some i → (place m gs ≡ i) × (i < length gs)
found m gs i is = by (nat_lt (place m gs) (length gs)) refl is
  where
    by : (b : Bool) → nat_lt (place m gs) (length gs) ≡ b → cond b (Some (place m gs)) None ≡ Some i → (place m gs ≡ i) × (i < length gs)
    by true e at = let k : place m gs ≡ i = cc in (k, subst (λ l. l < length gs) k (ltb-true (place m gs) (length gs) e))
    by false e at = absurd cc

-- one that had come from others comes from j too
pub come_there : (n j i : ℕ) (m : Mark) (gs : List Gathering) (x y : Gathering) → position (is_of m) gs ≡ Some i → x ≡ get_or gs i x → y ≡ arrived j x → slice_set gs i y ≡ come n j m gs
come_there n j i m gs x y is at to =
    let f = found m gs i is in
    let same : x ≡ get_or gs i no_gathering = at ∙ any_end gs i x no_gathering f.1 in
    ap (slice_set gs i) (to ∙ ap (arrived j) same) ∙ there n j m gs i f.0 f.1

unmet : (n j : ℕ) (m : Mark) (gs : List Gathering) → length gs ≤ place m gs → gs ++ first_of n j m ∷ [] ≡ come n j m gs
unmet n j m [] le = refl
unmet n j m (g ∷ gs) le = by (is_mark g.mark m) refl le (unmet n j m gs)
  where
    by : (b : Bool) → is_mark g.mark m ≡ b → length (g ∷ gs) ≤ cond (not b) (1 + place m gs) 0 → (length gs ≤ place m gs → gs ++ first_of n j m ∷ [] ≡ come n j m gs) → (g ∷ gs) ++ first_of n j m ∷ [] ≡ come n j m (g ∷ gs)
    by true e l more = absurd (omega (arith, l))
    by false e l more = rw e (ap (λ k. g ∷ k) (more (omega (arith, l))))

-- the first of its kind comes behind the others
pub come_new : (n j : ℕ) (m : Mark) (gs : List Gathering) → position (is_of m) gs ≡ None → gs ++ first_of n j m ∷ [] ≡ come n j m gs
come_new n j m gs is = by (nat_lt (place m gs) (length gs)) refl is
  where
    by : (b : Bool) → nat_lt (place m gs) (length gs) ≡ b → cond b (Some (place m gs)) None ≡ None → gs ++ first_of n j m ∷ [] ≡ come n j m gs
    by true e at = absurd cc
    by false e at = unmet n j m gs (ltb-false (place m gs) (length gs) e)

-- the others wait still
pub others_set : (n i : ℕ) (gs : List Gathering) (g : Gathering) → Each (IsWaiting n) gs → i < length gs → length g.here ≡ n → OthersWait n i (slice_set gs i g)
others_set n i [] g h lt is = absurd (omega (arith, lt))
others_set n zero (x ∷ gs) g h lt is = (is, h.1)
others_set n (suc i) (x ∷ gs) g h lt is = (h.0, others_set n i gs g h.1 (omega (arith, lt)) is)

pub others_push : (n : ℕ) (gs : List Gathering) (g : Gathering) → Each (IsWaiting n) gs → length g.here ≡ n → OthersWait n (length gs) (gs ++ g ∷ [])
others_push n [] g h is = (is, tt)
others_push n (x ∷ gs) g h is = (h.0, others_push n gs g h.1 is)

pub others_there : (n i : ℕ) (gs : List Gathering) → OthersWait n i gs → i < length gs
others_there n i [] h = absurd h
others_there n zero (g ∷ gs) h = omega arith
others_there n (suc i) (g ∷ gs) h = let lt = others_there n i gs h.1 in omega (arith, lt)

-- places for senders
pub count_at : (n i : ℕ) (gs : List Gathering) (x : Gathering) → Each (IsWaiting n) gs → i < length gs → x ≡ get_or gs i x → length x.here ≡ n
count_at n i gs x h lt at = (each_one (IsWaiting n) gs i x lt at h).count
