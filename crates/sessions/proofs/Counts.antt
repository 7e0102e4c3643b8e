-- Counts of requests, one view shard after the other.
use Rattle.std.proofs.Common.{◌≡◌, ℕ, zero, suc, ◌+◌, ◌<◌, ◌≤◌, ◌==◌, Bool, true, false, cond, min, nat_le, List, [], ◌∷◌, ◌++◌, map, length, slice_get, slice_set, take, Some, Result, Ok, Err, IfOk, refl, ap, sym, ◌∙◌, arith}
use Rattle.std.proofs.Math.Nat.{min-eq_left, min-eq_right}
use Rattle.std.proofs.lemmas.Bool.Decides.{nat_tests}
use Rattle.row.specs.declared.refused.Refused.{Refused}
use Rattle.plan.specs.Layouts.{Layout}
use Rattle.packet.specs.Readers.{Reader, readers}
use Rattle.shown.specs.Snapshots.{Snapshot, IsLater}
use Rattle.shown.proofs.Rises.{later_self}
use Rattle.sessions.specs.Callers.{reader_of}
use Rattle.sessions.specs.Counts.{IsAskedAt, asked_of}
use Rattle.sessions.proofs.Cuts.{take_set}
use Rattle.sessions.proofs.Later.{sight_of}

-- ---- one look
there_at : (xs : List Snapshot) (i : ℕ) → i < length xs → (x : Snapshot) × (slice_get xs i ≡ Some x)
there_at [] i lt = absurd (omega (arith, lt))
there_at (x ∷ xs) zero lt = (x, refl)
there_at (x ∷ xs) (suc i) lt = there_at xs i (omega (arith, lt))

set_back : (xs : List Snapshot) (i : ℕ) (x : Snapshot) → slice_get xs i ≡ Some x → xs ≡ slice_set xs i x
set_back [] i x at = cc
set_back (y ∷ xs) zero x at = let e : y ≡ x = cc in ap (λ z. z ∷ xs) e
set_back (y ∷ xs) (suc i) x at = ap (λ l. y ∷ l) (set_back xs i x at)

pub asked_there : (shown : List Snapshot) (n : ℕ) (x y : Snapshot) (own : Bool) → slice_get shown n ≡ Some x → IsLater x y → own ≡ true → (r : Result ℕ Refused) → IfOk r (λ k. k ≡ y.asked) → IfOk r (λ k. IsAskedAt shown (slice_set shown n y) n own k)
asked_there shown n x y own there later is (Ok k) h = record { was = x; is = y; there = there; later = later; set = refl; asked = h ∙ sym (ap (λ b. cond b y.asked 0) is) }
asked_there shown n x y own there later is (Err e) h = tt

pub unasked_there : (shown : List Snapshot) (n : ℕ) (own : Bool) → n < length shown → own ≡ false → IsAskedAt shown shown n own 0
unasked_there shown n own lt is =
    let x = there_at shown n lt in
    record { was = x.0; is = x.0; there = x.1; later = later_self x.0; set = set_back shown n x.0 x.1; asked = sym (ap (λ b. cond b x.0.asked 0) is) }

-- ---- sums
asked_more : (v : ℕ) (xs : List Snapshot) (y : Snapshot) → asked_of v (xs ++ y ∷ []) ≡ asked_of v xs + cond (y.view == v) y.asked 0
asked_more v [] y = omega arith
asked_more v (x ∷ xs) y = let e = asked_more v xs y in omega (arith, e)

pub asked_next : (p : Layout) (v n : ℕ) (r : Reader) (old new : List Snapshot) (own : Bool) (k : ℕ) → map reader_of old ≡ readers p → slice_get (readers p) n ≡ Some r → own ≡ (r.view == v) → IsAskedAt old new n own k
    → asked_of v (take (n + 1) new) ≡ asked_of v (take n old) + k
asked_next p v n r old new own k are at is t =
    let of : reader_of t.was ≡ r = sight_of p old are n r.view r.shard t.was t.there at in
    let view : t.is.view ≡ r.view = t.later.view ∙ ap (λ (q : Reader). q.view) of in
    let own_is : own ≡ (t.is.view == v) = is ∙ ap (λ m. m == v) (sym view) in
    let next : n + 1 ≡ suc n = omega arith in
    ap (λ m. asked_of v (take m new)) next
    ∙ (ap (λ l. asked_of v (take (suc n) l)) t.set
    ∙ (ap (asked_of v) (take_set old n t.was t.is t.there)
    ∙ (asked_more v (take n old) t.is
    ∙ ap (λ m. asked_of v (take n old) + m) (sym (t.asked ∙ ap (λ b. cond b t.is.asked 0) own_is)))))

-- a sum that stays at a greatest number, with one more
pub capped_more : (s k m x : ℕ) → x ≡ min s m → min (x + k) m ≡ min (s + k) m
capped_more s k m x is = by (nat_le s m) refl
  where
    by : (o : Bool) → nat_le s m ≡ o → min (x + k) m ≡ min (s + k) m
    by true o =
        let le : s ≤ m = grind (arith, nat_tests) in
        ap (λ n. min (n + k) m) (is ∙ min-eq_left le)
    by false o =
        let lt : m < s = grind (arith, nat_tests) in
        let e : x ≡ m = is ∙ min-eq_right (omega (arith, lt)) in
        let a : m ≤ x + k = omega (arith, e) in
        let b : m ≤ s + k = omega (arith, lt) in
        min-eq_right a ∙ sym (min-eq_right b)
