-- Which domains a plan has.
use Rattle.std.proofs.Common.{◌≡◌, ℕ, ◌+◌, ◌<◌, ◌≤◌, nat_lt, ◌==◌, ◌&&◌, Bool, true, false, Option, Some, None, is_some, length, position, slice_get, refl, ap, sym, ◌∙◌, arith}
use Rattle.std.specs.List.{range_with_len}
use Rattle.std.proofs.lemmas.Bool.Decides.{nat_tests}
use Rattle.row.specs.Bags.{Each}
use Rattle.plan.specs.Layouts.{Layout, table_at, view_at}
use Rattle.plan.specs.Domains.{base_shards, stage_shards, view_shards, shards_of_table, shards_of_view, domains}
use Rattle.plan.specs.declared.domain.DomainId.{DomainId}
use Rattle.plan.specs.declared.domain.DomainId.TheVariants as domain
use Rattle.model.proofs.Growth.{get_later}
use Rattle.packet.specs.Readers.{Reader, is_reader, readers}
use Rattle.protocol.specs.Edges.{is_domain, is_there, place_or, reader_place}
use Rattle.protocol.proofs.Lists.{each_at, each_map, map_get}
use Rattle.protocol.proofs.Owns.{each_flat}
use Rattle.protocol.proofs.Spots.{IsIn, both_true, each_range, found, in_flat, in_right, is_found, is_same, range_get, reader_found, same_is}
use Rattle.plan.proofs.Both.{and_both}
use Rattle.row.proofs.Filtered.{lt_of}
use Rattle.plan.proofs.OwnTexts.{each_join}

-- by its numbers
abbrev has : Layout → DomainId → Bool
has p (domain.Base t n) = nat_lt t (length p.tables) && nat_lt n (table_at p t).shards
has p (domain.Stage n) = nat_lt n p.stages
has p (domain.View i j) = nat_lt i (length p.views) && nat_lt j (view_at p i).shards

same_bool : (a b : Bool) → (a ≡ true → b ≡ true) → (b ≡ true → a ≡ true) → a ≡ b
same_bool true b f g = sym (f refl)
same_bool false true f g = g refl
same_bool false false f g = refl

is_less : (a b : ℕ) → a < b → nat_lt a b ≡ true
is_less a b lt = grind (arith, nat_tests)

not_less : (a b : ℕ) → b ≤ a → nat_lt a b ≡ false
not_less a b le = grind (arith, nat_tests)

-- ---- each of them is had by its numbers
all_had : (p : Layout) → Each (λ d. has p d ≡ true) (domains p)
all_had p =
    let P : DomainId → Type 0 = λ d. has p d ≡ true in
    each_join P _ (view_shards p)
    (each_join P (base_shards p) (stage_shards p)
    (each_flat P (shards_of_table p) (range_with_len 0 (length p.tables))
    (each_range (λ t. Each P (shards_of_table p t)) 0 (length p.tables) (λ t lt.
    each_map (λ n. P (domain.Base (0 + t) n)) P (λ n. domain.Base (0 + t) n) (λ n h. h) (range_with_len 0 (table_at p (0 + t)).shards)
    (each_range (λ n. P (domain.Base (0 + t) n)) 0 (table_at p (0 + t)).shards (λ n ln. and_both _ _ (is_less (0 + t) (length p.tables) (omega (arith, lt))) (is_less (0 + n) (table_at p (0 + t)).shards (omega (arith, ln))))))))
    (each_map (λ n. P (domain.Stage n)) P (λ n. domain.Stage n) (λ n h. h) (range_with_len 0 p.stages) (each_range (λ n. P (domain.Stage n)) 0 p.stages (λ n ln. is_less (0 + n) p.stages (omega (arith, ln))))))
    (each_flat P (shards_of_view p) (range_with_len 0 (length p.views))
    (each_range (λ i. Each P (shards_of_view p i)) 0 (length p.views) (λ i lt.
    each_map (λ n. P (domain.View (0 + i) n)) P (λ n. domain.View (0 + i) n) (λ n h. h) (range_with_len 0 (view_at p (0 + i)).shards)
    (each_range (λ n. P (domain.View (0 + i) n)) 0 (view_at p (0 + i)).shards (λ n ln. and_both _ _ (is_less (0 + i) (length p.views) (omega (arith, lt))) (is_less (0 + n) (view_at p (0 + i)).shards (omega (arith, ln))))))))

one_is : (d e : DomainId) → is_domain d e ≡ true → e ≡ d
one_is (domain.Base t n) (domain.Base u m) h =
    let b = both_true (t == u) (n == m) h in
    ap (λ k. domain.Base k m) (sym (same_is t u b.0)) ∙ ap (λ k. domain.Base t k) (sym (same_is n m b.1))
one_is (domain.Base t n) (domain.Stage m) h = cc
one_is (domain.Base t n) (domain.View v m) h = cc
one_is (domain.Stage n) (domain.Base u m) h = cc
one_is (domain.Stage n) (domain.Stage m) h = ap (λ k. domain.Stage k) (sym (same_is n m h))
one_is (domain.Stage n) (domain.View v m) h = cc
one_is (domain.View v n) (domain.Base u m) h = cc
one_is (domain.View v n) (domain.Stage m) h = cc
one_is (domain.View v n) (domain.View u m) h =
    let b = both_true (v == u) (n == m) h in
    ap (λ k. domain.View k m) (sym (same_is v u b.0)) ∙ ap (λ k. domain.View v k) (sym (same_is n m b.1))

there_had : (p : Layout) (d : DomainId) → is_there p d ≡ true → has p d ≡ true
there_had p d h = by (position (is_domain d) (domains p)) refl h
  where
    by : (o : Option ℕ) → position (is_domain d) (domains p) ≡ o → is_some o ≡ true → has p d ≡ true
    by None e s = cc
    by (Some n) e s =
        let f = found (is_domain d) (domains p) n e in
        ap (has p) (sym (one_is d f.it f.passes)) ∙ each_at (λ x. has p x ≡ true) (domains p) n f.it f.at (all_had p)

-- ---- and what is had by its numbers is one of them
of_itself : (d : DomainId) → is_domain d d ≡ true
of_itself (domain.Base t n) = and_both (t == t) (n == n) (is_same t) (is_same n)
of_itself (domain.Stage n) = is_same n
of_itself (domain.View v n) = and_both (v == v) (n == n) (is_same v) (is_same n)

in_there : (p : Layout) (d : DomainId) → IsIn d (domains p) → is_there p d ≡ true
in_there p d i = ap is_some (is_found (is_domain d) (domains p) i.0 d i.1 (of_itself d)).1

from_zero : (k : ℕ) → 0 + k ≡ k
from_zero k = omega arith

had_there : (p : Layout) (d : DomainId) → has p d ≡ true → is_there p d ≡ true
had_there p (domain.Base t n) h =
    let b = both_true (nat_lt t (length p.tables)) (nat_lt n (table_at p t).shards) h in
    let i = in_flat (shards_of_table p) (domain.Base t n) (range_with_len 0 (length p.tables)) t t n (range_get 0 (length p.tables) t (lt_of t (length p.tables) b.0) ∙ ap Some (from_zero t))
    (map_get (λ k. domain.Base t k) (range_with_len 0 (table_at p t).shards) n n (range_get 0 (table_at p t).shards n (lt_of n (table_at p t).shards b.1) ∙ ap Some (from_zero n)))
    in
    in_there p (domain.Base t n) (i.0, get_later _ (view_shards p) i.0 (domain.Base t n) (get_later (base_shards p) (stage_shards p) i.0 (domain.Base t n) i.1))
had_there p (domain.Stage n) h =
    let i = in_right (domain.Stage n) (base_shards p) (stage_shards p) n (map_get (λ k. domain.Stage k) (range_with_len 0 p.stages) n n (range_get 0 p.stages n (lt_of n p.stages h) ∙ ap Some (from_zero n))) in
    in_there p (domain.Stage n) (i.0, get_later _ (view_shards p) i.0 (domain.Stage n) i.1)
had_there p (domain.View v n) h =
    let b = both_true (nat_lt v (length p.views)) (nat_lt n (view_at p v).shards) h in
    let i = in_flat (shards_of_view p) (domain.View v n) (range_with_len 0 (length p.views)) v v n (range_get 0 (length p.views) v (lt_of v (length p.views) b.0) ∙ ap Some (from_zero v))
    (map_get (λ k. domain.View v k) (range_with_len 0 (view_at p v).shards) n n (range_get 0 (view_at p v).shards n (lt_of n (view_at p v).shards b.1) ∙ ap Some (from_zero n)))
    in
    in_there p (domain.View v n) (in_right (domain.View v n) _ (view_shards p) i.0 i.1)

had_is : (p : Layout) (d : DomainId) → has p d ≡ is_there p d
had_is p d = same_bool (has p d) (is_there p d) (had_there p d) (there_had p d)

-- ---- as a test tells it
pub base_had : (p : Layout) (d : DomainId) (t n tables shards : ℕ) → d ≡ domain.Base t n → tables ≡ length p.tables → t < tables → shards ≡ (table_at p t).shards → nat_lt n shards ≡ is_there p d
base_had p d t n tables shards is a lt b =
    let e : nat_lt t (length p.tables) ≡ true = is_less t (length p.tables) (omega (arith, a, lt)) in
    ap (nat_lt n) b ∙ sym (rw e refl) ∙ (had_is p (domain.Base t n) ∙ ap (is_there p) (sym is))

pub base_away : (p : Layout) (d : DomainId) (t n tables : ℕ) → d ≡ domain.Base t n → tables ≡ length p.tables → tables ≤ t → nat_lt t tables ≡ is_there p d
base_away p d t n tables is a le =
    let e : nat_lt t (length p.tables) ≡ false = not_less t (length p.tables) (omega (arith, a, le)) in
    not_less t tables le ∙ sym (rw e refl) ∙ (had_is p (domain.Base t n) ∙ ap (is_there p) (sym is))

pub stage_had : (p : Layout) (d : DomainId) (n stages : ℕ) → d ≡ domain.Stage n → stages ≡ p.stages → nat_lt n stages ≡ is_there p d
stage_had p d n stages is a = ap (nat_lt n) a ∙ (had_is p (domain.Stage n) ∙ ap (is_there p) (sym is))

pub view_away : (p : Layout) (d : DomainId) (i j views : ℕ) → d ≡ domain.View i j → views ≡ length p.views → views ≤ i → nat_lt i views ≡ is_there p d
view_away p d i j views is a le =
    let e : nat_lt i (length p.views) ≡ false = not_less i (length p.views) (omega (arith, a, le)) in
    not_less i views le ∙ sym (rw e refl) ∙ (had_is p (domain.View i j) ∙ ap (is_there p) (sym is))

pub view_had : (p : Layout) (d : DomainId) (i j views shards : ℕ) → d ≡ domain.View i j → views ≡ length p.views → i < views → shards ≡ (view_at p i).shards → nat_lt j shards ≡ is_there p d
view_had p d i j views shards is a lt b =
    let e : nat_lt i (length p.views) ≡ true = is_less i (length p.views) (omega (arith, a, lt)) in
    ap (nat_lt j) b ∙ sym (rw e refl) ∙ (had_is p (domain.View i j) ∙ ap (is_there p) (sym is))

-- the table and the shard of a base shard that is there
pub base_within : (p : Layout) (d : DomainId) (t n : ℕ) → d ≡ domain.Base t n → is_there p d ≡ true → (t < length p.tables) × (n < (table_at p t).shards)
base_within p d t n is h =
    let b = both_true (nat_lt t (length p.tables)) (nat_lt n (table_at p t).shards) (there_had p (domain.Base t n) (ap (is_there p) (sym is) ∙ h)) in
    (lt_of t (length p.tables) b.0, lt_of n (table_at p t).shards b.1)

-- ---- view shards
pub one_reader : (i j : ℕ) (r : Reader) → is_reader i j r ≡ true → r ≡ record { view = i; shard = j }
one_reader i j r h =
    let b = both_true (r.view == i) (r.shard == j) h in
    ap (λ k. record { view = k; shard = r.shard }) (same_is r.view i b.0) ∙ ap (λ k. record { view = i; shard = k }) (same_is r.shard j b.1)

-- the one that is found is the one that was looked for
pub reader_there : (p : Layout) (i j : ℕ) → i < length p.views → j < (view_at p i).shards → slice_get (readers p) (place_or (reader_place p i j)) ≡ Some (record { view = i; shard = j })
reader_there p i j lt lj =
    let r = reader_found p i j lt lj in
    let f = found (is_reader i j) (readers p) r.0 r.1 in
    ap (λ o. slice_get (readers p) (place_or o)) r.1 ∙ f.at ∙ ap Some (one_reader i j f.it f.passes)
