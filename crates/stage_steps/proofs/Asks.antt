-- Requests to each right source.
use Rattle.std.proofs.Common.{◌≡◌, ℕ, zero, suc, ◌+◌, ◌<◌, ◌≤◌, true, false, cond, List, [], ◌∷◌, ◌++◌, map, length, slice_index_or, slice_set, refl, ap, sym, ◌∙◌, arith, length-append}
use Rattle.std.specs.List.{range_with_len}
use Rattle.std.proofs.lemmas.Bool.Decides.{nat_tests}
use Rattle.std.proofs.lemmas.List.{length-map}
use Rattle.std.proofs.lemmas.List.FromFn.{length-range_with_len}
use Rattle.row.specs.Cells.{Datum}
use Rattle.plan.proofs.Ranges.{put_more}
use Rattle.plan.specs.Layouts.{Layout, SideLayout, TableLayout, table_at}
use Rattle.model.specs.Places.{base_at, right_bases, side_bases, side_count, sources}
use Rattle.packet.specs.Messages.{Ask}
use Rattle.packet.specs.Outboxes.{EdgeView, packets_on, with_one}
use Rattle.packet.specs.Readers.{is_left, right_tag}
use Rattle.protocol.specs.StageSteps.{append_each}
use Rattle.stage_steps.proofs.Appends.{append_more, append_nothing}

abbrev pub asked_of : Layout → Datum → ℕ → List Ask
asked_of p x j = cond (is_left p j) [] (record { tag = right_tag; key = x } ∷ [])

left_of : (p : Layout) (j : ℕ) → j < side_count p p.left → is_left p j ≡ true
left_of p j lt = grind (arith, nat_tests)

right_of : (p : Layout) (j : ℕ) → side_count p p.left ≤ j → is_left p j ≡ false
right_of p j le = grind (arith, nat_tests)

-- no left source is asked
none_asked : (p : Layout) (x : Datum) (a n : ℕ) → a + n ≤ side_count p p.left → map (asked_of p x) (range_with_len a n) ≡ map (λ j. []) (range_with_len a n)
none_asked p x a zero le = refl
none_asked p x a (suc n) le = rw (left_of p a (omega (arith, le)), none_asked p x (a + 1) n (omega (arith, le))) refl

-- the first ones
pub lefts_asked : (p : Layout) (x : Datum) (n : ℕ) (edges : List (EdgeView Ask)) → n ≡ side_count p p.left → n ≤ length edges → packets_on edges ≡ append_each (packets_on edges) (map (asked_of p x) (range_with_len 0 n))
lefts_asked p x n edges is le =
    let xss = packets_on edges in
    sym (ap (append_each xss) (none_asked p x 0 n (omega (arith, is))) ∙ append_nothing xss (range_with_len 0 n) (omega (arith, le, length-range_with_len 0 n, length-map edges (λ (e : EdgeView Ask). e.packets))))

pub lefts_small : (p : Layout) → side_count p p.left ≤ length (sources p)
lefts_small p = omega (arith, length-append (side_bases p p.left) (right_bases p p.right), length-range_with_len (base_at p p.left.table 0) (side_count p p.left))

pub lefts_are : (p : Layout) (t : TableLayout) (i n : ℕ) → n ≡ t.shards → t ≡ table_at p i → (side : SideLayout) → i ≡ side.table → side ≡ p.left → n ≡ side_count p p.left
lefts_are p t i n count is side at left = count ∙ (ap (λ (t : TableLayout). t.shards) is ∙ rw (at, left) refl)

pub request_is : (a : Ask) (k x : Datum) → a ≡ record { tag = 0; key = k } → k ≡ x → a ≡ record { tag = right_tag; key = x }
request_is a k x is same = is ∙ rw same refl

-- one more
pub asked_more : (p : Layout) (x : Datum) (old now then : List (EdgeView Ask)) (j : ℕ) (a : Ask) → side_count p p.left ≤ j → j < length now → length now ≡ length old → a ≡ record { tag = right_tag; key = x } → packets_on now ≡ append_each (packets_on old) (map (asked_of p x) (range_with_len 0 j))
    → packets_on then ≡ with_one j a (packets_on now) → packets_on then ≡ append_each (packets_on old) (map (asked_of p x) (range_with_len 0 (j + 1)))
asked_more p x old now then j a le lt count is before more =
    let own : a ∷ [] ≡ asked_of p x j = ap (λ a. a ∷ []) is ∙ ap (λ b. cond b [] (record { tag = right_tag; key = x } ∷ [])) (sym (right_of p j le)) in
    more
    ∙ (ap (λ xs. slice_set (packets_on now) j (slice_index_or (packets_on now) j [] ++ xs)) own
    ∙ (ap (λ ps. slice_set ps j (slice_index_or ps j [] ++ asked_of p x j)) before
    ∙ (sym (append_more (packets_on old) (map (asked_of p x) (range_with_len 0 j)) (asked_of p x j) j (sym (length-map (range_with_len 0 j) (asked_of p x) ∙ length-range_with_len 0 j)) (let n = length-map old (λ (e : EdgeView Ask). e.packets) in omega (arith, lt, count, n)))
    ∙ ap (append_each (packets_on old)) (put_more (asked_of p x) [] (map (asked_of p x) (range_with_len 0 j)) (map (asked_of p x) (range_with_len 0 j) ++ asked_of p x j ∷ []) j refl refl))))
