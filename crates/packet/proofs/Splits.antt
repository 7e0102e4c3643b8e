-- One more record for its part.
use Rattle.std.proofs.Common.{◌≡◌, ◌≢◌, ℕ, zero, suc, ◌+◌, ◌<◌, ◌==◌, Bool, true, false, cond, List, [], ◌∷◌, ◌++◌, map, length, replicate, Some, get_or, slice_get, slice_set, refl, ap, sym, ◌∙◌, arith}
use Rattle.std.specs.List.{range_with_len}
use Rattle.std.proofs.lemmas.List.{append-nil, get_or-map}
use Rattle.std.proofs.lemmas.List.Elements.{filter-append}
use Rattle.std.proofs.lemmas.Bool.{eq-eqb, ne_eqb}
use Rattle.std.proofs.lemmas.List.FromFn.{length-map-range_with_len, get_or-map-range_with_len}
use Rattle.row.specs.Cells.{Datum, shard, has_shard, passes}
use Rattle.row.specs.declared.record.Record.{Record}
use Rattle.packet.specs.Truth.{records_for}
use Rattle.packet.specs.Split.{parts_by}

-- there are n parts
pub parts_length : (column n : ℕ) (rs : List Record) → length (parts_by column n rs) ≡ n
parts_length column n rs = length-map-range_with_len (λ j. records_for column n j rs) 0 n

-- no record is in each of the empty parts
pub parts_none : (column n m a : ℕ) → replicate n [] ≡ map (λ j. records_for column m j []) (range_with_len a n)
parts_none column zero m a = refl
parts_none column (suc n) m a = ap (λ l. [] ∷ l) (parts_none column n m (a + 1))

-- past a place the two functions agree
past : {X : Type 0} (f g : ℕ → X) (a b n : ℕ) → b < a → ((i : ℕ) → i ≢ b → g i ≡ f i) → map f (range_with_len a n) ≡ map g (range_with_len a n)
past f g a b zero lt others = refl
past f g a b (suc n) lt others = rw (others a (λ e. omega (arith, e)), past f g (a + 1) b n (omega arith) others) refl

-- one place changes, and at all others the two functions agree
pub set_range : {X : Type 0} (f g : ℕ → X) (x : X) (a n j b : ℕ) → b ≡ a + j → j < n → g b ≡ x → ((i : ℕ) → i ≢ b → g i ≡ f i) → slice_set (map f (range_with_len a n)) j x ≡ map g (range_with_len a n)
set_range f g x a zero j b at lt here others = absurd (omega (arith, lt))
set_range f g x a (suc n) zero b at lt here others =
    let e : b ≡ a = omega (arith, at) in
    ap (λ y. y ∷ map f (range_with_len (a + 1) n)) (sym here ∙ ap g e) ∙ ap (λ l. g a ∷ l) (past f g (a + 1) b n (omega (arith, e)) others)
set_range f g x a (suc n) (suc j) b at lt here others =
    ap (λ y. y ∷ slice_set (map f (range_with_len (a + 1) n)) j x) (sym (others a (λ e. omega (arith, e, at))))
    ∙ ap (λ l. g a ∷ l) (set_range f g x (a + 1) n j b (omega (arith, at)) (omega (arith, lt)) here others)

-- a map over a list with one element changed
pub map_set : {V X : Type 0} (f : V → X) (xs : List V) (i : ℕ) (v : V) → map f (slice_set xs i v) ≡ slice_set (map f xs) i (f v)
map_set f [] i v = refl
map_set f (x ∷ xs) zero v = refl
map_set f (x ∷ xs) (suc i) v = ap (λ l. f x ∷ l) (map_set f xs i v)

-- the record is of part i or not, by the shard of its value
one_more : (column n i : ℕ) (rs : List Record) (r : Record) (v : Datum) (b : Bool) → slice_get r.row column ≡ Some v → (shard v n == i) ≡ b → records_for column n i (rs ++ r ∷ []) ≡ records_for column n i rs ++ cond b (r ∷ []) []
one_more column n i rs r v b at is =
    let e : has_shard column n i r.row ≡ b = ap (passes (λ x. shard x n == i)) at ∙ is in
    filter-append (λ (x : Record). has_shard column n i x.row) rs (r ∷ []) ∙ ap (λ c. records_for column n i rs ++ cond c (r ∷ []) []) e

-- the record comes to its part, behind the others
pub put_there : {V : Type 0} (items : V → List Record) (old : List V) (column n part : ℕ) (rs : List Record) (r : Record) (v : Datum) (now : V) → slice_get r.row column ≡ Some v → part ≡ shard v n → part < n → map items old ≡ parts_by column n rs
    → items now ≡ records_for column n part rs ++ r ∷ [] → map items (slice_set old part now) ≡ parts_by column n (rs ++ r ∷ [])
put_there items old column n part rs r v now at is lt before here =
    map_set items old part now ∙ ap (λ l. slice_set l part (items now)) before
    ∙ set_range (λ j. records_for column n j rs) (λ j. records_for column n j (rs ++ r ∷ [])) (items now) 0 n part part (omega arith) lt
    (one_more column n part rs r v true at (eq-eqb (shard v n) part (sym is)) ∙ sym here)
    (λ i ne. one_more column n i rs r v false at (ne_eqb (shard v n) i (λ e. ne (sym e ∙ sym is))) ∙ append-nil (records_for column n i rs))

-- what a part has before
pub part_is : {V : Type 0} (items : V → List Record) (old : List V) (column n part : ℕ) (rs : List Record) (was : V) → part < length old → length old ≡ n → map items old ≡ parts_by column n rs → items (get_or old part was) ≡ records_for column n part rs
part_is items old column n part rs was lt is before =
    sym (get_or-map items old part was (items was) lt) ∙ ap (λ l. get_or l part (items was)) before
    ∙ get_or-map-range_with_len (λ j. records_for column n j rs) 0 n part part (items was) (omega (arith, lt, is)) (omega arith)
