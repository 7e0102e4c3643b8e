-- What is kept at each key after a call that changes one.
use Rattle.std.proofs.Common.{◌≡◌, ℕ, Bool, true, false, cond, List, [], ◌∷◌, is_some, Bor, Option, Some, None, slice_get, length, drop, refl, ap, sym, ◌∙◌, subst}
use Rattle.std.specs.Prelude.{IsSome}
use Rattle.std.specs.Map.{lookup, keys_of}
use Rattle.std.specs.Option.{option_copied}
use Rattle.std.specs.Set.{remove_key}
use Rattle.row.specs.Cells.{Datum, Cells, datum_of, same}
use Rattle.row.specs.Groups.{equal}
use Rattle.row.specs.declared.value.Value.{Value}
use Rattle.row.proofs.Cellwise.{eq-value_is}
use Rattle.row.proofs.Keys.{equal_is, equal_itself}
use Rattle.partial.specs.States.{State, Hole, Waiting, Filled, Kept, IsApart, state_of, state_from, order_of, is_hole, begun, after_piece, evicted, OthersStay}
use Rattle.partial.specs.Sums.{sum_of_bags}
use Rattle.partial.specs.Truth.{IsTrueOf}
use Rattle.partial.proofs.Truth.{begin_keeps, piece_keeps, evict_keeps}
use Rattle.packet.specs.Keys.{stand_of, stands_of, open_at}
use Rattle.packet.proofs.KeptKeys.{stand_is, evict_is}

abbrev pub Store : Type 0
Store = Kept Value (List Cells)

abbrev State-at : Store → Datum → State (List Cells)
State-at kept d = state_from (lookup (λ y. same d (datum_of y)) kept.waiting) (lookup (λ y. same d (datum_of y)) kept.filled)

state_is : (kept : Store) (key : Value) → state_of equal kept key ≡ State-at kept (datum_of key)
state_is kept key = λ i. state_from (lookup (λ y. eq-value_is key y i) kept.waiting) (lookup (λ y. eq-value_is key y i) kept.filled)

-- equal values have the same
pub state_same : (kept : Store) (x y : Value) → equal x y ≡ true → state_of equal kept x ≡ state_of equal kept y
state_same kept x y h = state_is kept x ∙ (ap (State-at kept) (equal_is x y h) ∙ sym (state_is kept y))

module _ (old new : Store) (key : Value) (others : OthersStay equal key old new) where
  -- the key's state is changed by f, all others stay
  pub one_key : (f : State (List Cells) → State (List Cells)) → state_of equal new key ≡ f (state_of equal old key)
      → (k : Value) → state_of equal new k ≡ cond (same (datum_of key) (datum_of k)) (f (state_of equal old k)) (state_of equal old k)
  one_key f own k = rw (← eq-value_is key k) (step (equal key k) refl)
    where
      step : (b : Bool) → equal key k ≡ b → state_of equal new k ≡ cond b (f (state_of equal old k)) (state_of equal old k)
      step true e = sym (state_same new key k e) ∙ (own ∙ ap f (state_same old key k e))
      step false e = others k e

-- ---- a key that begins to wait
hole_at : (st : State (List Cells)) → is_hole (stand_of st) ≡ is_hole st
hole_at Hole = refl
hole_at (Waiting pieces) = refl
hole_at (Filled e) = refl

pub hole_is : (kept : Store) (copy key : Value) → datum_of copy ≡ datum_of key → is_hole ((stands_of kept).at (datum_of key)) ≡ is_hole (state_of equal kept copy)
hole_is kept copy key e = ap (λ d. is_hole ((stands_of kept).at d)) (sym e) ∙ (ap is_hole (stand_is kept copy) ∙ hole_at (state_of equal kept copy))

pub begun_true : (old new : Store) (key : Value) (n : ℕ) → state_of equal new key ≡ begun n (state_of equal old key) → OthersStay equal key old new
    → (k : Value) (parts : List (List Cells)) → length parts ≡ n → IsTrueOf sum_of_bags parts (state_of equal old k) → IsTrueOf sum_of_bags parts (state_of equal new k)
begun_true old new key n own others k parts count t = rw (one_key old new key others (begun n) own k) (step (same (datum_of key) (datum_of k)))
  where
    step : (b : Bool) → IsTrueOf sum_of_bags parts (cond b (begun n (state_of equal old k)) (state_of equal old k))
    step true = subst (λ m. IsTrueOf sum_of_bags parts (begun m (state_of equal old k))) count (begin_keeps sum_of_bags parts (state_of equal old k) t)
    step false = t

-- ---- a piece
pub piece_true : (s : ℕ) (rows : List Cells) (key : Value) (old new : Store) → state_of equal new key ≡ after_piece sum_of_bags s rows (state_of equal old key) → OthersStay equal key old new
    → (k : Value) (parts : List (List Cells)) → (equal key k ≡ true → slice_get parts s ≡ Some rows) → IsTrueOf sum_of_bags parts (state_of equal old k) → IsTrueOf sum_of_bags parts (state_of equal new k)
piece_true s rows key old new given others k parts here t = step (equal key k) refl
  where
    step : (b : Bool) → equal key k ≡ b → IsTrueOf sum_of_bags parts (state_of equal new k)
    step true e =
        let own : state_of equal new k ≡ after_piece sum_of_bags s rows (state_of equal old k) = sym (state_same new key k e) ∙ (given ∙ ap (after_piece sum_of_bags s rows) (state_same old key k e)) in
        rw own (piece_keeps sum_of_bags parts s rows (state_of equal old k) (here e) t)
    step false e = rw (others k e) t

-- ---- a hole
pub opened_true : (key : Value) (old new : Store) → state_of equal new key ≡ evicted None (state_of equal old key) → OthersStay equal key old new
    → (k : Value) (parts : List (List Cells)) → IsTrueOf sum_of_bags parts (state_of equal old k) → IsTrueOf sum_of_bags parts (state_of equal new k)
opened_true key old new own others k parts t = rw (one_key old new key others (evicted None) own k) (step (same (datum_of key) (datum_of k)))
  where
    step : (b : Bool) → IsTrueOf sum_of_bags parts (cond b (evicted None (state_of equal old k)) (state_of equal old k))
    step true = evict_keeps sum_of_bags parts None [] (state_of equal old k) t
    step false = t

-- ---- the key that was filled first
module _ (old new : Store) (k : Value) where
  first_removed : (xs : List Value) → Some k ≡ slice_get xs 0 → drop 1 xs ≡ remove_key (equal k) xs
  first_removed [] h = cc
  first_removed (x ∷ xs) h = let e : k ≡ x = cc in rw (← e, equal_itself k) refl

  first_found : (es : List (Value × List Cells)) → Some k ≡ slice_get (keys_of es) 0 → IsSome (lookup (equal k) es)
  first_found [] h = cc
  first_found (x ∷ xs) h = let e : k ≡ x.0 = cc in rw (← e, equal_itself k) refl

  filled_opened : (e : Option (List Cells)) → IsSome e → Hole ≡ evicted None (state_from None e)
  filled_opened None h = cc
  filled_opened (Some e) h = refl

  pub first_opened : IsApart equal old → Some k ≡ slice_get (order_of old) 0 → state_of equal new k ≡ Hole → OthersStay equal k old new → order_of new ≡ drop 1 (order_of old) → stands_of new ≡ open_at (datum_of k) (stands_of old)
  first_opened apart first own others o =
      let there : IsSome (lookup (equal k) old.filled) = first_found old.filled first in
      let now : state_of equal new k ≡ evicted None (state_of equal old k) = own ∙ (filled_opened (lookup (equal k) old.filled) there ∙ ap (λ w. evicted None (state_from w (lookup (equal k) old.filled))) (sym (apart k there))) in
      evict_is old new k others None now (o ∙ first_removed (order_of old) first)

-- ---- an entry that is borrowed
pub copied_some : {X : Type 0} (o : Option (Bor X)) → is_some o ≡ is_some (option_copied o)
copied_some None = refl
copied_some (Some x) = refl
