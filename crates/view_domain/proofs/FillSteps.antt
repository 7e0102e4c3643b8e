-- A piece that comes, and keys that are made holes.
use Rattle.std.proofs.Common.{◌≡◌, ℕ, suc, ◌+◌, ◌-◌, ◌<◌, true, false, List, [], ◌∷◌, Some, None, slice_get, map, drop, Result, Ok, Err, OnOk, is_some, refl, ap, sym, ◌∙◌, arith}
use Rattle.row.specs.Cells.{Cells, datum_of}
use Rattle.row.specs.Groups.{equal}
use Rattle.row.specs.declared.value.Value.{Value}
use Rattle.partial.specs.States.{State, Hole, Waiting, Filled, IsApart, state_of, entry_of, order_of, after_piece, fills, OthersStay}
use Rattle.partial.specs.Sums.{sum_of_bags}
use Rattle.packet.specs.Keys.{Keys, stands_of, open_at}
use Rattle.protocol.specs.ViewSteps.{shrink, oldest_open}
use Rattle.packet.proofs.KeySteps.{Store, first_opened}

pub always : {A B : Type 0} {P : Type 0} (r : Result A B) → P → OnOk r P
always (Ok a) p = p
always (Err e) p = tt

-- ---- a piece
pub piece_same : (s : ℕ) (p : List Cells) (st : State (List Cells)) → fills s p st ≡ false → entry_of (after_piece sum_of_bags s p st) ≡ entry_of st
piece_same s p Hole h = refl
piece_same s p (Waiting pieces) h = rw h refl
piece_same s p (Filled e) h = refl

pub piece_some : (s : ℕ) (p : List Cells) (st : State (List Cells)) → fills s p st ≡ true → is_some (entry_of (after_piece sum_of_bags s p st)) ≡ true
piece_some s p Hole h = cc
piece_some s p (Waiting pieces) h = rw h refl
piece_some s p (Filled e) h = cc

-- ---- the key that was filled first
module _ (old new : Store) (k : Value) where
  first_open : (xs : List Value) (keys : Keys) → Some k ≡ slice_get xs 0 → oldest_open (map datum_of xs) keys ≡ open_at (datum_of k) keys
  first_open [] keys h = cc
  first_open (x ∷ xs) keys h = let e : k ≡ x = cc in rw e refl

  pub oldest_is : IsApart equal old → Some k ≡ slice_get (order_of old) 0 → state_of equal new k ≡ Hole → OthersStay equal k old new → order_of new ≡ drop 1 (order_of old) → stands_of new ≡ oldest_open (stands_of old).order (stands_of old)
  oldest_is apart first own others o = first_opened old new k apart first own others o ∙ sym (first_open (order_of old) (stands_of old) first)

none_open : (xs : List Value) (keys : Keys) → None ≡ slice_get xs 0 → oldest_open (map datum_of xs) keys ≡ keys
none_open [] keys h = refl
none_open (x ∷ xs) keys h = cc

pub none_is : (old new : Store) → None ≡ slice_get (order_of old) 0 → new ≡ old → stands_of new ≡ oldest_open (stands_of old).order (stands_of old)
none_is old new first e = ap stands_of e ∙ sym (none_open (order_of old) (stands_of old) first)

-- ---- what is left of a cap
pub shrink_less : (n i : ℕ) (mid new done : Keys) → i < n → new ≡ oldest_open mid.order mid → shrink (n - i) mid ≡ done → shrink (n - (i + 1)) new ≡ done
shrink_less n i mid new done small e h = let less : n - i ≡ suc (n - (i + 1)) = omega (arith, small) in ap (shrink (n - (i + 1))) e ∙ rw less at h
