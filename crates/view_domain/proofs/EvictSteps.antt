-- Keys that are evicted one after the other: what is left to do.
use Rattle.std.proofs.Common.{◌≡◌, ℕ, Bool, true, false, cond, ◌++◌, List, [], ◌∷◌, map, append_assoc, refl, ap, sym, ◌∙◌, subst}
use Rattle.std.specs.Ordering.{is_eq}
use Rattle.std.specs.declared.cmp.Ordering.TheVariants.{Less}
use Rattle.row.specs.Bags.{Each}
use Rattle.row.specs.Cells.{Datum, Cells, datum_of, datum_cmp, same}
use Rattle.row.specs.Groups.{equal}
use Rattle.row.specs.declared.value.Value.{Value}
use Rattle.partial.specs.States.{State, Kept, state_of}
use Rattle.packet.specs.Keys.{Keys, Ascends, has_piece, stands_of, drop_at}
use Rattle.protocol.specs.ViewSteps.{drop_all, again}
use Rattle.view_domain.specs.Taken.{evicted_all}

-- a key that is evicted changes no other
again_apart : (s : ℕ) (d : Datum) (keys : Keys) (ds : List Datum) → Each (λ y. datum_cmp d y ≡ Less) ds → again s ds (drop_at s d keys) ≡ again s ds keys
again_apart s d keys [] h = refl
again_apart s d keys (y ∷ ys) h = (let e : same d y ≡ false = ap is_eq h.0 in rw e (ap (λ zs. cond (has_piece s (keys.at y)) (y ∷ zs) zs) (again_apart s d keys ys h.1)))

module _ (s : ℕ) (mid new : Kept Value (List Cells)) (rest left : List Value) (key : Value) (turn : rest ≡ key ∷ left) where
  pub drops_less : (done : Keys) → stands_of new ≡ drop_at s (datum_of key) (stands_of mid) → drop_all s (map datum_of rest) (stands_of mid) ≡ done → drop_all s (map datum_of left) (stands_of new) ≡ done
  drops_less done step h = ap (drop_all s (map datum_of left)) step ∙ (ap (λ xs. drop_all s (map datum_of xs) (stands_of mid)) (sym turn) ∙ h)

  pub evicted_less : (done : Value → State (List Cells)) → ((k : Value) → state_of equal new k ≡ evicted_all s (datum_of key ∷ []) (datum_of k) (state_of equal mid k))
      → ((k : Value) → evicted_all s (map datum_of rest) (datum_of k) (state_of equal mid k) ≡ done k) → (k : Value) → evicted_all s (map datum_of left) (datum_of k) (state_of equal new k) ≡ done k
  evicted_less done step h k = ap (evicted_all s (map datum_of left) (datum_of k)) (step k) ∙ (ap (λ xs. evicted_all s (map datum_of xs) (datum_of k) (state_of equal mid k)) (sym turn) ∙ h k)

  pub up_less : Ascends (map datum_of rest) → Ascends (map datum_of left)
  up_less h = (subst (λ xs. Ascends (map datum_of xs)) turn h).1

  pub asks_less : (before after all : List Datum) → Ascends (map datum_of rest) → stands_of new ≡ drop_at s (datum_of key) (stands_of mid) → after ≡ before ++ again s (datum_of key ∷ []) (stands_of mid)
      → before ++ again s (map datum_of rest) (stands_of mid) ≡ all → after ++ again s (map datum_of left) (stands_of new) ≡ all
  asks_less before after all up step now h =
      let apart = (subst (λ xs. Ascends (map datum_of xs)) turn up).0 in
      ap (λ a. a ++ again s (map datum_of left) (stands_of new)) now
      ∙ (append_assoc before (again s (datum_of key ∷ []) (stands_of mid)) (again s (map datum_of left) (stands_of new))
      ∙ (ap (λ a. before ++ a)
      (ap (λ ks. again s (datum_of key ∷ []) (stands_of mid) ++ again s (map datum_of left) ks) step
      ∙ (ap (λ zs. again s (datum_of key ∷ []) (stands_of mid) ++ zs) (again_apart s (datum_of key) (stands_of mid) (map datum_of left) apart)
      ∙ joins (has_piece s ((stands_of mid).at (datum_of key)))))
      ∙ (ap (λ xs. before ++ again s (map datum_of xs) (stands_of mid)) (sym turn) ∙ h)))
    where
      joins : (b : Bool) → cond b (datum_of key ∷ []) [] ++ again s (map datum_of left) (stands_of mid) ≡ cond b (datum_of key ∷ again s (map datum_of left) (stands_of mid)) (again s (map datum_of left) (stands_of mid))
      joins true = refl
      joins false = refl
