-- A step that only adds to what is shown, and shows what is true, keeps the rule.
use Rattle.std.proofs.Common.{◌≡◌, ℕ, ◌≢◌, List, set, refl, subst, ⊎_elim, Option, Some, None, IfSome, ◌∙◌}
use mathlib.Core.Option.{some}
use lib.ListN.{get_elem?}
use Rattle.left_right.specs.Register.{Admits, TurnsAt, Forks, Merges}
use Rattle.atomic_table.proofs.Lists.{at_set, at_snoc}
use Rattle.plan.specs.Layouts.{Layout}
use Rattle.model.proofs.Growth.{at_most_self, at_most_trans}
use Rattle.shown.specs.Snapshots.{Snapshot, IsLater, IsTrue}
use Rattle.shown.specs.Sights.{Keeps, Sees, IsOf, seen_or, nothing}

pub later_self : (s : Snapshot) → IsLater s s
later_self s = record { view = refl; shard = refl; cut = at_most_self s.lengths }

pub later_trans : (r s t : Snapshot) → IsLater r s → IsLater s t → IsLater r t
later_trans r s t a b = record { view = b.view ∙ a.view; shard = b.shard ∙ a.shard; cut = at_most_trans r.lengths s.lengths t.lengths a.cut b.cut }

later_than : (v : Option Snapshot) (x y : Snapshot) → IsLater x y → IfSome v (λ s. IsLater s x) → IfSome v (λ s. IsLater s y)
later_than None x y up h = tt
later_than (Some s) x y up h = later_trans s x y h up

module _ (p : Layout) where
  pub admits : Admits (Keeps p) None
  admits x sights h = record {
    truth = h.truth;
    later = λ seat v at. ⊎_elim (h.later seat v) (λ (e : None ≡ v). subst (λ (u : Option Snapshot). IfSome u (λ s. IsLater s x)) e tt) (at_snoc sights None v seat at);
  }

  pub rises : (seat : ℕ) (v : Option Snapshot) (x y : Snapshot) → IsLater x y → (IsTrue p x → IsTrue p y) → TurnsAt (Keeps p) seat v x y (λ v x y w. Sees p v y w)
  rises seat v x y up is sights h at = (
    Some y,
    record {
      truth = is h.truth;
      later = λ j u e. ⊎_elim (λ (t : (j ≡ seat) × (Some y ≡ u)). subst (λ (z : Option Snapshot). IfSome z (λ s. IsLater s y)) t.1 (later_self y)) (λ (t : (j ≢ seat) × (get_elem? sights j ≡ some u)). later_than u x y up (h.later j u t.1))
          (at_set sights seat j (Some y) u e);
    },
    record { truth = is h.truth; later = later_than v x y up (h.later seat v at); seen = refl },
  )

  -- ---- what the writer tells
  set_kept : (x : Snapshot) (sights : List (Option Snapshot)) (seat : ℕ) (v : Option Snapshot) → Keeps p x sights → IfSome v (λ s. IsLater s x) → Keeps p x (set sights seat v)
  set_kept x sights seat v h low = record {
    truth = h.truth;
    later = λ j u e. ⊎_elim (λ (t : (j ≡ seat) × (v ≡ u)). subst (λ (z : Option Snapshot). IfSome z (λ s. IsLater s x)) t.1 low) (λ (t : (j ≢ seat) × (get_elem? sights j ≡ some u)). h.later j u t.1) (at_set sights seat j v u e);
  }

  pub forks : (seat : ℕ) (v : Option Snapshot) → Forks (Keeps p) seat v v v
  forks seat v x sights h at = record {
    truth = h.truth;
    later = λ j u e. ⊎_elim ((set_kept x sights seat v h (h.later seat v at)).later j u) (λ (same : v ≡ u). subst (λ (z : Option Snapshot). IfSome z (λ s. IsLater s x)) same (h.later seat v at)) (at_snoc (set sights seat v) v u j e);
  }

  pub merges : (seat : ℕ) (v : Option Snapshot) (other : ℕ) (w : Option Snapshot) → Merges (Keeps p) seat v other w w None
  merges seat v other w x sights h at apart there =
      let b : IfSome w (λ s. IsLater s x) = ⊎_elim (λ (t : (other ≡ seat) × (w ≡ w)). absurd (apart t.0)) (λ (t : (other ≢ seat) × (get_elem? sights other ≡ some w)). h.later other w t.1) (at_set sights seat other w w there) in
      set_kept x (set sights seat w) other None (set_kept x sights seat w h b) tt

-- ---- what a look leaves a reader with
pub of_later : (p : Layout) (view shard : ℕ) (v w : Option Snapshot) (y : Snapshot) → IsOf view shard v → Sees p v y w → IsOf view shard w × IsLater (seen_or nothing v) (seen_or nothing w) × (seen_or nothing w ≡ y)
of_later p view shard None w y o h = absurd o
of_later p view shard (Some s) w y o h = rw h.seen ((h.later.view ∙ o.0, h.later.shard ∙ o.1), h.later, refl)
