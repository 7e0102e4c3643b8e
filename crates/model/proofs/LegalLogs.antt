-- In a legal history each entry of each log fits its table, and no log is longer than a log may be.
use Rattle.std.proofs.Common.{◌≡◌, ℕ, zero, suc, ◌<◌, ◌≤◌, ◌==◌, Bool, true, false, cond, List, [], ◌∷◌, ◌++◌, take, length, refl, subst, arith, append_assoc, append-nil, length-append}
use Rattle.std.specs.List.{list_all}
use Rattle.std.proofs.lemmas.Bool.Decides.{nat_tests}
use Rattle.plan.specs.Layouts.{Layout}
use Rattle.plan.proofs.Both.{and_both, and_left, and_right}
use Rattle.model.specs.Logs.{fits}
use Rattle.model.specs.Places.{layout_of}
use Rattle.model.specs.Histories.{Item, write, read, fence, entry_in, log_of}
use Rattle.model.specs.Legal.{limit, IsLegalAfter}
use Rattle.model.proofs.Growth.{log_more}

pub all_take : {X : Type 0} (q : X → Bool) (n : ℕ) (xs : List X) → list_all q xs ≡ true → list_all q (take n xs) ≡ true
all_take q zero xs h = refl
all_take q (suc n) [] h = refl
all_take q (suc n) (x ∷ xs) h = and_both (q x) (list_all q (take n xs)) (and_left (q x) (list_all q xs) h) (all_take q n xs (and_right (q x) (list_all q xs) h))

pub legal_fits : (p : Layout) (n b : ℕ) (past h : List Item) → IsLegalAfter p n past h → list_all (fits (layout_of p b)) (log_of b h) ≡ true
legal_fits p n b past [] legal = refl
legal_fits p n b past (write s m c e ∷ rest) legal = step (legal_fits p n b (past ++ write s m c e ∷ []) rest legal.1) (c == b) refl
  where
    step : list_all (fits (layout_of p b)) (log_of b rest) ≡ true → (o : Bool) → (c == b) ≡ o → list_all (fits (layout_of p b)) (cond o (e ∷ []) [] ++ log_of b rest) ≡ true
    step others true is =
        let same : c ≡ b = grind (arith, nat_tests) in
        and_both (fits (layout_of p b) e) (list_all (fits (layout_of p b)) (log_of b rest)) (subst (λ (x : ℕ). fits (layout_of p x) e ≡ true) same legal.0.fits) others
    step others false is = others
legal_fits p n b past (read s i k rows cut ∷ rest) legal = legal_fits p n b (past ++ read s i k rows cut ∷ []) rest legal.1
legal_fits p n b past (fence s own floors ∷ rest) legal = legal_fits p n b (past ++ fence s own floors ∷ []) rest legal.1

same_log : (b : ℕ) (past : List Item) (i : Item) (most : ℕ) → entry_in b i ≡ [] → length (log_of b past) ≤ most → length (log_of b (past ++ i ∷ [])) ≤ most
same_log b past i most none le = rw (log_more b past (i ∷ []), none, append-nil (log_of b past)) le

pub legal_room : (p : Layout) (n b : ℕ) (past h : List Item) → IsLegalAfter p n past h → length (log_of b past) ≤ limit → length (log_of b (past ++ h)) ≤ limit
legal_room p n b past [] legal le = rw (append-nil past) le
legal_room p n b past (write s m c e ∷ rest) legal le =
    rw (← append_assoc past (write s m c e ∷ []) rest) (legal_room p n b (past ++ write s m c e ∷ []) rest legal.1 (step (c == b) refl))
  where
    step : (o : Bool) → (c == b) ≡ o → length (log_of b (past ++ write s m c e ∷ [])) ≤ limit
    step true is =
        let same : c ≡ b = grind (arith, nat_tests) in
        let room : length (log_of b past) < limit = subst (λ (x : ℕ). length (log_of x past) < limit) same legal.0.room in
        rw (log_more b past (write s m c e ∷ []), is, length-append (log_of b past) (e ∷ [])) (omega (arith, room))
    step false is = same_log b past (write s m c e) limit (rw is refl) le
legal_room p n b past (read s i k rows cut ∷ rest) legal le =
    rw (← append_assoc past (read s i k rows cut ∷ []) rest) (legal_room p n b (past ++ read s i k rows cut ∷ []) rest legal.1 (same_log b past (read s i k rows cut) limit refl le))
legal_room p n b past (fence s own floors ∷ rest) legal le =
    rw (← append_assoc past (fence s own floors ∷ []) rest) (legal_room p n b (past ++ fence s own floors ∷ []) rest legal.1 (same_log b past (fence s own floors) limit refl le))
