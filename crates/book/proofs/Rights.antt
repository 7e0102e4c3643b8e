-- What a book hands out: one more at a time, and then one by one.
use Rattle.std.proofs.Common.{◌≡◌, ℕ, zero, suc, ◌+◌, ◌<◌, List, [], ◌∷◌, ◌++◌, length, map, slice_index_or, refl, sym, ◌∙◌, subst, arith}
use Rattle.std.specs.List.{range_with_len}
use Rattle.std.proofs.lemmas.List.FromFn.{map-range_with_len_more}
use Rattle.row.specs.Bags.{Each}
use Rattle.book.specs.Fronts.{FrontView}
use Rattle.book.specs.Sessions.{SessionView}
use Rattle.book.specs.Rights.{empty_front, empty_fronts, IsFresh, AreFresh}

-- ---- logs
pub logs_more : (n : ℕ) → empty_fronts (n + 1) ≡ empty_fronts n ++ empty_front n ∷ []
logs_more n = map-range_with_len_more empty_front 0 n n (omega arith)

each_empty : (s n : ℕ) → Each (λ (f : FrontView). f.len ≡ 0) (map empty_front (range_with_len s n))
each_empty s zero = tt
each_empty s (suc n) = (refl, each_empty (s + 1) n)

-- each log that a book hands out is empty
pub logs_empty : (n : ℕ) (fs : List FrontView) → fs ≡ empty_fronts n → Each (λ (f : FrontView). f.len ≡ 0) fs
logs_empty n fs is = subst (Each (λ (f : FrontView). f.len ≡ 0)) (sym is) (each_empty 0 n)

-- ---- sessions
pub fresh_more : (s n : ℕ) (xs : List SessionView) (x : SessionView) → s + length xs ≡ n → AreFresh s xs → IsFresh n x → AreFresh s (xs ++ x ∷ [])
fresh_more s n [] x is all one = (subst (λ k. IsFresh k x) (sym is ∙ omega arith) one, tt)
fresh_more s n (y ∷ ys) x is all one = (all.0, fresh_more (s + 1) n ys x (omega (arith, is)) all.1 one)

pub fresh_first : (s : ℕ) (xs : List SessionView) (x : SessionView) → AreFresh s xs → 0 < length xs → x ≡ slice_index_or xs 0 x → IsFresh s x
fresh_first s [] x all lt is = absurd (omega (arith, lt))
fresh_first s (y ∷ ys) x all lt is = subst (IsFresh s) (sym is) all.0
