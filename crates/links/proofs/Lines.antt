-- When a message waits on some edge.
use Rattle.std.proofs.Common.{◌≡◌, ℕ, Bool, true, false, zero, suc, ◌<◌, List, [], ◌∷◌, length, replicate, refl, ap, sym, ◌∙◌, arith}
use Rattle.links.specs.Queued.{holds_any, put_on}

none_of : (X : Type 0) (edges : ℕ) → holds_any {X = X} (replicate edges []) ≡ false
none_of X zero = refl
none_of X (suc edges) = none_of X edges

module _ {X : Type 0} where
  -- new queues have none
  pub none_new : (queues : List (List X)) (edges : ℕ) → queues ≡ replicate edges [] → false ≡ holds_any queues
  none_new queues edges h = sym (ap holds_any h ∙ none_of X edges)

  -- a put leaves a message
  put_found : (queues : List (List X)) (edge : ℕ) (x : X) → edge < length queues → holds_any (put_on queues edge x) ≡ true
  put_found [] edge x lt = absurd (omega (arith, lt))
  put_found ([] ∷ queues) zero x lt = refl
  put_found ((y ∷ ys) ∷ queues) zero x lt = refl
  put_found ([] ∷ queues) (suc edge) x lt = put_found queues edge x (omega (arith, lt))
  put_found ((y ∷ ys) ∷ queues) (suc edge) x lt = refl

  pub put_filled : (queues now : List (List X)) (edge : ℕ) (x : X) (filled : Bool) → edge < length queues → filled ≡ true → now ≡ put_on queues edge x → filled ≡ holds_any now
  put_filled queues now edge x filled lt is put = is ∙ sym (ap holds_any put ∙ put_found queues edge x lt)
