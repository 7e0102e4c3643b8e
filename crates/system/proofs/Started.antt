-- A list that is worked off from its beginning.
use Rattle.std.proofs.Common.{◌≡◌, ℕ, ◌+◌, ◌<◌, List, length, drop, get_or, ap, sym, ◌∙◌, add-zero}
use Rattle.std.proofs.lemmas.List.{drop_more, get_or-drop}

pub next_is : {A : Type 0} (xs rest : List A) (i : ℕ) (x : A) → rest ≡ drop i xs → x ≡ get_or rest 0 x → get_or xs i x ≡ x
next_is xs rest i x is at = sym (at ∙ (ap (λ l. get_or l 0 x) is ∙ (get_or-drop i xs 0 x ∙ ap (λ n. get_or xs n x) (add-zero i))))

-- without it the rest is left
pub rest_left : {A : Type 0} (xs rest : List A) (i : ℕ) (x : A) → rest ≡ drop i xs → i < length xs → drop 1 rest ≡ drop (i + 1) xs
rest_left xs rest i x is lt = ap (drop 1) (is ∙ drop_more xs i x lt)
