-- Places in lists of the program's values.
use Rattle.std.proofs.Common.{◌≡◌, ℕ, ◌+◌, Bool, List, [], ◌∷◌, ◌++◌, map, length, position, replicate, Option, Some, None, unwrap_or, refl, ap, sym, ◌∙◌}
use Rattle.std.specs.List.{position_or_len, range_with_len}
use Rattle.std.proofs.lemmas.List.{length-map, map-append}
use Rattle.plan.proofs.Ranges.{put_more}
use Rattle.protocol.specs.Edges.{place_or}

or_len_map : {X Y : Type 0} (test : Y → Bool) (f : X → Y) (xs : List X) → position_or_len test (map f xs) ≡ position_or_len (λ x. test (f x)) xs
or_len_map test f [] = refl
or_len_map test f (x ∷ xs) = rw (or_len_map test f xs) refl

-- a place among images is one among those that they are of
pub position_map : {X Y : Type 0} (test : Y → Bool) (f : X → Y) (xs : List X) → position test (map f xs) ≡ position (λ x. test (f x)) xs
position_map test f xs = rw (or_len_map test f xs, length-map xs f) refl

-- one more, as its image
pub put_image : {X Y : Type 0} (view : X → Y) (f : ℕ → Y) (old now then : List X) (x : X) (n : ℕ) → map view now ≡ map view old ++ map f (range_with_len 0 n) → view x ≡ f n → then ≡ now ++ x ∷ []
    → map view then ≡ map view old ++ map f (range_with_len 0 (n + 1))
put_image view f old now then x n before is put =
    put_more f (map view old) (map view now) (map view then) n before (ap (map view) put ∙ map-append view now (x ∷ []) ∙ ap (λ y. map view now ++ y ∷ []) is)

-- a place that is found, or the first
pub or_first : (o : Option ℕ) → unwrap_or o 0 ≡ place_or o
or_first None = refl
or_first (Some n) = refl

const_map : {X Y : Type 0} (y : Y) (xs : List X) → map (λ x. y) xs ≡ replicate (length xs) y
const_map y [] = refl
const_map y (x ∷ xs) = ap (λ l. y ∷ l) (const_map y xs)

-- the same for each of them
pub filled : {X Y Z : Type 0} (view : X → Z) (y : Y) (xs : List X) (zs : List Z) (out : List Y) (n : ℕ) → map view xs ≡ zs → length xs ≡ n → out ≡ replicate n y → out ≡ map (λ z. y) zs
filled view y xs zs out n are size is =
    is ∙ ap (λ k. replicate k y) (sym size ∙ (sym (length-map xs view) ∙ ap length are)) ∙ sym (const_map y zs)
