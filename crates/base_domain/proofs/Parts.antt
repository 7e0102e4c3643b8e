-- The packets of an entry, part by part.
use Rattle.std.proofs.Common.{◌≡◌, ℕ, ◌+◌, ◌<◌, List, [], ◌∷◌, ◌++◌, map, length, length-append, get_or, Option, Some, None, refl, ap, sym, ◌∙◌, subst, arith}
use Rattle.std.specs.List.{range_with_len}
use Rattle.std.proofs.lemmas.List.FromFn.{length-range_with_len}
use Rattle.row.specs.declared.record.Record.{Record}
use Rattle.model.specs.Fronts.{LogView}
use Rattle.packet.specs.Messages.{BasePacketView, none_of}
use Rattle.packet.specs.Codes.{packet_of}
use Rattle.packet.specs.Truth.{IsTrueBase}
use Rattle.base_domain.specs.Told.{part_packet, told}
use Rattle.packet.proofs.Sends.{each_one}

at_end : {X : Type 0} (done : List X) (x : X) (rest : List X) (d : X) → get_or (done ++ x ∷ rest) (length done) d ≡ x
at_end [] x rest d = refl
at_end (y ∷ ys) x rest d = at_end ys x rest d

-- the next part: those done, it, the rest
pub part_at : {X : Type 0} (done : List X) (x : X) (rest all : List X) (i : ℕ) (d : X) → i ≡ length done → done ++ x ∷ rest ≡ all → get_or all i d ≡ x
part_at done x rest all i d at whole = ap (λ l. get_or l i d) (sym whole) ∙ ap (λ k. get_or (done ++ x ∷ rest) k d) at ∙ at_end done x rest d

pub part_lt : {X : Type 0} (done : List X) (x : X) (rest all : List X) (i : ℕ) → i ≡ length done → done ++ x ∷ rest ≡ all → i < length all
part_lt done x rest all i at whole = let e : length (done ++ x ∷ rest) ≡ length all = ap length whole in omega (arith, length-append done (x ∷ rest), e, at)

pub count_more : {X : Type 0} (done : List X) (x : X) (i : ℕ) → i ≡ length done → i + 1 ≡ length (done ++ x ∷ [])
count_more done x i at = omega (arith, length-append done (x ∷ []), at)

-- a front that says the same has its packet
pub part_is : (l m : LogView) (from i : ℕ) (all : List (List Record)) (x : List Record) → m ≡ l → get_or all i [] ≡ x → packet_of i from m x None None ≡ part_packet l from all i
part_is l m from i all x e at = ap (λ k. packet_of i from k x None None) e ∙ ap (λ y. packet_of i from l y None None) (sym at)

pub part_true : (l m : LogView) (from i : ℕ) (all : List (List Record)) (x : List Record) → m ≡ l → get_or all i [] ≡ x → IsTrueBase (part_packet l from all i) → IsTrueBase (packet_of i from m x None None)
part_true l m from i all x e at h = subst IsTrueBase (sym (part_is l m from i all x e at)) h

-- ---- all of them
pub told_some : (l : LogView) (from n m : ℕ) (o : Option (List (List Record))) (v : List (List Record)) (xs : List BasePacketView) (sent : List (List BasePacketView)) → o ≡ Some v → xs ≡ map (part_packet l from v) (range_with_len 0 m) → m ≡ n → sent ≡ map (λ x. x ∷ []) xs → sent ≡ told l from o n
told_some l from n m o v xs sent some is count each = rw some (each ∙ each_one (part_packet l from v) m xs is ∙ ap (λ k. map (λ j. part_packet l from v j ∷ []) (range_with_len 0 k)) count)

same_none : {X Y : Type 0} (xs : List X) (ys : List Y) → length xs ≡ length ys → none_of {X = BasePacketView} xs ≡ none_of ys
same_none [] [] h = refl
same_none [] (y ∷ ys) h = absurd (omega (arith, h))
same_none (x ∷ xs) [] h = absurd (omega (arith, h))
same_none (x ∷ xs) (y ∷ ys) h = ap (λ l. [] ∷ l) (same_none xs ys (omega (arith, h)))

-- none to any of n
pub none_to : {X : Type 0} (xs : List X) (n : ℕ) (sent : List (List BasePacketView)) → length xs ≡ n → sent ≡ none_of xs → sent ≡ none_of (range_with_len 0 n)
none_to xs n sent count none = none ∙ same_none xs (range_with_len 0 n) (count ∙ sym (length-range_with_len 0 n))

pub told_none : {X : Type 0} (l : LogView) (from n : ℕ) (o : Option (List (List Record))) (xs : List X) (sent : List (List BasePacketView)) → o ≡ None → length xs ≡ n → sent ≡ none_of xs → sent ≡ told l from o n
told_none l from n o xs sent are count none = rw are (none_to xs n sent count none)
