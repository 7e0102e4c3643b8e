-- What a base shard puts out is true.
use Rattle.std.proofs.Common.{◌≡◌, ℕ, ◌==◌, ◌≤◌, nat_lt, Bool, true, false, cond, ◌||◌, List, [], ◌∷◌, ◌++◌, filter, length, Option, Some, None, refl, ap, sym, ◌∙◌, subst, arith, zero, suc, append-nil, append_assoc, length-append, not, ◌+◌, map}
use Rattle.std.specs.List.{list_any, range_with_len}
use Rattle.row.specs.Cells.{Datum, Cells, cell_at, has, has_shard}
use Rattle.row.specs.Bags.{Each}
use Rattle.row.specs.Changes.{Turns}
use Rattle.row.specs.declared.refused.Refused.{Refused}
use Rattle.row.proofs.Shards.{same_is as same_key}
use Rattle.row.proofs.RecordLaws.{Turns-filter}
use Rattle.plan.specs.Layouts.{TableLayout, SideLayout, Layout, table_at}
use Rattle.model.specs.Logs.{Change, inserts, deletes, updates, rows_of, lawful, changed, lawful_over}
use Rattle.model.specs.Places.{layout_of, table_of}
use Rattle.model.specs.Legal.{limit}
use Rattle.model.specs.Refusals.{refusal}
use Rattle.model.proofs.LogLaws.{rows_of-push}
use Rattle.model.proofs.LegalSamples.{allowed}
use Rattle.base.specs.Records.{records_of}
use Rattle.base.proofs.Records.{TakesOne, turns_of}
use Rattle.packet.specs.Readers.{side_of, side_in, right_side}
use Rattle.packet.specs.Messages.{Ask, Mark, BasePacketView, none_of, to_one}
use Rattle.packet.specs.Truth.{IsTrueBase, rows_for}
use Rattle.protocol.specs.Bases.{Base, write, request, marker, next_of, ToBase}
use Rattle.protocol.specs.BaseSteps as on_base
use Rattle.protocol.specs.Laws.{EveryBasePacket, AreLawful}
use Rattle.protocol.proofs.Parts.{each_map_of}
use Rattle.protocol.proofs.Spots.{same_is}
use Rattle.model.proofs.Prefixes.{prefix_self}
use Rattle.std.proofs.lemmas.List.Elements.{filter-append}

-- ---- rows
-- no two rows have one key
abbrev AreApart : ℕ → List Cells → Type 0
AreApart key rows = (k : Datum) → length (filter (has key k) rows) ≤ 1

none_held : (test : Cells → Bool) (rows : List Cells) → not (list_any test rows) ≡ true → length (filter test rows) ≡ 0
none_held test [] h = refl
none_held test (x ∷ rows) h = by (test x) h (none_held test rows)
  where
    by : (b : Bool) → not (b || list_any test rows) ≡ true → (not (list_any test rows) ≡ true → length (filter test rows) ≡ 0) → length (cond b (x ∷ filter test rows) (filter test rows)) ≡ 0
    by true h rest = cc
    by false h rest = rest h

more_kept : (test : Cells → Bool) (rows : List Cells) (r : Cells) → length (filter test (rows ++ r ∷ [])) ≡ length (filter test rows) + length (filter test (r ∷ []))
more_kept test rows r = ap length (filter-append test rows (r ∷ [])) ∙ length-append (filter test rows) (filter test (r ∷ []))

fewer_kept : (test other : Cells → Bool) (rows : List Cells) → length (filter test (filter other rows)) ≤ length (filter test rows)
fewer_kept test other [] = omega arith
fewer_kept test other (x ∷ rows) = by (other x) (test x) refl (fewer_kept test other rows)
  where
    by : (b c : Bool) → test x ≡ c → length (filter test (filter other rows)) ≤ length (filter test rows) → length (filter test (cond b (x ∷ filter other rows) (filter other rows))) ≤ length (cond c (x ∷ filter test rows) (filter test rows))
    by true true e le = rw e (omega (arith, le))
    by true false e le = rw e le
    by false true e le = omega (arith, le)
    by false false e le = le

-- where what passes afterwards passed before
mapped_kept : (test : Cells → Bool) (f : Cells → Cells) → ((x : Cells) → test (f x) ≡ true → test x ≡ true) → (rows : List Cells) → length (filter test (map f rows)) ≤ length (filter test rows)
mapped_kept test f h [] = omega arith
mapped_kept test f h (x ∷ rows) = by (test (f x)) refl (test x) refl (mapped_kept test f h rows)
  where
    by : (b : Bool) → test (f x) ≡ b → (c : Bool) → test x ≡ c → length (filter test (map f rows)) ≤ length (filter test rows) → length (cond b (f x ∷ filter test (map f rows)) (filter test (map f rows))) ≤ length (cond c (x ∷ filter test rows) (filter test rows))
    by true e true g le = omega (arith, le)
    by true e false g le = absurd (let z = h x e in cc)
    by false e true g le = omega (arith, le)
    by false e false g le = le

-- a row with the key has it as its cell
own_key : (key : ℕ) (k : Datum) (r : Cells) → has key k r ≡ true → cell_at r key ≡ k
own_key zero k [] h = cc
own_key (suc key) k [] h = cc
own_key zero k (x ∷ r) h = same_key x k h
own_key (suc key) k (x ∷ r) h = own_key key k r h

inserted_apart : (key : ℕ) (rows : List Cells) (r : Cells) → AreApart key rows → not (list_any (has key (cell_at r key)) rows) ≡ true → AreApart key (rows ++ r ∷ [])
inserted_apart key rows r apart h k = by (has key k r) refl
  where
    by : (b : Bool) → has key k r ≡ b → length (filter (has key k) (rows ++ r ∷ [])) ≤ 1
    by true e =
        let none = none_held (has key k) rows (subst (λ z. not (list_any (has key z) rows) ≡ true) (own_key key k r e) h) in
        let one : length (filter (has key k) (r ∷ [])) ≡ 1 = rw e refl in
        omega (arith, more_kept (has key k) rows r, none, one)
    by false e =
        let one : length (filter (has key k) (r ∷ [])) ≡ 0 = rw e refl in
        omega (arith, more_kept (has key k) rows r, apart k, one)

kept_key : (key : ℕ) (k : Datum) (r x : Cells) → has key k (cond (has key (cell_at r key) x) r x) ≡ true → has key k x ≡ true
kept_key key k r x h = by (has key (cell_at r key) x) refl h
  where
    by : (b : Bool) → has key (cell_at r key) x ≡ b → has key k (cond b r x) ≡ true → has key k x ≡ true
    by true e h = subst (λ z. has key z x ≡ true) (own_key key k r h) e
    by false e h = h

changed_apart : (key : ℕ) (rows : List Cells) (e : Change) → AreApart key rows → lawful_over key rows e ≡ true → AreApart key (changed key rows e)
changed_apart key rows (inserts r) apart h k = inserted_apart key rows r apart h k
changed_apart key rows (deletes d) apart h k = omega (arith, fewer_kept (has key k) (λ x. not (has key d x)) rows, apart k)
changed_apart key rows (updates r) apart h k = omega (arith, mapped_kept (has key k) (λ x. cond (has key (cell_at r key) x) r x) (kept_key key k r) rows, apart k)

-- a lawful log has no two rows of one key
log_apart : (key : ℕ) (front rest : List Change) → AreApart key (rows_of key front) → AreLawful key front rest → AreApart key (rows_of key (front ++ rest))
log_apart key front [] apart h = subst (λ l. AreApart key (rows_of key l)) (sym (append-nil front)) apart
log_apart key front (e ∷ rest) apart h =
    subst (λ l. AreApart key (rows_of key l)) (append_assoc front (e ∷ []) rest)
    (log_apart key (front ++ e ∷ []) rest (subst (AreApart key) (sym (rows_of-push key front e)) (changed_apart key (rows_of key front) e apart h.0)) h.1)

held_one : (test : Cells → Bool) (rows : List Cells) → list_any test rows ≡ true → 1 ≤ length (filter test rows)
held_one test [] h = cc
held_one test (x ∷ rows) h = by (test x) refl h (held_one test rows)
  where
    by : (b : Bool) → test x ≡ b → (b || list_any test rows) ≡ true → (list_any test rows ≡ true → 1 ≤ length (filter test rows)) → 1 ≤ length (cond b (x ∷ filter test rows) (filter test rows))
    by true e h rest = omega arith
    by false e h rest = rest h

exactly : (key : ℕ) (rows : List Cells) (k : Datum) → AreApart key rows → list_any (has key k) rows ≡ true → length (filter (has key k) rows) ≡ 1
exactly key rows k apart h = omega (arith, apart k, held_one (has key k) rows h)

takes_one : (key : ℕ) (entries : List Change) (e : Change) → AreApart key (rows_of key entries) → lawful key entries e ≡ true → TakesOne key (rows_of key entries) e
takes_one key entries (inserts r) apart h = tt
takes_one key entries (deletes k) apart h = exactly key (rows_of key entries) k apart h
takes_one key entries (updates r) apart h = exactly key (rows_of key entries) (cell_at r key) apart h

entry_turns : (key : ℕ) (entries : List Change) (e : Change) → AreApart key (rows_of key entries) → lawful key entries e ≡ true
    → Turns (rows_of key entries) (records_of key (rows_of key entries) e) (rows_of key (entries ++ e ∷ []))
entry_turns key entries e apart h = rw (rows_of-push key entries e) (turns_of key (rows_of key entries) e (takes_one key entries e apart h))

-- ---- the side of a base shard is of its table
side_table : (p : Layout) (t : ℕ) (side : SideLayout) → side_in p t ≡ Some side → side.table ≡ t
side_table p t side e = by (t == p.left.table) refl e
  where
    right : (o : Option SideLayout) → right_side t o ≡ Some side → side.table ≡ t
    right None e = cc
    right (Some x) e = inner (t == x.table) refl e
      where
        inner : (b : Bool) → (t == x.table) ≡ b → cond b (Some x) None ≡ Some side → side.table ≡ t
        inner true is e = let s : x ≡ side = cc in sym (ap (λ (y : SideLayout). y.table) s) ∙ sym (same_is t x.table is)
        inner false is e = cc

    by : (b : Bool) → (t == p.left.table) ≡ b → cond b (Some p.left) (right_side t p.right) ≡ Some side → side.table ≡ t
    by true is e = let s : p.left ≡ side = cc in sym (ap (λ (y : SideLayout). y.table) s) ∙ sym (same_is t p.left.table is)
    by false is e = right p.right e

-- ---- packets
still_true : (b : Base) (s : ℕ) (m : Mark) → IsTrueBase (on_base.still b s None (Some m))
still_true b s m = record { grows = prefix_self b.entries; turns = record { each = λ z. refl }; piece = tt; alone = tt; marker = record { front = refl; changes = refl } }

piece_true : (b : Base) (s : ℕ) (a : Ask) → IsTrueBase (on_base.still b s (Some (on_base.piece_for b s a)) None)
piece_true b s a = record { grows = prefix_self b.entries; turns = record { each = λ z. refl }; piece = refl; alone = record { front = refl; changes = refl }; marker = tt }

entry_true : (b : Base) (e : Change) (side : SideLayout) → side_of b.plan b.base ≡ Some side → AreApart (layout_of b.plan b.base).key (rows_of (layout_of b.plan b.base).key b.entries) → lawful (layout_of b.plan b.base).key b.entries e ≡ true
    → (s : ℕ) → IsTrueBase (on_base.entry_packet b e side s)
entry_true b e side is apart ok s =
    let p = b.plan in
    let of = has_shard side.key p.stages s in
    let key = (layout_of p b.base).key in
    let all = Turns-filter of (rows_of key b.entries) (records_of key (rows_of key b.entries) e) (rows_of key (b.entries ++ e ∷ [])) (entry_turns key b.entries e apart ok) in
    let same : table_at p side.table ≡ layout_of p b.base = ap (table_at p) (side_table p (table_of p b.base) side is) in
    let here : Turns (rows_for p s (Some side) b.entries) (on_base.changes_for b e side s) (rows_for p s (Some side) (b.entries ++ e ∷ []))
    = subst (λ (t : TableLayout). Turns (filter of (rows_of t.key b.entries)) (on_base.changes_for b e side s) (filter of (rows_of t.key (b.entries ++ e ∷ [])))) (sym same) all in
    record {
      grows = (e ∷ [], refl);
      turns = subst (λ (o : Option SideLayout). Turns (rows_for p s o b.entries) (on_base.changes_for b e side s) (rows_for p s o (b.entries ++ e ∷ []))) (sym is) here;
      piece = tt;
      alone = tt;
      marker = tt;
    }

-- ---- what is put out
abbrev AreTrue : List (List BasePacketView) → Type 0
AreTrue sent = Each (Each IsTrueBase) sent

none_true : (p : Layout) → AreTrue (none_of (range_with_len 0 p.stages))
none_true p = each_map_of (Each IsTrueBase) (λ r. []) (range_with_len 0 p.stages) (λ r. tt)

to_stages_true : (p : Layout) (o : Option SideLayout) (f : SideLayout → ℕ → BasePacketView) → ((side : SideLayout) → o ≡ Some side → (s : ℕ) → IsTrueBase (f side s)) → AreTrue (on_base.to_stages p o f)
to_stages_true p None f h = none_true p
to_stages_true p (Some side) f h = each_map_of (Each IsTrueBase) (λ s. f side s ∷ []) (range_with_len 0 p.stages) (λ s. (h side refl s, tt))

to_one_true : (n s : ℕ) (k : BasePacketView) → IsTrueBase k → AreTrue (to_one n s (k ∷ []))
to_one_true n s k h = each_map_of (Each IsTrueBase) (λ t. cond (t == s) (k ∷ []) []) (range_with_len 0 n) (λ t. by (t == s))
  where
    by : (c : Bool) → Each IsTrueBase (cond c (k ∷ []) [])
    by true = (h, tt)
    by false = tt

decided_true : (b : Base) (s m : ℕ) (e : Change) (o : Option Refused) → refusal (layout_of b.plan b.base).key limit b.entries e ≡ o → AreApart (layout_of b.plan b.base).key (rows_of (layout_of b.plan b.base).key b.entries) → AreTrue (on_base.decided b s m e o).sent
decided_true b s m e (Some r) is apart = none_true b.plan
decided_true b s m e None is apart =
    let ok = (allowed (layout_of b.plan b.base).key limit b.entries e is).0 in
    to_stages_true b.plan (side_of b.plan b.base) (on_base.entry_packet b e) (λ side of. entry_true b e side of apart ok)

every_packet : (b : Base) (m : ToBase) → AreApart (layout_of b.plan b.base).key (rows_of (layout_of b.plan b.base).key b.entries) → AreTrue (on_base.step b m).sent
every_packet b (write s m e) apart = by (nat_lt m (next_of s b.authors))
  where
    by : (c : Bool) → AreTrue (cond c (on_base.quiet b None) (on_base.decided b s m e (refusal (layout_of b.plan b.base).key limit b.entries e))).sent
    by true = none_true b.plan
    by false = decided_true b s m e (refusal (layout_of b.plan b.base).key limit b.entries e) refl apart
every_packet b (request s a) apart = to_one_true b.plan.stages s (on_base.still b s (Some (on_base.piece_for b s a)) None) (piece_true b s a)
every_packet b (marker m) apart = to_stages_true b.plan (side_of b.plan b.base) (λ side s. on_base.still b s None (Some m)) (λ side of s. still_true b s m)

pub every_base_packet : EveryBasePacket
every_base_packet b m h = every_packet b m (log_apart (layout_of b.plan b.base).key [] b.entries (λ k. omega arith) h)
