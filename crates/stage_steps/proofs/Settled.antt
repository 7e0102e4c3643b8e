-- The requests that wait were looked at, and have to wait on.
use Rattle.std.proofs.Common.{◌≡◌, ℕ, zero, suc, Bool, true, false, cond, not, ◌&&◌, ◌||◌, ◌-◌, ◌==◌, if◌then◌else◌, List, [], ◌∷◌, ◌++◌, length, Option, Some, None, Result, Ok, Err, OnOk, refl, ap, sym, ◌∙◌, subst, arith, true≢false, append_assoc, length-append}
use Rattle.std.specs.Bool.{⊤}
use Rattle.std.specs.List.{list_all}
use Rattle.std.specs.Option.{is_some}
use Rattle.std.proofs.lemmas.List.{append-nil}
use Rattle.row.specs.Bags.{Each}
use Rattle.row.specs.Cells.{Datum, same}
use Rattle.row.proofs.BagLemmas.{Each-weaker}
use Rattle.row.proofs.Shards.{same_is, same_self}
use Rattle.partial.specs.States.{Hole, Waiting, Filled, after_piece, begun, completes, given, is_filled, is_hole}
use Rattle.plan.proofs.OwnTexts.{each_join}
use Rattle.model.specs.Places.{side_count, sources}
use Rattle.packet.specs.Keys.{Keys, Stand, begin_at, give_at, with_stand}
use Rattle.packet.specs.Messages.{Ask, BasePacketView, Mark, Piece}
use Rattle.packet.specs.Readers.{is_left, is_of, readers, right_tag, view_of}
use Rattle.protocol.specs.Stages.{Done, Stage, ToStage, behind, knows, request}
use Rattle.protocol.specs.StageSteps.{answered, begins, begins_of, cap_kept, caps, excess, first_goes, look, look_all, looks, next, oldest_goes, packet_taken, piece_given, piece_taken, put, quiet, right_count, shrink, step, takes, with_piece}
use Rattle.right_rows.specs.Rights.{keys_in}
use Rattle.stage_sides.specs.Sides.{are_filled, is_open}
use Rattle.stage_steps.specs.Outboxes.{AreEdges, IsSilent, OutboxView}
use Rattle.stage_steps.specs.Shards.{AllWait, HasBegun, IsPut, IsShard, IsWhole, Shard, Waits, has_no_entry, stage_of}
use Rattle.stage_steps.proofs.Begins.{both_hold, none_asked, none_twice, shut_is}
use Rattle.stage_steps.proofs.Joined.{put_asking, put_start}
use Rattle.stage_steps.proofs.Looked.{looked, looked_more, put_looked, put_waiting_none, waiting_none}
use Rattle.stage_steps.proofs.Puts.{after, put_quiet}

-- ---- one key stands otherwise: what a test says of each
tested : (test : Stand → Bool) (k : Datum) (st : Stand) (keys : Keys) → test st ≡ test (keys.at k) → (x : Datum) → test (with_stand k st keys x) ≡ test (keys.at x)
tested test k st keys e x = by (same k x) refl
  where
    by : (b : Bool) → same k x ≡ b → test (cond b st (keys.at x)) ≡ test (keys.at x)
    by true h = e ∙ ap (λ y. test (keys.at y)) (same_is k x h)
    by false h = refl

-- no hole becomes one
stays_shut : (k : Datum) (st : Stand) (keys : Keys) → (is_hole (keys.at k) ≡ false → is_hole st ≡ false) → (x : Datum) → is_hole (keys.at x) ≡ false → is_hole (with_stand k st keys x) ≡ false
stays_shut k st keys f x e = by (same k x) refl
  where
    by : (b : Bool) → same k x ≡ b → is_hole (cond b st (keys.at x)) ≡ false
    by true h = f (ap (λ y. is_hole (keys.at y)) (same_is k x h) ∙ e)
    by false h = e

-- ---- keys begin to wait
begun_filled : (n : ℕ) (st : Stand) → is_filled (begun n st) ≡ is_filled st
begun_filled n Hole = refl
begun_filled n (Waiting pieces) = refl
begun_filled n (Filled rows) = refl

begun_shut : (n : ℕ) (st : Stand) → is_hole (begun n st) ≡ false
begun_shut n Hole = refl
begun_shut n (Waiting pieces) = refl
begun_shut n (Filled rows) = refl

begins_filled : (n : ℕ) (xs : List Datum) (keys : Keys) (x : Datum) → is_filled ((begins n xs keys).at x) ≡ is_filled (keys.at x)
begins_filled n [] keys x = refl
begins_filled n (y ∷ ys) keys x = begins_filled n ys (begin_at n y keys) x ∙ tested is_filled y (begun n (keys.at y)) keys (begun_filled n (keys.at y)) x

begins_stays : (n : ℕ) (xs : List Datum) (keys : Keys) (x : Datum) → is_hole (keys.at x) ≡ false → is_hole ((begins n xs keys).at x) ≡ false
begins_stays n [] keys x e = e
begins_stays n (y ∷ ys) keys x e = begins_stays n ys (begin_at n y keys) x (stays_shut y (begun n (keys.at y)) keys (λ h. begun_shut n (keys.at y)) x e)

begun_own : (n : ℕ) (x : Datum) (keys : Keys) → is_hole ((begin_at n x keys).at x) ≡ false
begun_own n x keys = ap (λ b. is_hole (cond b (begun n (keys.at x)) (keys.at x))) (same_self x) ∙ begun_shut n (keys.at x)

begins_all : (n : ℕ) (xs : List Datum) (keys : Keys) → list_all (λ x. not (is_hole ((begins n xs keys).at x))) xs ≡ true
begins_all n [] keys = refl
begins_all n (x ∷ xs) keys =
    let own = begins_stays n xs (begin_at n x keys) x (begun_own n x keys) in
    let rest = begins_all n xs (begin_at n x keys) in
    λ i. not (own i) && rest i

-- the same, where the right side is by key
known_of : (n : ℕ) (xs : List Datum) (o : Option Keys) (x : Datum) → knows (begins_of n xs o) x ≡ knows o x
known_of n xs None x = refl
known_of n xs (Some keys) x = begins_filled n xs keys x

shut_of : (n : ℕ) (xs : List Datum) (o : Option Keys) (x : Datum) → is_open x o ≡ false → is_open x (begins_of n xs o) ≡ false
shut_of n xs None x e = refl
shut_of n xs (Some keys) x e = begins_stays n xs keys x e

all_true : (xs : List Datum) → list_all (λ x. true) xs ≡ true
all_true [] = refl
all_true (x ∷ xs) = all_true xs

all_of : (n : ℕ) (xs : List Datum) (o : Option Keys) → list_all (λ x. not (is_open x (begins_of n xs o))) xs ≡ true
all_of n xs None = all_true xs
all_of n xs (Some keys) = begins_all n xs keys

-- ---- a request waits on where no more is here, and no key has become a hole
all_stay : (o p : Option Keys) (xs : List Datum) → ((x : Datum) → is_open x o ≡ false → is_open x p ≡ false) → list_all (λ x. not (is_open x o)) xs ≡ true → list_all (λ x. not (is_open x p)) xs ≡ true
all_stay o p [] f e = refl
all_stay o p (x ∷ xs) f e =
    let each = both_hold (not (is_open x o)) (list_all (λ x. not (is_open x o)) xs) e in
    let own = f x (shut_is (is_open x o) each.0) in
    let rest = all_stay o p xs f each.1 in
    λ i. not (own i) && rest i

waits_on : (s : Stage) (o : Option Keys) → ((x : Datum) → knows o x ≡ knows s.right x) → ((x : Datum) → is_open x s.right ≡ false → is_open x o ≡ false) → (a : Ask) → Waits s a → Waits (record s { right = o }) a
waits_on s o known shut a h = let needed = behind s (view_of a.tag) a.key in ((λ i. list_all (λ x. known x i) needed) ∙ h.0, all_stay s.right o needed shut h.1)

-- ---- after a look each request that waits has to
module _ (s : Stage) (a : Ask) (all : AllWait s) where
  abbrev needed : List Datum
  needed = behind s (view_of a.tag) a.key

  abbrev asked : Stage
  asked = record s { right = begins_of (right_count s.plan) needed s.right }

  others : Each (Waits asked) s.pending
  others = Each-weaker (Waits s) (Waits asked) (waits_on s asked.right (known_of (right_count s.plan) needed s.right) (shut_of (right_count s.plan) needed s.right)) s.pending all

  abbrev told : Done
  told = put asked (λ asked r. cond (is_of s.plan (view_of a.tag) a.key r) (with_piece s.line a.key ∷ []) [])

  abbrev later : Done
  later = quiet (record asked { pending = s.pending ++ a ∷ [] })

  look_waits : AllWait (look s a).stage
  look_waits = by (list_all (knows asked.right) needed) refl
    where
      by : (b : Bool) → list_all (knows asked.right) needed ≡ b → AllWait (cond b told later).stage
      by true e = others
      by false e = each_join (Waits asked) s.pending (a ∷ []) others ((e, all_of (right_count s.plan) needed s.right), tt)

look_all_waits : (as_ : List Ask) (s : Stage) → AllWait s → AllWait (look_all as_ s).stage
look_all_waits [] s all = all
look_all_waits (a ∷ rest) s all = look_all_waits rest (look s a).stage (look_waits s a all)

looks_wait : (s : Stage) → AllWait (looks s).stage
looks_wait s = look_all_waits s.pending (record s { pending = [] }) tt

-- ---- and so it is once the cap is kept
first_pending : (s : Stage) (keys : Keys) (xs : List Datum) → (first_goes s keys xs).stage.pending ≡ s.pending
first_pending s keys [] = refl
first_pending s keys (x ∷ xs) = refl

oldest_pending : (s : Stage) (o : Option Keys) → (oldest_goes s o).stage.pending ≡ s.pending
oldest_pending s None = refl
oldest_pending s (Some keys) = first_pending s keys keys.order

shrink_pending : (n : ℕ) (s : Stage) → (shrink n s).stage.pending ≡ s.pending
shrink_pending zero s = refl
shrink_pending (suc n) s = shrink_pending n (oldest_goes s s.right).stage ∙ oldest_pending s s.right

caps_wait : (s : Stage) → AllWait s → AllWait (caps s).stage
caps_wait s all = by s.pending refl
  where
    by : (as_ : List Ask) → as_ ≡ s.pending → AllWait (cap_kept s as_).stage
    by [] e = let d = shrink (excess s.plan.cap s.right) s in subst (Each (Waits d.stage)) (e ∙ sym (shrink_pending (excess s.plan.cap s.right) s)) tt
    by (a ∷ as_) e = all

step_waits : (s : Stage) (m : ToStage) → AllWait (step s m).stage
step_waits s m = caps_wait (looks (takes s m).stage).stage (looks_wait (takes s m).stage)

pub stepped : (x y : Shard) (m : ToStage) (out : OutboxView) → IsWhole y → IsPut (step (stage_of x) m) out y → IsShard y
stepped x y m out whole put = record { whole = whole; waits = subst AllWait (sym put.stage) (step_waits (stage_of x) m) }

-- ---- a look at requests that have to wait on
look_idle : (s : Stage) (a : Ask) → Waits s a → look s a ≡ quiet (record s { pending = s.pending ++ a ∷ [] })
look_idle s a h =
    let needed = behind s (view_of a.tag) a.key in
    let later = quiet (record s { pending = s.pending ++ a ∷ [] }) in
    let is : answered s a needed ≡ later = ap (λ b. cond b (put s (λ asked r. cond (is_of s.plan (view_of a.tag) a.key r) (with_piece s.line a.key ∷ []) [])) later) h.0 in
    ap (λ (d : Done). next d (λ t. answered t a needed)) (none_asked s needed h.1)
    ∙ (ap (after (quiet s)) is ∙ (λ i. record { stage = later.stage; sent = none_twice (readers s.plan) i; requests = none_twice (sources s.plan) i }))

idle_put : (as_ : List Ask) (d : Done) (out : OutboxView) (x : Shard) → Each (Waits (stage_of x)) as_ → IsPut d out x → AreEdges x.plan out → IsPut (looked as_ d) out (record x { pending = x.pending ++ as_ })
idle_put [] d out x all is edges = subst (λ as_. IsPut d out (record x { pending = as_ })) (sym (append-nil x.pending)) is
idle_put (a ∷ rest) d out x all is edges =
    let y = record x { pending = x.pending ++ a ∷ [] } in
    let one = put_quiet d (look d.stage a) out x y is edges refl refl (ap (λ (s : Stage). look s a) (sym is.stage) ∙ look_idle (stage_of x) a all.0) in
    subst (λ as_. IsPut (looked rest (after d (look d.stage a))) out (record x { pending = as_ })) (append_assoc x.pending (a ∷ []) rest) (idle_put rest (after d (look d.stage a)) out y all.1 one edges)

pub put_idle : (d : Done) (out : OutboxView) (x : Shard) → IsPut d out x → AreEdges x.plan out → AllWait (stage_of x) → IsPut (after d (looks d.stage)) out x
put_idle d out x is edges all =
    put_looked d out out x x x.pending is refl edges (idle_put x.pending (waiting_none d) out (record x { pending = [] }) all (put_waiting_none d out x is) edges)

-- ---- a request: only that is looked at
pub put_request : (d : Done) (out new : OutboxView) (x y : Shard) (a : Ask) → IsPut d out x → AreEdges x.plan out → AreEdges y.plan new → AllWait (stage_of x) → ((e : Done) → IsPut e out x → IsPut (after e (look e.stage a)) new y) → IsPut (after (after d (takes d.stage (request a))) (looks (takes d.stage (request a)).stage)) new y
put_request d out new x y a is edges told all each =
    let e = after d (takes d.stage (request a)) in
    let asked = record x { pending = x.pending ++ a ∷ [] } in
    let p : IsPut e out asked = put_asking x a asked.pending d out is edges refl in
    let idle = idle_put x.pending (waiting_none e) out (record x { pending = [] }) all (put_waiting_none e out asked p) edges in
    put_looked e out new asked y asked.pending p refl told (subst (λ (d : Done). IsPut d new y) (sym (looked_more x.pending a (waiting_none e))) (each (looked x.pending (waiting_none e)) idle))

-- ---- a packet with no entry that fills no key
abbrev fed : ℕ → Stand → Stand
fed j st = after_piece (λ pieces. tt) j tt st

fed_filled : (j : ℕ) (st : Stand) → (is_filled (fed j st) && not (is_filled st)) ≡ false → is_filled (fed j st) ≡ is_filled st
fed_filled j Hole e = refl
fed_filled j (Waiting pieces) e = by (completes j tt pieces) e
  where
    by : (b : Bool) → (is_filled {E = ⊤} (if b then Filled tt else Waiting (given j tt pieces)) && true) ≡ false → is_filled {E = ⊤} (if b then Filled tt else Waiting (given j tt pieces)) ≡ false
    by true q = q
    by false q = refl
fed_filled j (Filled rows) e = refl

fed_shut : (j : ℕ) (st : Stand) → is_hole st ≡ false → is_hole (fed j st) ≡ false
fed_shut j Hole e = absurd (true≢false e)
fed_shut j (Waiting pieces) e = by (completes j tt pieces)
  where
    by : (b : Bool) → is_hole {E = ⊤} (if b then Filled tt else Waiting (given j tt pieces)) ≡ false
    by true = refl
    by false = refl
fed_shut j (Filled rows) e = refl

no_longer : (b : Bool) (xs : List Datum) (x : Datum) → length (cond b (xs ++ x ∷ []) xs) ≡ length xs → b ≡ false
no_longer true xs x e = absurd (omega (arith, e, length-append xs (x ∷ [])))
no_longer false xs x e = refl

given_shut : (j : ℕ) (k : Datum) (keys : Keys) (x : Datum) → is_open x (Some keys) ≡ false → is_open x (Some (give_at j k keys)) ≡ false
given_shut j k keys x h = stays_shut k (fed j (keys.at k)) keys (fed_shut j (keys.at k)) x h

given_known : (j : ℕ) (k : Datum) (keys : Keys) → length (give_at j k keys).order ≡ length keys.order → (x : Datum) → knows (Some (give_at j k keys)) x ≡ knows (Some keys) x
given_known j k keys e x =
    let unfilled = fed_filled j (keys.at k) (no_longer (is_filled (fed j (keys.at k)) && not (is_filled (keys.at k))) keys.order k e) in
    tested is_filled k (fed j (keys.at k)) keys unfilled x

-- the right side is as little here as before, and no key has become a hole
record NoMore (old new : Option Keys) : Type 0 where
  pub known : (x : Datum) → knows new x ≡ knows old x
  pub shut : (x : Datum) → is_open x old ≡ false → is_open x new ≡ false

given_none : (j : ℕ) (k : Datum) (o : Option Keys) → length (are_filled (piece_given j k o)) ≡ length (are_filled o) → NoMore o (piece_given j k o)
given_none j k None e = record { known = λ x. refl; shut = λ x h. h }
given_none j k (Some keys) e = record { known = given_known j k keys e; shut = given_shut j k keys }

taken_none : (s : Stage) (j : ℕ) (piece : Piece) (b : Bool) (i : ℕ) → length (are_filled (cond b s.right (piece_given i piece.key s.right))) ≡ length (are_filled s.right) → NoMore s.right (cond b s.right (piece_given i piece.key s.right))
taken_none s j piece true i e = record { known = λ x. refl; shut = λ x h. h }
taken_none s j piece false i e = given_none i piece.key s.right e

packet_waits : (s : Stage) (j : ℕ) (k : BasePacketView) (piece : Option Piece) (marker : Option Mark) → (is_some piece || is_some marker) ≡ true → length (are_filled (packet_taken s j k piece marker).stage.right) ≡ length (are_filled s.right) → AllWait s → AllWait (packet_taken s j k piece marker).stage
packet_waits s j k None None some e all = absurd (true≢false (sym some))
packet_waits s j k None (Some m) some e all = all
packet_waits s j k (Some piece) marker some e all =
    let more = taken_none s j piece (is_left s.plan j || not (piece.tag == right_tag)) (j - side_count s.plan s.plan.left) e in
    Each-weaker (Waits s) (Waits (record s { right = piece_taken s j piece })) (waits_on s (piece_taken s j piece) more.known more.shut) s.pending all

pub put_unlooked : (x y : Shard) (d : Done) (out new : OutboxView) (j : ℕ) (k : BasePacketView) → IsPut d out x → AllWait (stage_of x) → AreEdges y.plan new → has_no_entry k ≡ true → length (are_filled (keys_in y.rows.right)) ≡ length (are_filled (keys_in x.rows.right))
    → IsPut (after d (packet_taken d.stage j k k.piece k.marker)) new y → IsPut (after (after d (packet_taken d.stage j k k.piece k.marker)) (looks (packet_taken d.stage j k k.piece k.marker).stage)) new y
put_unlooked x y d out new j k is all edges none filled taken =
    let count = ap (λ (s : Stage). length (are_filled s.right)) (sym taken.stage) ∙ (filled ∙ ap (λ (s : Stage). length (are_filled s.right)) is.stage) in
    let waits = subst AllWait (sym taken.stage) (packet_waits d.stage j k k.piece k.marker none count (subst AllWait is.stage all)) in
    put_idle (after d (packet_taken d.stage j k k.piece k.marker)) new y taken edges waits

-- ---- a packet with no entry leaves no hole behind a request that waits
piece_shut : (j : ℕ) (k : Datum) (o : Option Keys) (x : Datum) → is_open x o ≡ false → is_open x (piece_given j k o) ≡ false
piece_shut j k None x h = h
piece_shut j k (Some keys) x h = given_shut j k keys x h

taken_shut : (b : Bool) (o p : Option Keys) → ((x : Datum) → is_open x o ≡ false → is_open x p ≡ false) → (x : Datum) → is_open x o ≡ false → is_open x (cond b o p) ≡ false
taken_shut true o p f x h = h
taken_shut false o p f x h = f x h

begins_on : (s : Stage) (o : Option Keys) → ((x : Datum) → is_open x s.right ≡ false → is_open x o ≡ false) → (a : Ask) → Waits s a → HasBegun (record s { right = o }) a
begins_on s o shut a h = all_stay s.right o (behind s (view_of a.tag) a.key) shut h.1

packet_begun : (s : Stage) (j : ℕ) (k : BasePacketView) (piece : Option Piece) (marker : Option Mark) → (is_some piece || is_some marker) ≡ true → AllWait s → let t = (packet_taken s j k piece marker).stage in Each (HasBegun t) t.pending
packet_begun s j k None None some all = absurd (true≢false (sym some))
packet_begun s j k None (Some m) some all = Each-weaker (Waits s) (HasBegun s) (λ a h. h.1) s.pending all
packet_begun s j k (Some piece) marker some all =
    let i = j - side_count s.plan s.plan.left in
    let shut = taken_shut (is_left s.plan j || not (piece.tag == right_tag)) s.right (piece_given i piece.key s.right) (piece_shut i piece.key s.right) in
    Each-weaker (Waits s) (HasBegun (record s { right = piece_taken s j piece })) (begins_on s (piece_taken s j piece) shut) s.pending all

pub has_begun : (x y : Shard) (out new : OutboxView) (j : ℕ) (k : BasePacketView) → IsSilent out → AreEdges x.plan out → AllWait (stage_of x) → has_no_entry k ≡ true → ((d : Done) → IsPut d out x → IsPut (after d (packet_taken d.stage j k k.piece k.marker)) new y) → Each (HasBegun (stage_of y)) y.pending
has_begun x y out new j k silent edges all none taken =
    let put = taken (quiet (stage_of x)) (put_start x out silent edges) in
    subst (λ (s : Stage). Each (HasBegun s) s.pending) (sym put.stage) (packet_begun (stage_of x) j k k.piece k.marker none all)

-- ---- where a call went well
pub both_ok : {X E A B C : Type 0} (r : Result X E) → (A → B → C) → OnOk r A → OnOk r B → OnOk r C
both_ok (Ok x) f a b = f a b
both_ok (Err e) f a b = tt

pub each_ok : {X E D C : Type 0} (P Q : D → Type 0) (r : Result X E) → ((d : D) → P d → OnOk r (Q d)) → (((d : D) → P d → Q d) → C) → OnOk r C
each_ok P Q (Ok x) f h = h f
each_ok P Q (Err e) f h = tt
