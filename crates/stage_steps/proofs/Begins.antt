-- Stage keys begin to wait, one after the other.
use Rattle.std.proofs.Common.{◌≡◌, ℕ, Bool, true, false, cond, not, ◌&&◌, List, [], ◌∷◌, ◌++◌, map, take, slice_index_or, ◌+◌, ◌<◌, length, Option, Some, None, refl, ap, sym, ◌∙◌, arith, append_assoc, true≢false}
use Rattle.std.specs.List.{list_all, range_with_len}
use Rattle.std.specs.Option.{option_map}
use Rattle.std.proofs.lemmas.List.{append-nil, map-append, take_more}
use Rattle.std.proofs.lemmas.List.FromFn.{length-range_with_len}
use Rattle.row.specs.Cells.{Datum, datum_of}
use Rattle.row.specs.declared.value.Value.{Value}
use Rattle.partial.specs.States.{is_hole}
use Rattle.plan.specs.Layouts.{Layout, SideLayout}
use Rattle.model.specs.Places.{sources}
use Rattle.model.specs.Queries.{Line}
use Rattle.ops.specs.SideRows.{Rows}
use Rattle.packet.specs.Keys.{Keys, begin_at}
use Rattle.packet.specs.Messages.{Ask, none_of}
use Rattle.packet.specs.Outboxes.{packets_on}
use Rattle.packet.specs.Readers.{is_left, readers, right_tag}
use Rattle.protocol.specs.Stages.{Done, Stage}
use Rattle.protocol.specs.StageSteps.{append_each, asks, asks_for, begins, begins_of, quiet, right_count, starts, starts_of}
use Rattle.right_rows.specs.Rights.{keys_in}
use Rattle.stage_sides.specs.Held.{Held}
use Rattle.stage_sides.proofs.Unmoved.{begins_none as shut_stays}
use Rattle.stage_sides.specs.Sides.{is_open}
use Rattle.stage_steps.specs.Outboxes.{AreEdges, OutboxView}
use Rattle.stage_steps.specs.Shards.{HoldsRight, IsPut, IsWhole, Shard, stage_of}
use Rattle.stage_steps.proofs.Appends.{append_assoc_each, append_maps}
use Rattle.stage_steps.proofs.Puts.{after, no_asks, put_asked}
use Rattle.stage_steps.proofs.Wholes.{keys_by}

begins_append : (n : ℕ) (xs ys : List Datum) (keys : Keys) → begins n (xs ++ ys) keys ≡ begins n ys (begins n xs keys)
begins_append n [] ys keys = refl
begins_append n (x ∷ xs) ys keys = begins_append n xs ys (begin_at n x keys)

starts_append : (n : ℕ) (xs ys : List Datum) (keys : Keys) → starts n (xs ++ ys) keys ≡ starts n xs keys ++ starts n ys (begins n xs keys)
starts_append n [] ys keys = refl
starts_append n (x ∷ xs) ys keys =
    let own = cond (is_hole (keys.at x)) (x ∷ []) [] in
    ap (λ l. own ++ l) (starts_append n xs ys (begin_at n x keys)) ∙ sym (append_assoc own (starts n xs (begin_at n x keys)) (starts n ys (begins n xs (begin_at n x keys))))

begins_of_append : (n : ℕ) (xs ys : List Datum) (o : Option Keys) → begins_of n (xs ++ ys) o ≡ begins_of n ys (begins_of n xs o)
begins_of_append n xs ys None = refl
begins_of_append n xs ys (Some keys) = ap Some (begins_append n xs ys keys)

starts_of_append : (n : ℕ) (xs ys : List Datum) (o : Option Keys) → starts_of n (xs ++ ys) o ≡ starts_of n xs o ++ starts_of n ys (begins_of n xs o)
starts_of_append n xs ys None = refl
starts_of_append n xs ys (Some keys) = starts_append n xs ys keys

begins_none : (n : ℕ) (o : Option Keys) → begins_of n [] o ≡ o
begins_none n None = refl
begins_none n (Some keys) = refl

starts_none : (n : ℕ) (o : Option Keys) → starts_of n [] o ≡ []
starts_none n None = refl
starts_none n (Some keys) = refl

-- ---- what is asked for
abbrev ask_of : Datum → Ask
ask_of x = record { tag = right_tag; key = x }

abbrev asked_at : Layout → List Datum → ℕ → List Ask
asked_at p xs j = cond (is_left p j) [] (map ask_of xs)

both_asked : (p : Layout) (xs ys : List Datum) (j : ℕ) → asked_at p xs j ++ asked_at p ys j ≡ asked_at p (xs ++ ys) j
both_asked p xs ys j = step (is_left p j)
  where
    step : (b : Bool) → cond b [] (map ask_of xs) ++ cond b [] (map ask_of ys) ≡ cond b [] (map ask_of (xs ++ ys))
    step true = refl
    step false = sym (map-append ask_of xs ys)

asks_append : (p : Layout) (xs ys : List Datum) → append_each (asks_for p xs) (asks_for p ys) ≡ asks_for p (xs ++ ys)
asks_append p xs ys = append_maps (asked_at p xs) (asked_at p ys) (range_with_len 0 (length (sources p))) ∙ (λ i. map (λ j. both_asked p xs ys j i) (range_with_len 0 (length (sources p))))

none_at : (p : Layout) (j : ℕ) → asked_at p [] j ≡ []
none_at p j = step (is_left p j)
  where
    step : (b : Bool) → cond b [] (map ask_of []) ≡ []
    step true = refl
    step false = refl

pub as_many : {A B X : Type 0} (as_ : List A) (bs : List B) → length as_ ≡ length bs → none_of {X = X} as_ ≡ none_of bs
as_many [] [] e = refl
as_many [] (b ∷ bs) e = cc
as_many (a ∷ as_) [] e = cc
as_many (a ∷ as_) (b ∷ bs) e = ap (λ l. [] ∷ l) (as_many as_ bs (omega (arith, e)))

asks_none : (p : Layout) → asks_for p [] ≡ none_of (sources p)
asks_none p = (λ i. map (λ j. none_at p j i) (range_with_len 0 (length (sources p)))) ∙ as_many (range_with_len 0 (length (sources p))) (sources p) (length-range_with_len 0 (length (sources p)))

pub none_twice : {A X : Type 0} (rs : List A) → append_each (none_of {X = X} rs) (none_of rs) ≡ none_of rs
none_twice [] = refl
none_twice (r ∷ rs) = ap (λ l. [] ∷ l) (none_twice rs)

-- ---- one after the other
asks_more : (s : Stage) (xs ys : List Datum) → after (asks s xs) (asks (asks s xs).stage ys) ≡ asks s (xs ++ ys)
asks_more s xs ys =
    let n = right_count s.plan in
    λ i. record {
      stage = record s { right = sym (begins_of_append n xs ys s.right) i };
      sent = none_twice (readers s.plan) i;
      requests = (asks_append s.plan (starts_of n xs s.right) (starts_of n ys (begins_of n xs s.right)) ∙ ap (asks_for s.plan) (sym (starts_of_append n xs ys s.right))) i;
    }

pub after_assoc : (d e f : Done) → after (after d e) f ≡ after d (after e f)
after_assoc d e f = λ i. record { stage = f.stage; sent = append_assoc_each d.sent e.sent f.sent i; requests = append_assoc_each d.requests e.requests f.requests i }

pub asks_next : (d : Done) (xs : List Datum) (x : Datum) → after (after d (asks d.stage xs)) (asks (asks d.stage xs).stage (x ∷ [])) ≡ after d (asks d.stage (xs ++ x ∷ []))
asks_next d xs x = after_assoc d (asks d.stage xs) (asks (asks d.stage xs).stage (x ∷ [])) ∙ ap (after d) (asks_more d.stage xs (x ∷ []))

pub no_keys_asked : (s : Stage) → asks s [] ≡ quiet s
no_keys_asked s =
    let n = right_count s.plan in
    λ i. record { stage = record s { right = begins_none n s.right i }; sent = none_of (readers s.plan); requests = (ap (asks_for s.plan) (starts_none n s.right) ∙ asks_none s.plan) i }

-- ---- none of the keys is a hole
pub both_hold : (a b : Bool) → (a && b) ≡ true → (a ≡ true) × (b ≡ true)
both_hold true b e = (refl, e)
both_hold false b e = absurd (true≢false (sym e))

pub shut_is : (b : Bool) → not b ≡ true → b ≡ false
shut_is true e = sym e
shut_is false e = refl

begins_shut : (n : ℕ) (xs : List Datum) (o : Option Keys) → list_all (λ x. not (is_open x o)) xs ≡ true → begins_of n xs o ≡ o
begins_shut n xs None all = refl
begins_shut n [] (Some keys) all = refl
begins_shut n (x ∷ xs) (Some keys) all =
    let each = both_hold (not (is_hole (keys.at x))) (list_all (λ x. not (is_hole (keys.at x))) xs) all in
    let stays = shut_stays n x (Some keys) (shut_is (is_hole (keys.at x)) each.0) in
    ap (begins_of n xs) (sym stays) ∙ begins_shut n xs (Some keys) each.1

starts_shut : (n : ℕ) (xs : List Datum) (o : Option Keys) → list_all (λ x. not (is_open x o)) xs ≡ true → starts_of n xs o ≡ []
starts_shut n xs None all = refl
starts_shut n [] (Some keys) all = refl
starts_shut n (x ∷ xs) (Some keys) all =
    let each = both_hold (not (is_hole (keys.at x))) (list_all (λ x. not (is_hole (keys.at x))) xs) all in
    let shut = shut_is (is_hole (keys.at x)) each.0 in
    ap (λ b. cond b (x ∷ []) [] ++ starts n xs (begin_at n x keys)) shut ∙ (ap (starts_of n xs) (sym (shut_stays n x (Some keys) shut)) ∙ starts_shut n xs (Some keys) each.1)

pub none_asked : (s : Stage) (xs : List Datum) → list_all (λ x. not (is_open x s.right)) xs ≡ true → asks s xs ≡ quiet s
none_asked s xs all =
    let n = right_count s.plan in
    λ i. record { stage = record s { right = begins_shut n xs s.right all i }; sent = none_of (readers s.plan); requests = (ap (asks_for s.plan) (starts_shut n xs s.right all) ∙ asks_none s.plan) i }

-- ---- one key
begun_one : (n : ℕ) (k : Datum) (o : Option Keys) → begins_of n (k ∷ []) o ≡ option_map (begin_at n k) o
begun_one n k None = refl
begun_one n k (Some keys) = refl

started_one : (n : ℕ) (k : Datum) (o : Option Keys) → starts_of n (k ∷ []) o ≡ cond (is_open k o) (k ∷ []) []
started_one n k None = refl
started_one n k (Some keys) = append-nil (cond (is_hole (keys.at k)) (k ∷ []) [])

begun_by : (p : Layout) (s : ℕ) (side : Option SideLayout) (fronts : Line) (right : Rows) (k : Datum) → HoldsRight p s side fronts right → option_map (begin_at right.sources k) (keys_in right) ≡ option_map (begin_at (right_count p) k) (keys_in right)
begun_by p s None fronts right k none =
    let is : keys_in right ≡ None = ap (option_map (keys_by right)) none in
    ap (option_map (begin_at right.sources k)) is ∙ sym (ap (option_map (begin_at (right_count p) k)) is)
begun_by p s (Some side) fronts right k h = ap (λ n. option_map (begin_at n k) (keys_in right)) h.1

module _ (x : Shard) (rows : Held) (k : Datum) (b : Bool) (d : Done) (out new : OutboxView) (put : IsPut d out x) (whole : IsWhole x) (edges : AreEdges x.plan out) (keys : keys_in rows.right ≡ option_map (begin_at x.rows.right.sources k) (keys_in x.rows.right))
    (was : b ≡ is_open k (keys_in x.rows.right)) where
  begun_stage : stage_of (record x { rows = rows }) ≡ (asks (stage_of x) (k ∷ [])).stage
  begun_stage = ap (λ (o : Option Keys). record (stage_of x) { right = o }) (keys ∙ (begun_by x.plan x.shard x.plan.right _ x.rows.right k whole.rows.right ∙ sym (begun_one (right_count x.plan) k (keys_in x.rows.right))))

  pub put_begun : new.packets ≡ out.packets → packets_on new.requests ≡ append_each (packets_on out.requests) (asks_for x.plan (cond b (k ∷ []) [])) → IsPut (after d (asks d.stage (k ∷ []))) new (record x { rows = rows })
  put_begun same told =
      let from : asks (stage_of x) (k ∷ []) ≡ asks d.stage (k ∷ []) = ap (λ (s : Stage). asks s (k ∷ [])) put.stage in
      put_asked d (asks d.stage (k ∷ [])) out new x (record x { rows = rows }) put edges refl refl (begun_stage ∙ ap (λ (e : Done). e.stage) from) same (sym (ap (λ (e : Done). e.sent) from))
      (told ∙ ap (append_each (packets_on out.requests)) (ap (asks_for x.plan) (ap (λ b. cond b (k ∷ []) []) was ∙ sym (started_one (right_count x.plan) k (keys_in x.rows.right))) ∙ ap (λ (e : Done). e.requests) from))

  pub put_unbegun : b ≡ false → new ≡ out → IsPut (after d (asks d.stage (k ∷ []))) new (record x { rows = rows })
  put_unbegun stays same =
      put_begun (ap (λ (o : OutboxView). o.packets) same)
      (ap (λ (o : OutboxView). packets_on o.requests) same ∙ (sym (no_asks x.plan out edges) ∙ ap (append_each (packets_on out.requests)) (sym (ap (λ b. asks_for x.plan (cond b (k ∷ []) [])) stays ∙ asks_none x.plan))))

-- one key more of those that a loop goes over
pub some_more : (keys : List Value) (i : ℕ) (v : Value) → i < length keys → v ≡ slice_index_or keys i v → map datum_of (take (i + 1) keys) ≡ map datum_of (take i keys) ++ datum_of v ∷ []
some_more keys i v lt e =
    ap (map datum_of) (take_more keys i v lt) ∙ (map-append datum_of (take i keys) (slice_index_or keys i v ∷ []) ∙ ap (λ w. map datum_of (take i keys) ++ datum_of w ∷ []) (sym e))
