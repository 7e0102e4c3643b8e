-- Each kind of step keeps what holds of all edges.
use Rattle.std.proofs.Common.{◌≡◌, ℕ, zero, suc, ◌==◌, ◌≤◌, Bool, true, false, cond, List, [], ◌∷◌, map, length, slice_get, slice_set, slice_index_or, Option, Some, None, refl, ap, sym, ◌∙◌, subst, arith, ◌⊎◌, inl, inr}
use Rattle.std.proofs.lemmas.Bool.Decides.{nat_tests}
use Rattle.row.specs.Bags.{Each}
use Rattle.plan.specs.Layouts.{Layout}
use Rattle.protocol.specs.Bases as base
use Rattle.protocol.specs.Stages as stage
use Rattle.protocol.specs.Views as view
use Rattle.model.specs.Places.{sources}
use Rattle.model.specs.Queries.{Line}
use Rattle.model.specs.Histories.{Author, Lengths}
use Rattle.model.specs.Cuts.{IsAtMost}
use mathlib.Core.List.{IsPrefix}
use Rattle.packet.specs.Readers.{readers}
use Rattle.packet.specs.Messages.{Ask, BasePacketView, Sent}
use Rattle.packet.specs.Truth.{Pointwise, Grows}
use Rattle.protocol.proofs.Leading.{IsRun, IsBaseRun}
use Rattle.protocol.specs.Bases.{Base}
use Rattle.protocol.specs.Stages.{Stage}
use Rattle.protocol.specs.Views.{View}
use Rattle.protocol.specs.Worlds.{Node, World, Caller, Fence}
use Rattle.model.specs.Legal.{most_sessions}
use Rattle.protocol.specs.WorldSteps.{lengths_of, base_did, stage_did, view_did, base_sent, runs_on}
use Rattle.protocol.specs.Edges.{source_place, pushed}
use Rattle.protocol.proofs.Wired.{with_callers, Wired, Edges, entries_in, entries_at, source_logs, lines_of, readers_in, AreBases, IsNumbered, IsCaller, IsFloor, IsAck, AreAcks, reader_at}
use Rattle.protocol.proofs.Lists.{each_set, each_to, set_size, set_at, map_set, map_get, map_same, pair_size, pair_left, got}
use Rattle.protocol.proofs.EdgeLaws.{edges_push}
use Rattle.protocol.proofs.Spots.{AreOnce, sources_once, apart_is, same_is, found, position_cons}
use Rattle.protocol.proofs.Parts.{HasSent, base_runs, stage_runs}
use Rattle.model.proofs.Prefixes.{prefix_length}
use Rattle.std.specs.Prelude.{position}
use Rattle.model.proofs.Growth.{at_most_trans}
use Rattle.std.specs.Option.{option_map}
use Rattle.protocol.proofs.Runs.{line_self}
use Rattle.std.proofs.lemmas.List.{length-map}

-- ---- lengths
pub line_len : (l m : Line) → Grows l m → (j : ℕ) → slice_index_or (map length l) j 0 ≤ slice_index_or (map length m) j 0
line_len [] [] g j = omega arith
line_len [] (y ∷ m) g j = absurd g
line_len (x ∷ l) [] g j = absurd g
line_len (x ∷ l) (y ∷ m) g zero = prefix_length x y g.0
line_len (x ∷ l) (y ∷ m) g (suc j) = line_len l m g.1 j

pub cut_len : (c d : List Line) → Pointwise Grows c d → IsAtMost (lengths_of c) (lengths_of d)
cut_len [] [] g s j = omega arith
cut_len [] (m ∷ d) g s j = absurd g
cut_len (l ∷ c) [] g s j = absurd g
cut_len (l ∷ c) (m ∷ d) g zero j = line_len l m g.0 j
cut_len (l ∷ c) (m ∷ d) g (suc s) j = cut_len c d g.1 s j

cut_self : (c : List Line) → Pointwise Grows c c
cut_self [] = tt
cut_self (l ∷ c) = (line_self l, cut_self c)

pub cut_set : (c : List Line) (s : ℕ) (from to : Line) → slice_get c s ≡ Some from → Grows from to → Pointwise Grows c (slice_set c s to)
cut_set [] s from to at g = tt
cut_set (l ∷ c) zero from to at g = let e : l ≡ from = cc in (subst (λ x. Grows x to) (sym e) g, cut_self c)
cut_set (l ∷ c) (suc s) from to at g = (line_self l, cut_set c s from to at g)

-- ---- logs
get_other : {X : Type 0} (xs : List X) (b : ℕ) (x : X) (c : ℕ) → (c == b) ≡ false → slice_get (slice_set xs b x) c ≡ slice_get xs c
get_other [] b x c e = refl
get_other (y ∷ xs) zero x zero e = absurd (grind (arith, nat_tests))
get_other (y ∷ xs) zero x (suc c) e = refl
get_other (y ∷ xs) (suc b) x zero e = refl
get_other (y ∷ xs) (suc b) x (suc c) e = get_other xs b x c (grind (arith, nat_tests))

pub entries_other : (bases : List (Node Base)) (b : ℕ) (n : Node Base) (c : ℕ) → (c == b) ≡ false → entries_at (slice_set bases b n) c ≡ entries_at bases c
entries_other bases b n c e = ap entries_in (get_other bases b n c e)

-- none of these is b
logs_apart : (bases : List (Node Base)) (b x : ℕ) (n : Node Base) (xs : List ℕ) → (x == b) ≡ true → Each (λ y. (x == y) ≡ false) xs → map (entries_at (slice_set bases b n)) xs ≡ map (entries_at bases) xs
logs_apart bases b x n [] e h = refl
logs_apart bases b x n (y ∷ xs) e h =
    let a = entries_other bases b n y (apart_is x b y e h.0) in
    let r = logs_apart bases b x n xs e h.1 in cc

pub logs_none : (bases : List (Node Base)) (b : ℕ) (n : Node Base) (xs : List ℕ) → position (λ c. c == b) xs ≡ None → map (entries_at (slice_set bases b n)) xs ≡ map (entries_at bases) xs
logs_none bases b n [] e = refl
logs_none bases b n (x ∷ xs) e = by (x == b) refl (position (λ c. c == b) xs) refl (logs_none bases b n xs) (sym (position_cons (λ c. c == b) x xs) ∙ e)
  where
    by : (t : Bool) → (x == b) ≡ t → (o : Option ℕ) → position (λ c. c == b) xs ≡ o → (position (λ c. c == b) xs ≡ None → map (entries_at (slice_set bases b n)) xs ≡ map (entries_at bases) xs)
        → cond t (Some 0) (option_map suc o) ≡ None → map (entries_at (slice_set bases b n)) (x ∷ xs) ≡ map (entries_at bases) (x ∷ xs)
    by true t o q rest e = cc
    by false t None q rest e = let a = entries_other bases b n x t in let r = rest q in cc
    by false t (Some m) q rest e = cc

pub logs_set : (bases : List (Node Base)) (b : ℕ) (m n : Node Base) (xs : List ℕ) (j : ℕ) → slice_get bases b ≡ Some m → AreOnce xs → position (λ c. c == b) xs ≡ Some j
    → map (entries_at (slice_set bases b n)) xs ≡ slice_set (map (entries_at bases) xs) j n.is.entries
logs_set bases b m n [] j at once e = refl
logs_set bases b m n (x ∷ xs) j at once e = by (x == b) refl (position (λ c. c == b) xs) refl (λ k. logs_set bases b m n xs k at once.1) (sym (position_cons (λ c. c == b) x xs) ∙ e)
  where
    by : (t : Bool) → (x == b) ≡ t → (o : Option ℕ) → position (λ c. c == b) xs ≡ o
        → ((k : ℕ) → position (λ c. c == b) xs ≡ Some k → map (entries_at (slice_set bases b n)) xs ≡ slice_set (map (entries_at bases) xs) k n.is.entries)
        → cond t (Some 0) (option_map suc o) ≡ Some j → map (entries_at (slice_set bases b n)) (x ∷ xs) ≡ slice_set (map (entries_at bases) (x ∷ xs)) j n.is.entries
    by true t o q rest e =
        let z : j ≡ 0 = cc in
        let s : x ≡ b = same_is x b t in
        let a : entries_at (slice_set bases b n) x ≡ n.is.entries = ap (entries_at (slice_set bases b n)) s ∙ ap entries_in (set_at bases b n m at) in
        let r = logs_apart bases b x n xs t once.0 in
        rw z (cc (a, r))
    by false t None q rest e = cc
    by false t (Some k) q rest e =
        let z : j ≡ suc k = cc in
        let a = entries_other bases b n x t in
        let r = rest k q in
        rw z (cc (a, r))

pub log_at : (p : Layout) (bases : List (Node Base)) (b : ℕ) (m : Node Base) (j : ℕ) → slice_get bases b ≡ Some m → source_place p b ≡ Some j → slice_get (source_logs p bases) j ≡ Some m.is.entries
log_at p bases b m j at e =
    let f = found (λ c. c == b) (sources p) j e in
    map_get (entries_at bases) (sources p) j f.it f.at ∙ ap Some (ap (entries_at bases) (same_is f.it b f.passes) ∙ ap entries_in at)

-- ---- a base shard does something
base_lines : (w : World) (b : ℕ) (n : Node Base) (d : base.Done) → slice_get w.bases b ≡ Some n → Wired w → (o : Option ℕ) → source_place w.plan b ≡ o
    → ((j : ℕ) → o ≡ Some j → HasSent w.plan n.is.entries d.base.entries d.sent)
    → Edges IsBaseRun IsPrefix (λ (s : Stage). s.line) w.stages (base_sent o d.sent w.to_stage) (source_logs w.plan (runs_on b d.base w.bases))
base_lines w b n d at h None e sent =
    subst (Edges IsBaseRun IsPrefix (λ (s : Stage). s.line) w.stages w.to_stage) (sym (logs_none w.bases b (record { is = d.base; runs = true }) (sources w.plan) e)) h.lines
base_lines w b n d at h (Some j) e sent =
    let s = sent j refl in
    subst (Edges IsBaseRun IsPrefix (λ (s : Stage). s.line) w.stages (pushed j d.sent w.to_stage)) (sym (logs_set w.bases b n (record { is = d.base; runs = true }) (sources w.plan) j at (sources_once w.plan h.good) e))
    (edges_push IsBaseRun IsPrefix base_runs (λ (s : Stage). s.line) w.stages w.to_stage (source_logs w.plan w.bases) j n.is.entries d.base.entries d.sent (log_at w.plan w.bases b n j at e) s.runs
    (s.size ∙ (sym h.staged ∙ pair_size _ w.stages w.to_stage h.lines)) h.lines)

pub wired_base : (w : World) (callers : List Caller) (b : ℕ) (n : Node Base) (d : base.Done) → slice_get w.bases b ≡ Some n → Wired w
    → ((j : ℕ) → source_place w.plan b ≡ Some j → HasSent w.plan n.is.entries d.base.entries d.sent)
    → AreBases w.plan callers (runs_on b d.base w.bases) → Each (IsCaller w.views) callers → length callers ≡ most_sessions
    → Wired (base_did (with_callers w callers) b d)
wired_base w callers b n d at h sent bases calls size = record {
  good = h.good;
  bases = bases;
  counted = set_size w.bases b (record { is = d.base; runs = true }) ∙ h.counted;
  staged = h.staged;
  planned = h.planned;
  viewed = h.viewed;
  lines = base_lines w b n d at h (source_place w.plan b) refl sent;
  cuts = h.cuts;
  callers = calls;
  sixteen = size;
}

-- ---- queues change
abbrev pub with_edges : World → List (List (List BasePacketView)) → List (List (List Sent)) → List (List (List Ask)) → List (List (List Ask)) → World
with_edges w ts tv fv tb = record w { to_stage = ts; to_view = tv; from_view = fv; to_base = tb }

pub wired_edges : (w : World) (ts : List (List (List BasePacketView))) (tv : List (List (List Sent))) (fv tb : List (List (List Ask))) → Wired w
    → Edges IsBaseRun IsPrefix (λ (s : Stage). s.line) w.stages ts (source_logs w.plan w.bases) → Edges IsRun Grows (λ (v : View). v.cut) w.views tv (lines_of w.stages) → Wired (with_edges w ts tv fv tb)
wired_edges w ts tv fv tb h lines cuts = record { good = h.good; bases = h.bases; counted = h.counted; staged = h.staged; planned = h.planned; viewed = h.viewed; lines = lines; cuts = cuts; callers = h.callers; sixteen = h.sixteen }

pub readers_size : (views : List (Node View)) → length (readers_in views) ≡ length views
readers_size views = length-map views (λ (n : Node View). reader_at n.is.view n.is.shard)

-- ---- a stage shard does something
pub wired_stage : (w : World) (ts : List (List (List BasePacketView))) (fv tb : List (List (List Ask))) (s : ℕ) (n : Node Stage) (d : stage.Done) → slice_get w.stages s ≡ Some n → Wired w
    → d.stage.plan ≡ w.plan → Each (λ ps. IsRun n.is.line ps d.stage.line) d.sent → length d.sent ≡ length (readers w.plan)
    → Edges IsBaseRun IsPrefix (λ (s : Stage). s.line) (runs_on s d.stage w.stages) ts (source_logs w.plan w.bases)
    → Wired (stage_did (with_edges w ts w.to_view fv tb) s d)
wired_stage w ts fv tb s n d at h plan runs size lines = record {
  good = h.good;
  bases = h.bases;
  counted = h.counted;
  staged = set_size w.stages s (record { is = d.stage; runs = true }) ∙ h.staged;
  planned = each_set (λ (n : Node Stage). n.is.plan ≡ w.plan) w.stages s (record { is = d.stage; runs = true }) plan h.planned;
  viewed = h.viewed;
  lines = lines;
  cuts = subst (Edges IsRun Grows (λ (v : View). v.cut) w.views (pushed s d.sent w.to_view)) (sym (map_set (λ (n : Node Stage). n.is.line) w.stages s (record { is = d.stage; runs = true })))
      (edges_push IsRun Grows stage_runs (λ (v : View). v.cut) w.views w.to_view (lines_of w.stages) s n.is.line d.stage.line d.sent (map_get (λ (n : Node Stage). n.is.line) w.stages s n at) runs
      (size ∙ (ap length (sym h.viewed) ∙ (readers_size w.views ∙ pair_size _ w.views w.to_view h.cuts))) h.cuts);
  callers = h.callers;
  sixteen = h.sixteen;
}

-- ---- a view shard does something
floors_more : (views : List (Node View)) (r : ℕ) (n m : Node View) (floors : List Lengths) → slice_get views r ≡ Some n → IsAtMost (lengths_of n.is.cut) (lengths_of m.is.cut)
    → Pointwise IsFloor views floors → Pointwise IsFloor (slice_set views r m) floors
floors_more views r n m floors at more h = pair_left IsFloor views floors r n m at (λ f g. at_most_trans f (lengths_of n.is.cut) (lengths_of m.is.cut) g more) h

ack_more : (n m : Node View) (ack : Option Lengths) → IsAtMost (lengths_of n.is.cut) (lengths_of m.is.cut) → IsAck n ack → IsAck m ack
ack_more n m None more h = tt
ack_more n m (Some c) more h = at_most_trans c (lengths_of n.is.cut) (lengths_of m.is.cut) h more

acks_more : (views : List (Node View)) (r : ℕ) (n m : Node View) (fence : Option Fence) → slice_get views r ≡ Some n → IsAtMost (lengths_of n.is.cut) (lengths_of m.is.cut)
    → AreAcks views fence → AreAcks (slice_set views r m) fence
acks_more views r n m None at more h = tt
acks_more views r n m (Some f) at more h = pair_left IsAck views f.acks r n m at (λ a. ack_more n m a more) h

pub callers_more : (views : List (Node View)) (r : ℕ) (n m : Node View) (callers : List Caller) → slice_get views r ≡ Some n → IsAtMost (lengths_of n.is.cut) (lengths_of m.is.cut)
    → Each (IsCaller views) callers → Each (IsCaller (slice_set views r m)) callers
callers_more views r n m callers at more h =
    each_to (IsCaller views) (IsCaller (slice_set views r m)) (λ c g. record { floors = floors_more views r n m c.floors at more g.floors; acks = acks_more views r n m c.fence at more g.acks }) callers h

pub wired_view : (w : World) (tv : List (List (List Sent))) (fv : List (List (List Ask))) (r : ℕ) (n : Node View) (d : view.Done) → slice_get w.views r ≡ Some n → Wired w
    → d.view.view ≡ n.is.view → d.view.shard ≡ n.is.shard → IsAtMost (lengths_of n.is.cut) (lengths_of d.view.cut)
    → Edges IsRun Grows (λ (v : View). v.cut) (runs_on r d.view w.views) tv (lines_of w.stages)
    → Wired (view_did (with_edges w w.to_stage tv fv w.to_base) r d)
wired_view w tv fv r n d at h view shard more cuts = record {
  good = h.good;
  bases = h.bases;
  counted = h.counted;
  staged = h.staged;
  planned = h.planned;
  viewed = map_same (λ (n : Node View). reader_at n.is.view n.is.shard) w.views r n (record { is = d.view; runs = true }) at (same view shard) ∙ h.viewed;
  lines = h.lines;
  cuts = cuts;
  callers = callers_more w.views r n (record { is = d.view; runs = true }) w.callers at more h.callers;
  sixteen = h.sixteen;
}
  where
    same : d.view.view ≡ n.is.view → d.view.shard ≡ n.is.shard → reader_at d.view.view d.view.shard ≡ reader_at n.is.view n.is.shard
    same e f = ap (λ i. reader_at i d.view.shard) e ∙ ap (reader_at n.is.view) f

-- ---- sessions change
pub wired_callers : (w : World) (callers : List Caller) → Wired w → AreBases w.plan callers w.bases → Each (IsCaller w.views) callers → length callers ≡ most_sessions → Wired (with_callers w callers)
wired_callers w callers h bases calls size = record { good = h.good; bases = bases; counted = h.counted; staged = h.staged; planned = h.planned; viewed = h.viewed; lines = h.lines; cuts = h.cuts; callers = calls; sixteen = size }

-- the numbers of sessions do not fall
abbrev pub AreLater : List Caller → List Caller → Type 0
AreLater callers others = (se : ℕ) (d : Caller) → slice_get others se ≡ Some d → (c : Caller) × (slice_get callers se ≡ Some c) × (c.number ≤ d.number)

pub later_set : (callers : List Caller) (se : ℕ) (c d : Caller) → slice_get callers se ≡ Some c → c.number ≤ d.number → AreLater callers (slice_set callers se d)
later_set callers se c d at le i e is = by (got callers se d i e is)
  where
    by : ((i ≡ se) × (e ≡ d)) ⊎ (((se == i) ≡ false) × (slice_get callers i ≡ Some e)) → (c : Caller) × (slice_get callers i ≡ Some c) × (c.number ≤ e.number)
    by (inl r) = (c, ap (slice_get callers) r.0 ∙ at, subst (λ (x : Caller). c.number ≤ x.number) (sym r.1) le)
    by (inr r) = (e, r.1, omega arith)

pub numbered_later : (callers others : List Caller) → AreLater callers others → (a : Author) → IsNumbered callers a → IsNumbered others a
numbered_later callers others l a h d at = let r = l a.session d at in let s = h r.0 r.1 in let t = r.2 in omega arith

pub bases_later : (p : Layout) (callers others : List Caller) (bases : List (Node Base)) → AreLater callers others → AreBases p callers bases → AreBases p others bases
bases_later p callers others bases l h b n at =
    let r = h b n at in
    record { plan = r.plan; base = r.base; range = r.range; log = r.log; authors = r.authors; numbers = each_to (IsNumbered callers) (IsNumbered others) (numbered_later callers others l) n.is.authors r.numbers }

-- one session changes; its number does not fall
pub wired_caller : (w : World) (se : ℕ) (c d : Caller) → slice_get w.callers se ≡ Some c → c.number ≤ d.number → IsCaller w.views d → Wired w → Wired (with_callers w (slice_set w.callers se d))
wired_caller w se c d at le is h =
    wired_callers w (slice_set w.callers se d) h (bases_later w.plan w.callers (slice_set w.callers se d) w.bases (later_set w.callers se c d at le) h.bases)
    (each_set (IsCaller w.views) w.callers se d is h.callers) (set_size w.callers se d ∙ h.sixteen)
