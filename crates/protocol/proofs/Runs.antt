-- What a stage shard puts out leads each view shard from the old line to the new.
use Rattle.std.proofs.Common.{◌≡◌, ℕ, zero, suc, Bool, true, false, cond, List, [], ◌∷◌, ◌++◌, map, length, slice_get, slice_set, Option, Some, None, refl, ap, sym, ◌∙◌, subst}
use Rattle.std.specs.List.{list_all}
use Rattle.row.specs.Bags.{Each}
use Rattle.row.specs.Cells.{Datum}
use Rattle.plan.specs.Layouts.{Layout}
use Rattle.model.specs.Logs.{Change}
use Rattle.model.specs.Places.{sources}
use Rattle.model.specs.Queries.{Line}
use mathlib.Core.List.{IsPrefix}
use Rattle.packet.specs.Readers.{Reader, readers, is_of, view_of}
use Rattle.packet.specs.Messages.{Ask, BasePacketView, Sent, Mark, Piece, none_of}
use Rattle.packet.specs.Keys.{Keys, open_at}
use Rattle.partial.specs.States.{is_filled}
use Rattle.packet.specs.Marks.{come, complete, partly}
use Rattle.packet.specs.Named.{for_each, named}
use Rattle.packet.specs.Truth.{Grows}
use Rattle.protocol.proofs.Leading.{IsRun, Leads, IsStep}
use Rattle.protocol.specs.Stages.{Stage, ToStage, packet, request, order, Done, knows, of_stage_key, behind, keys_for}
use Rattle.protocol.specs.StageSteps.{step, next, quiet, put, append_each, takes, packet_taken, unknown, order_taken, goes, notice, moved, with_marker, with_piece, looks, look_all, look, asks, answered, caps, cap_kept, shrink, oldest_goes, first_goes, excess}
use Rattle.model.proofs.Prefixes.{prefix_self}
use Rattle.std.proofs.lemmas.List.{length-map}
use Rattle.protocol.specs.Laws.{IsNext}

pub line_self : (line : Line) → Grows line line
line_self [] = tt
line_self (f ∷ fs) = (prefix_self f, line_self fs)

-- one front goes on
pub line_set : (line : Line) (j : ℕ) (from to : List Change) → slice_get line j ≡ Some from → IsPrefix from to → Grows line (slice_set line j to)
line_set [] j from to h b = tt
line_set (f ∷ fs) zero from to h b = let e : f ≡ from = cc in (subst (λ x. IsPrefix x to) (sym e) b, line_self fs)
line_set (f ∷ fs) (suc j) from to h b = (prefix_self f, line_set fs j from to h b)

-- packets that follow others
pub leads_append : {F P : Type 0} (from to : P → F) (S : P → Type 0) (a b c : F) (xs ys : List P) → Leads from to S a xs b → Leads from to S b ys c → Leads from to S a (xs ++ ys) c
leads_append from to S a b c [] ys r q = subst (λ l. Leads from to S l ys c) (sym r) q
leads_append from to S a b c (x ∷ xs) ys r q = (r.0, r.1, leads_append from to S (to x) b c xs ys r.2 q)

pub run_append : (a b c : Line) (xs ys : List Sent) → IsRun a xs b → IsRun b ys c → IsRun a (xs ++ ys) c
run_append a b c xs ys r q = leads_append (λ (x : Sent). x.from) (λ (x : Sent). x.to) IsStep a b c xs ys r q

tail_size : {X : Type 0} (x : X) (xs : List X) (y : X) (ys : List X) → length (x ∷ xs) ≡ length (y ∷ ys) → length xs ≡ length ys
tail_size x xs y ys e = cc

abbrev pub AreRuns : Line → List (List Sent) → Line → Type 0
AreRuns a xss b = Each (λ xs. IsRun a xs b) xss

runs_append : (a b c : Line) (xss yss : List (List Sent)) → length xss ≡ length yss → AreRuns a xss b → AreRuns b yss c → AreRuns a (append_each xss yss) c
runs_append a b c [] [] e r q = tt
runs_append a b c [] (ys ∷ yss) e r q = cc
runs_append a b c (xs ∷ xss) [] e r q = cc
runs_append a b c (xs ∷ xss) (ys ∷ yss) e r q = (run_append a b c xs ys r.0 q.0, runs_append a b c xss yss (tail_size xs xss ys yss e) r.1 q.1)

append_size : {X : Type 0} (xss yss : List (List X)) → length xss ≡ length yss → length (append_each xss yss) ≡ length xss
append_size [] [] e = refl
append_size [] (ys ∷ yss) e = cc
append_size (xs ∷ xss) [] e = refl
append_size (xs ∷ xss) (ys ∷ yss) e = ap suc (append_size xss yss cc)

quiet_runs : (a : Line) (rs : List Reader) → AreRuns a (none_of rs) a
quiet_runs a [] = tt
quiet_runs a (r ∷ rs) = (refl, quiet_runs a rs)

each_runs : (a b : Line) (f : Option (List Datum) → Reader → List Sent) → ((asked : Option (List Datum)) (r : Reader) → IsRun a (f asked r) b)
    → (asked : Option (List (List Datum))) (rs : List Reader) → AreRuns a (for_each f asked rs) b
each_runs a b f h asked [] = tt
each_runs a b f h None (r ∷ rs) = (h None r, each_runs a b f h None rs)
each_runs a b f h (Some []) (r ∷ rs) = (h (Some []) r, each_runs a b f h (Some []) rs)
each_runs a b f h (Some (x ∷ rest)) (r ∷ rs) = (h (Some x) r, each_runs a b f h (Some rest) rs)

each_size : (f : Option (List Datum) → Reader → List Sent) (asked : Option (List (List Datum))) (rs : List Reader) → length (for_each f asked rs) ≡ length rs
each_size f asked [] = refl
each_size f None (r ∷ rs) = ap suc (each_size f None rs)
each_size f (Some []) (r ∷ rs) = ap suc (each_size f (Some []) rs)
each_size f (Some (x ∷ rest)) (r ∷ rs) = ap suc (each_size f (Some rest) rs)

-- what a phase does from a line on
pub record Ran (p : Layout) (a : Line) (d : Done) : Type 0 where
  pub plan : d.stage.plan ≡ p
  pub runs : AreRuns a d.sent d.stage.line
  pub size : length d.sent ≡ length (readers p)

ran_next : (p : Layout) (a : Line) (d : Done) (f : Stage → Done) → Ran p a d → ((t : Stage) → Ran t.plan t.line (f t)) → Ran p a (next d f)
ran_next p a d f r h =
    let q = h d.stage in
    let e : length (f d.stage).sent ≡ length (readers p) = q.size ∙ ap (λ x. length (readers x)) r.plan in
    record {
      plan = q.plan ∙ r.plan;
      runs = runs_append a d.stage.line (f d.stage).stage.line d.sent (f d.stage).sent (r.size ∙ sym e) r.runs q.runs;
      size = append_size d.sent (f d.stage).sent (r.size ∙ sym e) ∙ r.size;
    }

ran_quiet : (s : Stage) → Ran s.plan s.line (quiet s)
ran_quiet s = record { plan = refl; runs = quiet_runs s.line (readers s.plan); size = length-map (readers s.plan) (λ r. []) }

ran_put : (a : Line) (s : Stage) (f : Option (List Datum) → Reader → List Sent) → ((asked : Option (List Datum)) (r : Reader) → IsRun a (f asked r) s.line) → Ran s.plan a (put s f)
ran_put a s f h = record { plan = refl; runs = each_runs a s.line f h s.asked (readers s.plan); size = each_size f s.asked (readers s.plan) }

notice_runs : (a : Line) (ks : List Datum) → IsRun a (notice a ks) a
notice_runs a [] = refl
notice_runs a (k ∷ ks) = (refl, line_self a, refl)

marks_run : (a : Line) (ms : List Mark) → IsRun a (map (with_marker a) ms) a
marks_run a [] = refl
marks_run a (m ∷ ms) = (refl, line_self a, marks_run a ms)

piece_runs : (a : Line) (b : Bool) (k : Datum) → IsRun a (cond b (with_piece a k ∷ []) []) a
piece_runs a true k = (refl, line_self a, refl)
piece_runs a false k = refl

ran_goes : (s : Stage) (keys : Keys) (x : Datum) → Ran s.plan s.line (goes s keys x)
ran_goes s keys x = ran_put s.line (record s { right = (Some (open_at x keys)) }) _ (λ asked r. notice_runs s.line (named asked (keys_for s.plan (of_stage_key s x) r)))

ran_cond : (p : Layout) (a : Line) (b : Bool) (d e : Done) → Ran p a d → Ran p a e → Ran p a (cond b d e)
ran_cond p a true d e x y = x
ran_cond p a false d e x y = y

-- ---- the three phases
-- a packet is next
abbrev pub GoesOn : Stage → ToStage → Type 0
GoesOn s (packet j k) = IsNext s j k
GoesOn s (request a) = Unit {0}
GoesOn s (order x) = Unit {0}

ran_packet : (s : Stage) (j : ℕ) (k : BasePacketView) (piece : Option Piece) (m : Option Mark) → IsNext s j k → Ran s.plan s.line (packet_taken s j k piece m)
ran_packet s j k None None g =
    let to = slice_set s.line j k.to in
    let h : (asked : Option (List Datum)) (r : Reader) → IsRun s.line (moved s.line to (named asked (keys_for s.plan (unknown s j k.changes) r)) ∷ []) to
    = λ asked r. (refl, line_set s.line j k.from k.to g.from g.grows, refl) in
    ran_put s.line (record s { line = to }) (λ asked r. moved s.line to (named asked (keys_for s.plan (unknown s j k.changes) r)) ∷ []) h
ran_packet s j k None (Some m) g =
    let marks = come (length (sources s.plan)) j m s.marks in
    ran_put s.line (record s { marks = partly marks })
    (λ asked r. map (with_marker s.line) (complete marks)) (λ asked r. marks_run s.line (complete marks))
ran_packet s j k (Some piece) m g = ran_quiet (record s { right = _ })

ran_order : (s : Stage) (right : Option Keys) (x : Datum) → Ran s.plan s.line (order_taken s right x)
ran_order s None x = ran_quiet s
ran_order s (Some keys) x = ran_cond s.plan s.line (is_filled (keys.at x)) (goes s keys x) (quiet s) (ran_goes s keys x) (ran_quiet s)

ran_takes : (s : Stage) (m : ToStage) → GoesOn s m → Ran s.plan s.line (takes s m)
ran_takes s (packet j k) g = ran_packet s j k k.piece k.marker g
ran_takes s (request a) g = ran_quiet (record s { pending = (s.pending ++ a ∷ []) })
ran_takes s (order x) g = ran_order s s.right x

ran_asks : (s : Stage) (needed : List Datum) → Ran s.plan s.line (asks s needed)
ran_asks s needed = record { plan = refl; runs = quiet_runs s.line (readers s.plan); size = length-map (readers s.plan) (λ r. []) }

ran_answered : (a : Ask) (needed : List Datum) (s : Stage) → Ran s.plan s.line (answered s a needed)
ran_answered a needed s =
    ran_cond s.plan s.line (list_all (knows s.right) needed) _ _
    (ran_put s.line s _ (λ asked r. piece_runs s.line (is_of s.plan (view_of a.tag) a.key r) a.key))
    (ran_quiet (record s { pending = (s.pending ++ a ∷ []) }))

ran_look : (a : Ask) (s : Stage) → Ran s.plan s.line (look s a)
ran_look a s = ran_next s.plan s.line (asks s (behind s (view_of a.tag) a.key)) _ (ran_asks s _) (ran_answered a (behind s (view_of a.tag) a.key))

ran_look_all : (waiting : List Ask) (s : Stage) → Ran s.plan s.line (look_all waiting s)
ran_look_all [] s = ran_quiet s
ran_look_all (a ∷ rest) s = ran_next s.plan s.line (look s a) (look_all rest) (ran_look a s) (ran_look_all rest)

ran_first : (s : Stage) (keys : Keys) (xs : List Datum) → Ran s.plan s.line (first_goes s keys xs)
ran_first s keys [] = ran_quiet s
ran_first s keys (x ∷ xs) = ran_goes s keys x

ran_oldest : (s : Stage) (right : Option Keys) → Ran s.plan s.line (oldest_goes s right)
ran_oldest s None = ran_quiet s
ran_oldest s (Some keys) = ran_first s keys keys.order

ran_shrink : (n : ℕ) (s : Stage) → Ran s.plan s.line (shrink n s)
ran_shrink zero s = ran_quiet s
ran_shrink (suc n) s = ran_next s.plan s.line (oldest_goes s s.right) (shrink n) (ran_oldest s s.right) (ran_shrink n)

pub ran_caps : (s : Stage) → Ran s.plan s.line (caps s)
ran_caps s = by s.pending
  where
    by : (waiting : List Ask) → Ran s.plan s.line (cap_kept s waiting)
    by [] = ran_shrink (excess s.plan.cap s.right) s
    by (a ∷ waiting) = ran_quiet s

-- one message: each view shard is led from the old line to the new
pub ran : (s : Stage) (m : ToStage) → GoesOn s m → Ran s.plan s.line (step s m)
ran s m g =
    ran_next s.plan s.line (next (takes s m) looks) caps
    (ran_next s.plan s.line (takes s m) looks (ran_takes s m g) (λ t. ran_look_all t.pending (record t { pending = [] })))
    ran_caps
