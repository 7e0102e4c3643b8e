-- A packet that a view domain takes in: what it may, and what is then true.
use Rattle.std.proofs.Common.{◌≡◌, ℕ, zero, suc, ◌+◌, ◌≤◌, ◌<◌, Bool, true, false, ◌||◌, List, [], ◌∷◌, map, length, Option, Some, None, slice_get, slice_set, get_or, IsTrue, IfSome, refl, ap, sym, ◌∙◌, subst, arith, true≢false}
use Rattle.row.specs.Bags.{Each, sorted}
use Rattle.row.specs.BagChanges.{with_records}
use Rattle.row.specs.Cells.{Datum, Cells, datum_of, row_cmp, same}
use Rattle.row.specs.CellOrder.{row_total, row_same}
use Rattle.row.specs.Changes.{Turns, IsCovered}
use Rattle.row.specs.Groups.{equal}
use Rattle.row.specs.declared.record.Record.{Record}
use Rattle.row.specs.declared.value.Value.{Value}
use Rattle.row.proofs.BagChanges.{times-with_records, IsAscending-with_records}
use Rattle.row.proofs.BagLemmas.{one_list, IsAscending-sorted, times-sorted, Each-weaker}
use Rattle.row.proofs.Shards.{same_is}
use Rattle.plan.specs.Layouts.{Layout, view_at}
use Rattle.model.specs.Fronts.{LogView}
use Rattle.model.specs.Histories.{view_shard}
use Rattle.model.specs.Queries.{Line, part, parts}
use Rattle.partial.specs.BagLaws.{total_changes, total_fits}
use Rattle.partial.specs.States.{state_of, ChangeFits}
use Rattle.partial.specs.Sums.{sum_of_bags}
use Rattle.partial.specs.Truth.{IsTrueOf}
use Rattle.partial.proofs.Truth.{change_fits}
use Rattle.packet.specs.Keys.{is_among, stands_of}
use Rattle.packet.specs.Lines.{AreOf, IsOf, entries_of, fronts_to}
use Rattle.packet.specs.Messages.{Ask, KeyedRecord, Piece, StagePacketView, to_one}
use Rattle.packet.specs.Marks.{Gathering, MarksView, complete, partly}
use Rattle.packet.specs.Codes.{mark_in, marks_in}
use Rattle.packet.specs.Outboxes.{packets_on}
use Rattle.packet.specs.Readers.{tag_of}
use Rattle.model.specs.Places.{sources}
use Rattle.packet.specs.declared.mode.Mode.{Mode}
use Rattle.packet.specs.declared.mode.Mode.TheVariants as mode
use Rattle.packet.specs.declared.request.Marker.{Marker}
use Rattle.protocol.specs.Views.{packet as sent_by}
use Rattle.protocol.specs.ViewSteps.{again, ask, capped, counted, drop_all, give_piece, marks_with, packet_taken}
use Rattle.packet.specs.Truth.{Pointwise, Grows, Given, IsTrueStage, IsStagePiece, IsStillStage, IsTold, changes_at, key_of_piece, sent_of, view_shares}
use Rattle.view_domain.specs.Codes.{GoesWith, IsFrom}
use Rattle.view_domain.specs.Domains.{Domain, HoldsTruth, lines_of, view_of}
use Rattle.view_domain.proofs.LineSteps.{pointwise_length}
use Rattle.view_domain.proofs.Holds.{goes_on, same_line}
use Rattle.view_domain.specs.Outboxes.{OutboxView, ShownView, new_line, put_line, keys_told, line_told, cut_after, asked_after}
use Rattle.view_domain.specs.Shown.{rows_at, LeadsTo}
use Rattle.view_domain.specs.declared.shown.KeyChange.{KeyChange}
use Rattle.view_domain.specs.Received.{IsDone, IsNextLine, IsShown}
use Rattle.packet.specs.Groups.{named_in}
use Rattle.view_domain.specs.Taken.{IsStepOf, IsPieceFor, asks_by}
use Rattle.view_domain.proofs.AskSteps.{still_waiting}
use Rattle.view_domain.proofs.BagSteps.{sorted_twice}
use Rattle.view_domain.proofs.TakeSteps.{set_same}
use Rattle.packet.proofs.KeySteps.{Store}

-- ---- lines of the same logs
one_log : (are_one : LogView → LogView → Type 0) (p : Layout) (b : ℕ) (l t : LogView) → IsOf p b l → IsOf p b t → GoesWith are_one l t.entries → are_one l t
one_log are_one p b l t x y h = subst (are_one l) (λ i. record { plan = (x.plan ∙ sym y.plan) i; base = (x.base ∙ sym y.base) i; entries = t.entries }) h

pub one_line : (are_one : LogView → LogView → Type 0) (p : Layout) (bs : List ℕ) (line to : List LogView) → Pointwise (IsOf p) bs line → Pointwise (IsOf p) bs to → Pointwise (GoesWith are_one) line (entries_of to) → Pointwise are_one line to
one_line are_one p [] [] [] a b h = tt
one_line are_one p [] (l ∷ ls) to a b h = absurd a
one_line are_one p [] [] (t ∷ ts) a b h = absurd b
one_line are_one p (n ∷ ns) [] to a b h = absurd a
one_line are_one p (n ∷ ns) (l ∷ ls) [] a b h = absurd b
one_line are_one p (n ∷ ns) (l ∷ ls) (t ∷ ts) a b h = (one_log are_one p n l t a.0 b.0 h.0, one_line are_one p ns ls ts a.1 b.1 h.1)

fronts_count : (ns : List ℕ) (line : Line) → length (fronts_to ns line) ≤ length ns
fronts_count [] line = omega arith
fronts_count (n ∷ ns) [] = omega arith
fronts_count (n ∷ ns) (f ∷ fs) = omega (arith, fronts_count ns fs)

grows_count : {X Y : Type 0} (R : X → Y → Type 0) (xs : List X) (ys : List Y) → Pointwise R xs ys → length ys ≡ length xs
grows_count R [] [] h = refl
grows_count R [] (y ∷ ys) h = absurd h
grows_count R (x ∷ xs) [] h = absurd h
grows_count R (x ∷ xs) (y ∷ ys) h = omega (arith, grows_count R xs ys h.1)

entries_count : (line : List LogView) → length (entries_of line) ≡ length line
entries_count [] = refl
entries_count (l ∷ ls) = omega (arith, entries_count ls)

pub lengths_reach : (from : List ℕ) (to : List LogView) → Grows (fronts_to from (entries_of to)) (entries_of to) → length to ≤ length from
lengths_reach from to h = omega (arith, fronts_count from (entries_of to), grows_count _ (fronts_to from (entries_of to)) (entries_of to) h, entries_count to)

-- ---- lists with one place set
get_map : {X Y : Type 0} (f : X → Y) (xs : List X) (i : ℕ) (x : X) → slice_get xs i ≡ Some x → slice_get (map f xs) i ≡ Some (f x)
get_map f [] i x h = cc
get_map f (y ∷ ys) zero x h = let e : y ≡ x = cc in ap (λ z. Some (f z)) e
get_map f (y ∷ ys) (suc i) x h = get_map f ys i x h

pub map_set : {X Y : Type 0} (f : X → Y) (xs : List X) (i : ℕ) (x : X) → map f (slice_set xs i x) ≡ slice_set (map f xs) i (f x)
map_set f [] i x = refl
map_set f (y ∷ ys) zero x = refl
map_set f (y ∷ ys) (suc i) x = ap (λ zs. f y ∷ zs) (map_set f ys i x)

get_set : {X : Type 0} (xs : List X) (i : ℕ) (x y : X) → slice_get xs i ≡ Some x → slice_get (slice_set xs i y) i ≡ Some y
get_set [] i x y h = cc
get_set (z ∷ zs) zero x y h = refl
get_set (z ∷ zs) (suc i) x y h = get_set zs i x y h

pub length_set : {X : Type 0} (xs : List X) (i : ℕ) (x : X) → length (slice_set xs i x) ≡ length xs
length_set [] i x = refl
length_set (y ∷ ys) zero x = refl
length_set (y ∷ ys) (suc i) x = omega (arith, length_set ys i x)

pub each_set : {X : Type 0} (P : X → Type 0) (xs : List X) (i : ℕ) (x : X) → P x → Each P xs → Each P (slice_set xs i x)
each_set P [] i x p h = tt
each_set P (y ∷ ys) zero x p h = (p, h.1)
each_set P (y ∷ ys) (suc i) x p h = (h.0, each_set P ys i x p h.1)

pub each_get : {X : Type 0} (P : X → Type 0) (xs : List X) (i : ℕ) (x : X) → slice_get xs i ≡ Some x → Each P xs → P x
each_get P [] i x h a = cc
each_get P (y ∷ ys) zero x h a = let e : y ≡ x = cc in subst P e a.0
each_get P (y ∷ ys) (suc i) x h a = each_get P ys i x h a.1

-- ---- shares
module _ (p : Layout) (i : ℕ) (k : Datum) where
  parts_get : (a : ℕ) (cut : List Line) (s : ℕ) (line : Line) → slice_get cut s ≡ Some line → slice_get (parts p a cut i k) s ≡ Some (part p (a + s) line i k)
  parts_get a [] s line h = cc
  parts_get a (f ∷ fs) zero line h = let e : f ≡ line = cc in let n : a ≡ a + 0 = omega arith in ap (λ l. Some (part p a l i k)) e ∙ ap (λ m. Some (part p m line i k)) n
  parts_get a (f ∷ fs) (suc s) line h = let n : (a + 1) + s ≡ a + suc s = omega arith in parts_get (a + 1) fs s line h ∙ ap (λ m. Some (part p m line i k)) n

  parts_set : (a : ℕ) (cut : List Line) (s : ℕ) (line : Line) → parts p a (slice_set cut s line) i k ≡ slice_set (parts p a cut i k) s (part p (a + s) line i k)
  parts_set a [] s line = refl
  parts_set a (f ∷ fs) zero line = let n : a ≡ a + 0 = omega arith in ap (λ m. part p m line i k ∷ parts p (a + 1) fs i k) n
  parts_set a (f ∷ fs) (suc s) line = let n : (a + 1) + s ≡ a + suc s = omega arith in ap (λ ps. part p a f i k ∷ ps) (parts_set (a + 1) fs s line ∙ ap (λ m. slice_set (parts p (a + 1) fs i k) s (part p m line i k)) n)

  pub share_get : (cut : List Line) (s : ℕ) (line : Line) → slice_get cut s ≡ Some line → slice_get (view_shares p i k cut) s ≡ Some (sorted row_cmp (part p s line i k))
  share_get cut s line h = let n : 0 + s ≡ s = omega arith in get_map (sorted row_cmp) (parts p 0 cut i k) s (part p s line i k) (parts_get 0 cut s line h ∙ ap (λ m. Some (part p m line i k)) n)

  pub share_set : (cut : List Line) (s : ℕ) (line : Line) → view_shares p i k (slice_set cut s line) ≡ slice_set (view_shares p i k cut) s (sorted row_cmp (part p s line i k))
  share_set cut s line = let n : 0 + s ≡ s = omega arith in ap (map (sorted row_cmp)) (parts_set 0 cut s line ∙ ap (λ m. slice_set (parts p 0 cut i k) s (part p m line i k)) n) ∙ map_set (sorted row_cmp) (parts p 0 cut i k) s (part p s line i k)

-- ---- a step of a bag
pub turned_step : (before after : List Cells) (records : List Record) → Turns before records after → IsStepOf (sorted row_cmp before) records (sorted row_cmp after)
turned_step before after records t =
    let fits : IsCovered (sorted row_cmp before) records = record { enough = λ z. omega (arith, t.each z, times-sorted row_cmp z before) } in
    record {
      fits = fits;
      is = one_list row_cmp row_total row_same (sorted row_cmp after) (with_records (sorted row_cmp before) records) (IsAscending-sorted row_cmp row_total after) (IsAscending-with_records (sorted row_cmp before) records (IsAscending-sorted row_cmp row_total before))
          (λ z. omega (arith, t.each z, times-sorted row_cmp z before, times-sorted row_cmp z after, times-with_records z (sorted row_cmp before) records fits));
    }

-- ---- what the packet tells
told_of : (x : StagePacketView) (changes : List KeyedRecord) (d : Datum) → Each (λ (c : KeyedRecord). IsTold x c.key) changes → is_among (named_in changes) d ≡ true → IsTold x d
told_of x [] d h n = absurd (true≢false (sym n))
told_of x (c ∷ cs) d h n = step (same c.key d) refl n (told_of x cs d h.1)
  where
    step : (b : Bool) → same c.key d ≡ b → (b || is_among (named_in cs) d) ≡ true → (is_among (named_in cs) d ≡ true → IsTold x d) → IsTold x d
    step true e m rest = subst (IsTold x) (same_is c.key d e) h.0
    step false e m rest = rest m

pub all_apart : (x : StagePacketView) (changes : List KeyedRecord) → Each (λ (c : KeyedRecord). IsTold x c.key) changes → Each (λ (c : KeyedRecord). is_among x.evicts c.key ≡ false) changes
all_apart x changes h = Each-weaker (λ (c : KeyedRecord). IsTold x c.key) (λ (c : KeyedRecord). is_among x.evicts c.key ≡ false) (λ c t. t.kept) changes h

module _ (d : Domain) (s : ℕ) (x : StagePacketView) (is_plan : x.plan ≡ d.plan) (is_stage : x.stage ≡ s) (is_view : x.view ≡ d.view) (is_shard : x.shard ≡ d.shard) (holds : HoldsTruth d) (is_true : IsTrueStage x) (next : slice_get (lines_of d.cut) s ≡ Some x.from) where
  abbrev share : Line → Value → List Cells
  share line k = sorted row_cmp (part d.plan s line d.view (datum_of k))

  step_of : (k : Value) → view_shard d.plan d.view (datum_of k) ≡ d.shard → is_among x.evicts (datum_of k) ≡ false → IsStepOf (share x.from k) (changes_at (datum_of k) x.changes) (share x.to k)
  step_of k own kept =
      let shard : view_shard x.plan x.view (datum_of k) ≡ x.shard = rw (is_plan, is_view, is_shard) own in
      let turns = rw (is_plan, is_stage, is_view) at (is_true.turns k shard kept) in
      turned_step (part d.plan s x.from d.view (datum_of k)) (part d.plan s x.to d.view (datum_of k)) (changes_at (datum_of k) x.changes) turns

  pub packet_fits : (k : Value) → is_among (named_in x.changes) (datum_of k) ≡ true → ChangeFits IsCovered s (changes_at (datum_of k) x.changes) (state_of equal d.kept k)
  packet_fits k n =
      let told = told_of x x.changes (datum_of k) is_true.told n in
      let own : view_shard d.plan d.view (datum_of k) ≡ d.shard = rw (← is_plan, ← is_view, ← is_shard) told.shard in
      change_fits with_records IsCovered sum_of_bags total_changes total_fits (view_shares d.plan d.view (datum_of k) (lines_of d.cut)) s (share x.from k) (changes_at (datum_of k) x.changes) (state_of equal d.kept k)
      (share_get d.plan d.view (datum_of k) (lines_of d.cut) s x.from next) (step_of k own told.kept).fits (holds.keys k own)

  piece_for : (k : Value) → IsPieceFor x.piece k (slice_set (view_shares d.plan d.view (datum_of k) (lines_of d.cut)) s (share x.to k)) s
  piece_for k = by x.piece is_true.piece is_true.alone
    where
      by : (o : Option Piece) → IsStagePiece x o → Given o (IsStillStage x) → IsPieceFor o k (slice_set (view_shares d.plan d.view (datum_of k) (lines_of d.cut)) s (share x.to k)) s
      by None h still = tt
      by (Some piece) h still = λ e.
          let rows : sorted row_cmp piece.rows ≡ share x.to k = ap (sorted row_cmp) (rw (is_plan, is_stage, is_view, e) at h) ∙ (sorted_twice (part d.plan s x.from d.view (datum_of k)) ∙ ap (λ line. share line k) still.line) in
          get_set (view_shares d.plan d.view (datum_of k) (lines_of d.cut)) s (share x.from k) (share x.to k) (share_get d.plan d.view (datum_of k) (lines_of d.cut) s x.from next) ∙ ap Some (sym rows)

  -- the lines of the cut with the packet's
  pub lines_set : (to : List LogView) → x.to ≡ entries_of to → lines_of (slice_set d.cut s to) ≡ slice_set (lines_of d.cut) s x.to
  lines_set to is_to = map_set entries_of d.cut s to ∙ ap (slice_set (lines_of d.cut) s) (sym is_to)

  -- what is held after it is true
  pub packet_holds : (new : Store) (to : List LogView) (asked : ℕ) (marks : MarksView) → x.to ≡ entries_of to → AreOf x.plan to → new.sources ≡ d.kept.sources
      → ((k : Value) (shares : List (List Cells)) (own next : List Cells) → slice_get shares s ≡ Some own → (is_among x.evicts (datum_of k) ≡ false → IsStepOf own (changes_at (datum_of k) x.changes) next) → IsPieceFor x.piece k (slice_set shares s next) s
      → IsTrueOf sum_of_bags shares (state_of equal d.kept k) → IsTrueOf sum_of_bags (slice_set shares s next) (state_of equal new k)) → marks.senders ≡ d.marks.senders → complete marks.waiting ≡ [] → HoldsTruth (record d { cut = slice_set d.cut s to; kept = new; asked = asked; marks = marks })
  packet_holds new to asked marks is_to of sources truth senders waiting = record {
    keys = λ k own. rw (lines_set to is_to, share_set d.plan d.view (datum_of k) (lines_of d.cut) s x.to)
        (truth k (view_shares d.plan d.view (datum_of k) (lines_of d.cut)) (share x.from k) (share x.to k) (share_get d.plan d.view (datum_of k) (lines_of d.cut) s x.from next) (λ kept. step_of k own kept) (piece_for k) (holds.keys k own));
    place = holds.place;
    sources = sources ∙ holds.sources;
    senders = senders ∙ holds.senders;
    waiting = waiting;
    stages = length_set d.cut s to ∙ holds.stages;
    of = each_set (AreOf d.plan) d.cut s to (rw (← is_plan) of) holds.of;
  }

  -- what holds of the line, holds of it where it is told
  where_told : (P : List LogView → Type 0) (to : List LogView) (piece : Option Piece) (marker : Option Marker) → P to → IfSome (new_line piece marker to) P
  where_told P to None None of = of
  where_told P to None (Some m) of = tt
  where_told P to (Some piece) m of = tt

  -- the line that is told leads there
  pub told_leads : (to : List LogView) (piece : Option Piece) (marker : Option Marker) → x.to ≡ entries_of to → Given piece (IsStillStage x) → Given (mark_in marker) (IsStillStage x) → lines_of (slice_set d.cut s to) ≡ put_line s (new_line piece marker to) (lines_of d.cut)
  told_leads to None None is_to a b = map_set entries_of d.cut s to
  told_leads to None (Some m) is_to a b = lines_set to is_to ∙ set_same (lines_of d.cut) s x.to (next ∙ ap Some b.line)
  told_leads to (Some piece) m is_to a b = lines_set to is_to ∙ set_same (lines_of d.cut) s x.to (next ∙ ap Some a.line)

  -- all is as the step says
  pub packet_done : (new : Store) (to : List LogView) (asked more tag cap : ℕ) (marks : MarksView) (requests : List Ask) (out : OutboxView) → d.mode ≡ mode.Running → x.to ≡ entries_of to → tag ≡ tag_of d.view → cap ≡ (view_at d.plan d.view).cap
      → stands_of new ≡ capped cap (give_piece s (key_of_piece x.piece) (drop_all s x.evicts (stands_of d.kept))) → more ≡ length requests → asked ≡ counted d.asked more → requests ≡ asks_by tag (again s x.evicts (stands_of d.kept))
      → packets_on out.requests ≡ to_one d.plan.stages s requests → marks ≡ record d.marks { waiting = partly (marks_with d.marks.senders s x.marker d.marks.waiting) } → marks_in out.ack ≡ complete (marks_with d.marks.senders s x.marker d.marks.waiting)
      → IsShown d out.shown (record d { cut = slice_set d.cut s to; kept = new; asked = asked; marks = marks })
      → IsDone (sent_by s (sent_of x)) (packet_taken (view_of d) s (sent_of x)) d out (record d { cut = slice_set d.cut s to; kept = new; asked = asked; marks = marks })
  packet_done new to asked more tag cap marks requests out running is_to is_tag is_cap stands is_more count is sent waiting ack shown =
      let asks : requests ≡ map (ask (view_of d)) (again s x.evicts (stands_of d.kept)) = is ∙ ap (λ t. asks_by t (again s x.evicts (stands_of d.kept))) is_tag in
      let keys = stands ∙ ap (λ c. capped c (give_piece s (key_of_piece x.piece) (drop_all s x.evicts (stands_of d.kept)))) is_cap in
      let number = count ∙ ap (counted d.asked) (is_more ∙ ap length asks) in
      let left = ap (λ (m : MarksView). m.waiting) waiting ∙ ap (λ n. partly (marks_with n s x.marker d.marks.waiting)) holds.senders in
      record {
        next = next;
        view = λ i. record (view_of d) { cut = (lines_set to is_to) i; keys = keys i; asked = number i; marks = left i };
        requests = sent ∙ ap (to_one d.plan.stages s) asks;
        acks = ack ∙ ap (λ n. complete (marks_with n s x.marker d.marks.waiting)) holds.senders;
        shown = shown;
        running = running;
      }

  -- what is told of it leads there
  pub packet_shown : (new : Store) (to : List LogView) (asked : ℕ) (marks : MarksView) (told : List KeyChange) (line : Option (List LogView)) (piece : Option Piece) (marker : Option Marker) (shown put : Option ShownView) → put ≡ shown → s < d.plan.stages → IfSome shown (λ y. y ≡ record { stage = s; line = line; keys = told; asked = asked }) → x.to ≡ entries_of to → AreOf x.plan to → x.piece ≡ piece
      → x.marker ≡ mark_in marker → keys_told shown ≡ told → LeadsTo (rows_at d.kept) told new → line_told shown ≡ line → ((cut : List Line) → cut_after shown cut ≡ put_line s line cut) → line ≡ new_line piece marker to → asked_after shown d.asked ≡ asked
      → IsShown d put (record d { cut = slice_set d.cut s to; kept = new; asked = asked; marks = marks })
  packet_shown new to asked marks told line piece marker shown put is place parts is_to of is_piece is_marker keys leads tells cut is_line count = rw is (record {
    keys = rw keys leads;
    cut = told_leads to piece marker is_to (subst (λ o. Given o (IsStillStage x)) is_piece is_true.alone) (subst (λ o. Given o (IsStillStage x)) is_marker is_true.marker) ∙ (ap (λ l. put_line s l (lines_of d.cut)) (sym is_line) ∙ sym (cut (lines_of d.cut)));
    line = goes_on _ _ shown line _ _ parts (rw is_line (where_told (IsNextLine d s) to piece marker (record { place = place; grows = λ held at. rw (same_line _ _ (sym at ∙ next), ← is_to) is_true.grows })));
    of = rw (tells, is_line) (where_told (AreOf d.plan) to piece marker (rw (← is_plan) of));
    asked = sym count;
  })

  -- it is done of the packet that this is
  pub done_of : (y : StagePacketView) (out : OutboxView) (new : Domain) → y ≡ x → IsDone (sent_by s (sent_of x)) (packet_taken (view_of d) s (sent_of x)) d out new → IsDone (sent_by s (sent_of y)) (packet_taken (view_of d) s (sent_of y)) d out new
  done_of y out new e h = subst (λ (z : StagePacketView). IsDone (sent_by s (sent_of z)) (packet_taken (view_of d) s (sent_of z)) d out new) (sym e) h

-- ---- in the call
-- what is known of a packet that is taken
pub record IsTaken (d : Domain) (s : ℕ) (x : StagePacketView) : Type 0 where
  pub plan : x.plan ≡ d.plan
  pub stage : x.stage ≡ s
  pub view : x.view ≡ d.view
  pub shard : x.shard ≡ d.shard
  pub holds : HoldsTruth d
  pub truth : IsTrueStage x
  pub next : slice_get (lines_of d.cut) s ≡ Some x.from

pub got : {X : Type 0} (xs : List X) (i : ℕ) (x : X) → i < length xs → x ≡ get_or xs i x → slice_get xs i ≡ Some x
got [] i x lt h = absurd (omega (arith, lt))
got (y ∷ ys) zero x lt h = ap Some (sym h)
got (y ∷ ys) (suc i) x lt h = got ys i x (omega (arith, lt)) h

module _ (are_one : LogView → LogView → Type 0) (d : Domain) (s : ℕ) (x : StagePacketView) (f : IsFrom are_one d s x) (holds : HoldsTruth d) (held : List LogView) (at : held ≡ get_or d.cut s held) where
  here : slice_get d.cut s ≡ Some held
  here = got d.cut s held (omega (arith, f.place, holds.stages)) at

  pub lines_meet : (to : List LogView) → AreOf x.plan to → x.to ≡ entries_of to → Pointwise are_one held to
  lines_meet to of is_to = one_line are_one d.plan (sources d.plan) held to (each_get (AreOf d.plan) d.cut s held here holds.of) (rw (← f.plan) of) (rw (← is_to) (f.one held here))

  -- it has as many fronts
  pub even : (to : List LogView) → AreOf x.plan to → x.to ≡ entries_of to → length held ≡ length to
  even to of is_to = pointwise_length are_one held to (lines_meet to of is_to)

  pub next_is : (line : Line) → x.from ≡ line → line ≡ entries_of held → slice_get (lines_of d.cut) s ≡ Some x.from
  next_is line from is = get_map entries_of d.cut s held here ∙ ap Some (sym (from ∙ is))

  pub not_next : (line : Line) → x.from ≡ line → (line ≡ entries_of held → IsTrue false) → slice_get (lines_of d.cut) s ≡ Some x.from → ⊥
  not_next line from never next =
      let e : Some (entries_of held) ≡ Some x.from = sym (get_map entries_of d.cut s held here) ∙ next in
      let same_line : entries_of held ≡ x.from = cc in
      absurd (true≢false (sym (never (sym from ∙ sym same_line))))

  -- of the packet, by its parts, where it starts at the line that is held
  pub taken : (y : StagePacketView) → x ≡ y → IsTrueStage x → y.from ≡ entries_of held → IsTaken d s y
  taken y is truth starts =
      let g = subst (IsFrom are_one d s) is f in
      record {
        plan = g.plan;
        stage = g.stage;
        view = g.view;
        shard = g.shard;
        holds = holds;
        truth = subst IsTrueStage is truth;
        next = subst (λ (z : StagePacketView). slice_get (lines_of d.cut) s ≡ Some z.from) is (next_is y.from (ap (λ (z : StagePacketView). z.from) is) starts);
      }

pub mode_holds : (d : Domain) (m : Mode) → HoldsTruth d → HoldsTruth (record d { mode = m })
mode_holds d m h = record {
  keys = h.keys;
  place = h.place;
  sources = h.sources;
  senders = h.senders;
  waiting = h.waiting;
  stages = h.stages;
  of = h.of;
}

-- no marker that is left has come from all
pub left_waiting : (m was : MarksView) (gs : List Gathering) → m ≡ record was { waiting = partly gs } → complete m.waiting ≡ []
left_waiting m was gs e = ap (λ (x : MarksView). complete x.waiting) e ∙ still_waiting gs
