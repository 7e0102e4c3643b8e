-- What a view domain holds stays true, and what it does is what the step says.
use Rattle.std.proofs.Common.{IfSome, ◌≡◌, ◌≢◌, ℕ, zero, suc, ◌+◌, Bool, true, false, cond, List, [], ◌∷◌, map, replicate, length, Option, Some, None, refl, ap, sym, ◌∙◌, subst, arith, true≢false}
use Rattle.std.specs.List.{range_with_len}
use Rattle.std.proofs.lemmas.List.{length-map}
use Rattle.row.specs.Bags.{sorted, joined}
use Rattle.row.specs.CellOrder.{row_total, row_same}
use Rattle.row.proofs.Alike.{sorted_alike, sum_of_sorted}
use Rattle.row.specs.Cells.{Datum, Cells, datum_of, row_cmp}
use Rattle.row.specs.Groups.{equal}
use Rattle.row.specs.declared.value.Value.{Value}
use Rattle.plan.specs.Layouts.{Layout}
use Rattle.model.specs.Fronts.{LogView}
use Rattle.model.specs.Histories.{view_shard}
use Rattle.model.specs.Queries.{Line, parts, answer}
use Rattle.partial.specs.States.{State, Hole, Waiting, Filled, state_of, entry_of, is_hole}
use Rattle.partial.specs.Sums.{sum_of_bags}
use Rattle.partial.specs.Truth.{IsTrueOf}
use Rattle.packet.specs.Keys.{stands_of, open_at, begin_at}
use Rattle.packet.specs.Lines.{entries_of}
use Rattle.packet.specs.Messages.{Ask, none_of, to_all}
use Rattle.packet.specs.Outboxes.{EdgeView, packets_on}
use Rattle.packet.specs.Truth.{view_shares}
use Rattle.packet.specs.declared.mode.Mode.{Mode}
use Rattle.packet.specs.declared.mode.Mode.TheVariants as mode
use Rattle.protocol.specs.Views.{want, order}
use Rattle.protocol.specs.ViewSteps.{quiet, begins, counted}
use Rattle.view_domain.specs.Domains.{Domain, HoldsTruth, lines_of, view_of}
use Rattle.view_domain.specs.Outboxes.{OutboxView, ShownView, IsClear}
use Rattle.view_domain.specs.Received.{GoesOn, IsDone, IsNextLine, IsShown}
use Rattle.view_domain.specs.declared.shown.KeyChange.{KeyChange}
use Rattle.view_domain.specs.Shown.{rows_at, LeadsTo}
use Rattle.packet.specs.Readers.{tag_of}
use Rattle.packet.proofs.KeySteps.{Store}

-- ---- shares
parts_count : (p : Layout) (a : ℕ) (cut : List Line) (i : ℕ) (k : Datum) → length (parts p a cut i k) ≡ length cut
parts_count p a [] i k = refl
parts_count p a (f ∷ fs) i k = omega (arith, parts_count p (a + 1) fs i k)

pub shares_count : (p : Layout) (i : ℕ) (k : Datum) (cut : List (List LogView)) → length (view_shares p i k (lines_of cut)) ≡ length cut
shares_count p i k cut = length-map (parts p 0 (lines_of cut) i k) (sorted row_cmp) ∙ (parts_count p 0 (lines_of cut) i k ∙ length-map cut entries_of)

-- ---- keys alone change
pub kept_holds : (d : Domain) (new : Store) (asked : ℕ) → HoldsTruth d → new.sources ≡ d.kept.sources
    → ((k : Value) (shares : List (List Cells)) → length shares ≡ d.kept.sources → IsTrueOf sum_of_bags shares (state_of equal d.kept k) → IsTrueOf sum_of_bags shares (state_of equal new k)) → HoldsTruth (record d { kept = new; asked = asked })
kept_holds d new asked h sources truth = record {
  keys = λ k own. truth k (view_shares d.plan d.view (datum_of k) (lines_of d.cut)) (shares_count d.plan d.view (datum_of k) d.cut ∙ (h.stages ∙ sym h.sources)) (h.keys k own);
  place = h.place;
  sources = sources ∙ h.sources;
  senders = h.senders;
  waiting = h.waiting;
  stages = h.stages;
  of = h.of;
}

-- ---- edges
pub none_by : {X Y Z : Type 0} (xs : List Y) (ys : List Z) → length xs ≡ length ys → none_of {X = X} xs ≡ none_of ys
none_by [] [] e = refl
none_by [] (y ∷ ys) e = absurd (omega (arith, e))
none_by (x ∷ xs) [] e = absurd (omega (arith, e))
none_by (x ∷ xs) (y ∷ ys) e = ap (λ l. [] ∷ l) (none_by xs ys (omega (arith, e)))

range_count : (a n : ℕ) → length (range_with_len a n) ≡ n
range_count a zero = refl
range_count a (suc n) = omega (arith, range_count (a + 1) n)

silent_edges : (edges : List (EdgeView Ask)) (n : ℕ) → length edges ≡ n → packets_on edges ≡ none_of edges → packets_on edges ≡ none_of (range_with_len 0 n)
silent_edges edges n count clear = clear ∙ none_by edges (range_with_len 0 n) (count ∙ sym (range_count 0 n))

each_alike : {X : Type 0} (a : X) (n b : ℕ) → map (λ r. r ∷ []) (replicate n a) ≡ map (λ r. a ∷ []) (range_with_len b n)
each_alike a zero b = refl
each_alike a (suc n) b = ap (λ l. (a ∷ []) ∷ l) (each_alike a n (b + 1))

-- ---- what is told
pub goes_on : (d : Domain) (s : ℕ) (o : Option ShownView) (line : Option (List LogView)) (keys : List KeyChange) (asked : ℕ) → IfSome o (λ x. x ≡ record { stage = s; line = line; keys = keys; asked = asked }) → IfSome line (IsNextLine d s) → IfSome o (GoesOn d)
goes_on d s None line keys asked is next = tt
goes_on d s (Some x) line keys asked is next = subst (GoesOn d) (sym is) next

pub same_line : {X : Type 0} (x y : X) → Some x ≡ Some y → x ≡ y
same_line x y e = cc

-- ---- an order, and a want
pub open_done : (d : Domain) (k : Datum) (new : Store) (out : OutboxView) (s : Option ShownView) → d.mode ≡ mode.Running → stands_of new ≡ open_at k (stands_of d.kept) → IsClear out → length out.requests ≡ d.plan.stages → IsShown d s (record d { kept = new })
    → IsDone (order k) (quiet (view_of d) (open_at k (stands_of d.kept))) d (record out { shown = s }) (record d { kept = new })
open_done d k new out s running stands clear count shown = record {
  next = tt;
  view = λ i. record (view_of d) { keys = stands i };
  requests = silent_edges out.requests d.plan.stages count clear.requests;
  acks = rw clear.ack refl;
  shown = shown;
  running = running;
}

pub nothing_told : (first : Value → Option (List Cells)) (told : List KeyChange) (kept : Store) → told ≡ [] → ((key : Value) → rows_at kept key ≡ first key) → LeadsTo first told kept
nothing_told first told kept none stays = rw none (record { each = stays })

idle_done : (d : Domain) (k : Datum) (new : Store) (out : OutboxView) (b : Bool) → is_hole ((stands_of d.kept).at k) ≡ b → b ≡ false → d.mode ≡ mode.Running → stands_of new ≡ stands_of d.kept → IsClear out → length out.requests ≡ d.plan.stages → LeadsTo (rows_at d.kept) [] new
    → IsDone (want k) (cond b (begins (view_of d) k) (quiet (view_of d) (stands_of d.kept))) d out (record d { kept = new })
idle_done d k new out true h e running stands clear count leads = absurd (true≢false e)
idle_done d k new out false h e running stands clear count leads = record {
  next = tt;
  view = λ i. record (view_of d) { keys = stands i };
  requests = silent_edges out.requests d.plan.stages count clear.requests;
  acks = rw clear.ack refl;
  shown = rw clear.shown (record { keys = leads; cut = refl; line = tt; of = tt; asked = refl });
  running = running;
}

pub want_idle : (d : Domain) (k : Datum) (new : Store) (out : OutboxView) → false ≡ is_hole ((stands_of d.kept).at k) → d.mode ≡ mode.Running → stands_of new ≡ stands_of d.kept → IsClear out → length out.requests ≡ d.plan.stages → LeadsTo (rows_at d.kept) [] new
    → IsDone (want k) (cond (is_hole ((stands_of d.kept).at k)) (begins (view_of d) k) (quiet (view_of d) (stands_of d.kept))) d out (record d { kept = new })
want_idle d k new out h running stands clear count leads = idle_done d k new out (is_hole ((stands_of d.kept).at k)) refl (sym h) running stands clear count leads

begun_done : (d : Domain) (k : Datum) (new : Store) (asked tag : ℕ) (out : OutboxView) (b : Bool) → b ≡ true → d.mode ≡ mode.Running → tag ≡ tag_of d.view → stands_of new ≡ begin_at d.plan.stages k (stands_of d.kept) → asked ≡ counted d.asked d.plan.stages
    → packets_on out.requests ≡ map (λ r. r ∷ []) (replicate d.plan.stages (record { tag = tag; key = k })) → out.ack ≡ None → IsShown d out.shown (record d { kept = new; asked = asked })
    → IsDone (want k) (cond b (begins (view_of d) k) (quiet (view_of d) (stands_of d.kept))) d out (record d { kept = new; asked = asked })
begun_done d k new asked tag out false h running is_tag stands count requests ack shown = absurd (true≢false (sym h))
begun_done d k new asked tag out true h running is_tag stands count requests ack shown = record {
  next = tt;
  view = λ i. record (view_of d) { keys = stands i; asked = count i };
  requests = requests ∙ (each_alike (record { tag = tag; key = k }) d.plan.stages 0 ∙ ap (λ t. to_all d.plan.stages ((record { tag = t; key = k }) ∷ [])) is_tag);
  acks = rw ack refl;
  shown = shown;
  running = running;
}

pub want_begun : (d : Domain) (k : Datum) (new : Store) (asked tag : ℕ) (out : OutboxView) → true ≡ is_hole ((stands_of d.kept).at k) → d.mode ≡ mode.Running → tag ≡ tag_of d.view → stands_of new ≡ begin_at d.plan.stages k (stands_of d.kept) → asked ≡ counted d.asked d.plan.stages
    → packets_on out.requests ≡ map (λ r. r ∷ []) (replicate d.plan.stages (record { tag = tag; key = k })) → out.ack ≡ None → IsShown d out.shown (record d { kept = new; asked = asked })
    → IsDone (want k) (cond (is_hole ((stands_of d.kept).at k)) (begins (view_of d) k) (quiet (view_of d) (stands_of d.kept))) d out (record d { kept = new; asked = asked })
want_begun d k new asked tag out h running is_tag stands count requests ack shown = begun_done d k new asked tag out (is_hole ((stands_of d.kept).at k)) (sym h) running is_tag stands count requests ack shown

replicate_count : {X : Type 0} (n : ℕ) (x : X) → length (replicate n x) ≡ n
replicate_count zero x = refl
replicate_count (suc n) x = omega (arith, replicate_count n x)

pub want_made : (d : Domain) (k : Datum) (new : Store) (asked tag n more : ℕ) (requests : List Ask) (out : OutboxView) → true ≡ is_hole ((stands_of d.kept).at k) → d.mode ≡ mode.Running → tag ≡ tag_of d.view → n ≡ d.plan.stages
    → stands_of new ≡ begin_at n k (stands_of d.kept) → more ≡ length requests → asked ≡ counted d.asked more → requests ≡ replicate n (record { tag = tag; key = k }) → packets_on out.requests ≡ map (λ r. r ∷ []) requests → out.ack ≡ None
    → IsShown d out.shown (record d { kept = new; asked = asked })
    → IsDone (want k) (cond (is_hole ((stands_of d.kept).at k)) (begins (view_of d) k) (quiet (view_of d) (stands_of d.kept))) d out (record d { kept = new; asked = asked })
want_made d k new asked tag n more requests out hole running is_tag is_n stands is_more count is sent ack shown =
    want_begun d k new asked tag out hole running is_tag (stands ∙ ap (λ m. begin_at m k (stands_of d.kept)) is_n) (count ∙ ap (counted d.asked) (is_more ∙ (ap length is ∙ (replicate_count n (record { tag = tag; key = k }) ∙ is_n))))
    (sent ∙ (ap (map (λ r. r ∷ [])) is ∙ ap (λ m. map (λ r. r ∷ []) (replicate m (record { tag = tag; key = k }))) is_n)) ack shown

pub sound : (m : Mode) → m ≡ mode.Running → m ≢ mode.Broken
sound m h b = let e : mode.Running ≡ mode.Broken = sym h ∙ b in cc

-- ---- what is read
answer_is : (p : Layout) (cut : List Line) (i : ℕ) (k : Datum) → sum_of_bags (view_shares p i k cut) ≡ answer p cut i k
answer_is p cut i k = sorted_alike row_cmp row_total row_same (joined (view_shares p i k cut)) (joined (parts p 0 cut i k)) (record { each = λ z. sum_of_sorted row_cmp z (parts p 0 cut i k) })

rows_true : (p : Layout) (cut : List Line) (i : ℕ) (k : Datum) (st : State (List Cells)) → IsTrueOf sum_of_bags (view_shares p i k cut) st → IfSome (entry_of st) (λ rows. rows ≡ answer p cut i k)
rows_true p cut i k Hole t = tt
rows_true p cut i k (Waiting pieces) t = tt
rows_true p cut i k (Filled rows) t = t ∙ answer_is p cut i k

pub read_true : (d : Domain) (key : Value) → HoldsTruth d → view_shard d.plan d.view (datum_of key) ≡ d.shard → IfSome (rows_at d.kept key) (λ rows. rows ≡ answer d.plan (lines_of d.cut) d.view (datum_of key))
read_true d key h own = rows_true d.plan (lines_of d.cut) d.view (datum_of key) (state_of equal d.kept key) (h.keys key own)
