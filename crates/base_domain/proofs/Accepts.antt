-- A write that its log allows.
use Rattle.std.proofs.Common.{◌≡◌, ℕ, ◌+◌, ◌<◌, ◌≤◌, true, List, [], ◌∷◌, ◌++◌, length, length-append, slice_get, slice_index_or, slice_set, Option, Some, None, Result, Ok, Err, IfOk, IfErr, OnOk, OnErr, IfSome, is_err, inl, refl, ap, sym, ◌∙◌, subst, arith}
use Rattle.std.specs.Option.{option_map}
use Rattle.std.specs.declared.alloc.AllocError.{AllocError}
use Rattle.row.specs.Changes.{Turns}
use Rattle.row.specs.declared.record.Record.{Record}
use Rattle.row.specs.declared.refused.Refused.{Refused}
use Rattle.row.specs.declared.refused.Refused.TheVariants.{NoMemory}
use Rattle.plan.specs.Layouts.{Layout, SideLayout, TableLayout, table_at}
use Rattle.model.specs.Entries.{change_of}
use Rattle.model.specs.Logs.{Change, fits, rows_of}
use Rattle.model.specs.Places.{layout_of, table_of}
use Rattle.model.specs.Histories.{Author}
use Rattle.model.specs.Legal.{limit}
use Rattle.model.specs.Refusals.{refusal, refusal_over}
use Rattle.model.specs.Fronts.{LogView, AllowsEntry, with_entry, with_author}
use Rattle.model.proofs.LegalSamples.{allowed}
use Rattle.base.specs.Shards.{Shard, IsAt, HasKey}
use Rattle.base.specs.Records.{records_of, records_at}
use Rattle.base.proofs.Fronts as stands
use Rattle.base.proofs.Fitting.{fits_key}
use Rattle.packet.specs.Messages.{BasePacketView}
use Rattle.packet.specs.Answers.{IsAnswer, IsAccepted}
use Rattle.packet.specs.Outboxes.{OutboxView, packets_on}
use Rattle.packet.specs.Readers.{side_in, side_of}
use Rattle.packet.specs.Split.{parts_by}
use Rattle.packet.specs.Truth.{IsTrueBase}
use Rattle.protocol.specs.Bases.{write, accepted, declined, next_of}
use Rattle.protocol.specs.BaseSteps.{appended, entry_packet, quiet, step, to_stages}
use Rattle.base_domain.specs.Codes.{answer_of, base_of, write_of}
use Rattle.base_domain.specs.declared.message.Write.{Write}
use Rattle.base_domain.specs.Domains.{Domain, HoldsTruth}
use Rattle.base_domain.specs.Received.{Goes, IsFor, base_at, refusal_at}
use Rattle.base_domain.specs.Told.{Brings, IsTurn, part_packet, parts_in, records_in, told}
use Rattle.base_domain.proofs.Arms.{step_refused, step_allowed}
use Rattle.base_domain.proofs.Entries.{split_by, split_count, IsNextOf, part_is_true, told_entry}
use Rattle.base_domain.proofs.Numbers.{next_more}
use Rattle.model.proofs.Numbers.{absent, below_next}
use Rattle.base_domain.proofs.Writes.{done_with}

-- the same records by stage shard
parts_moved : (so : Option SideLayout) (a b : List Record) (n : ℕ) (o : Option (List (List Record))) → o ≡ option_map (λ (side : SideLayout). parts_by side.key n a) so → IfSome o (λ v. a ≡ b) → o ≡ option_map (λ (side : SideLayout). parts_by side.key n b) so
parts_moved None a b n o is same = is
parts_moved (Some side) a b n o is same =
    let e : a ≡ b = subst (λ (x : Option (List (List Record))). IfSome x (λ v. a ≡ b)) is same in
    is ∙ ap (λ rs. Some (parts_by side.key n rs)) e

each_some : {X : Type 0} {P Q : Type 0} (o : Option X) → (P → Q) → IfSome o (λ v. P) → IfSome o (λ v. Q)
each_some None f h = tt
each_some (Some x) f h = f h

module _ (p : Layout) (table : ℕ) (l : LogView) (authors : List Author) (sh : Shard) (next : List ℕ) (h : HoldsTruth p table l authors sh next) where
  own_key : sh.key ≡ (layout_of l.plan l.base).key
  own_key = h.key ∙ ap (λ q. (layout_of q l.base).key) (sym h.plan)

  -- the shard refuses as its log does
  shard_refusal : (e : Change) → refusal sh.key sh.limit l.entries e ≡ refusal_at l e
  shard_refusal e = ap (λ k. refusal k sh.limit l.entries e) own_key ∙ ap (λ k. refusal (layout_of l.plan l.base).key k l.entries e) h.room

  pub over_shard : (e : Change) → refusal_over sh.key sh.limit sh.rows sh.length e ≡ refusal_at l e
  over_shard e = stands.refusal_at sh l.entries e h.at ∙ shard_refusal e

  pub allows : (s m : ℕ) (e : Change) → IsFor l (length next) (write s m e) → next_of s authors ≤ m → refusal_at l e ≡ None → AllowsEntry l authors s m e
  allows s m e of rises free =
      let may = allowed (layout_of l.plan l.base).key limit l.entries e free in
      let n = h.numbers s of.0 in
      record {
        fitting = of.2;
        shard = of.3;
        lawful = may.0;
        room = may.1;
        number = absent next s m authors h.below (omega (arith, n, rises));
      }

  -- an entry that fits has the key
  pub keyed : (t : TableLayout) (e : Change) → t ≡ table_at p table → t.key < length t.columns → fits (layout_of l.plan l.base) e ≡ true → HasKey (layout_of l.plan l.base).key e
  keyed t e is small fit =
      let same : layout_of l.plan l.base ≡ t = ap (λ q. layout_of q l.base) h.plan ∙ ap (table_at p) (sym h.own) ∙ sym is in
      subst (λ (x : TableLayout). HasKey x.key e) (sym same) (fits_key t e small (subst (λ x. fits x e ≡ true) same fit))

  pub keyed_shard : (t : TableLayout) (e : Change) → t ≡ table_at p table → t.key < length t.columns → fits (layout_of l.plan l.base) e ≡ true → HasKey sh.key e
  keyed_shard t e is small fit = subst (λ k. HasKey k e) (sym own_key) (keyed t e is small fit)

  pub next_is : (s : ℕ) → s < length next → slice_index_or next s 0 ≡ next_of s authors
  next_is s place = h.numbers s place

  -- which arm of the step a write takes that was weighed
  pub refused_step : (s m : ℕ) (e : Change) (r : Refused) → s < length next → slice_index_or next s 0 ≤ m → refusal_over sh.key sh.limit sh.rows sh.length e ≡ Some r → step (base_of l authors) (write s m e) ≡ quiet (base_of l authors) (Some (declined r))
  refused_step s m e r place le is =
      let n = h.numbers s place in
      step_refused (base_of l authors) s m e r (omega (arith, n, le)) (sym (over_shard e) ∙ is)

  pub allowed_step : (s m : ℕ) (e : Change) → s < length next → slice_index_or next s 0 ≤ m → refusal_over sh.key sh.limit sh.rows sh.length e ≡ None → step (base_of l authors) (write s m e) ≡ appended (base_of l authors) s m e
  allowed_step s m e place le is =
      let n = h.numbers s place in
      step_allowed (base_of l authors) s m e (omega (arith, n, le)) (sym (over_shard e) ∙ is)

  -- with the entry
  pub truth_next : (new : Shard) (m : LogView) (who : List Author) (s n : ℕ) (e : Change) → m ≡ with_entry l e → who ≡ with_author authors s n → IsAt new (l.entries ++ e ∷ []) → new.key ≡ sh.key → new.limit ≡ sh.limit → s < length next → next_of s authors ≤ n
      → HoldsTruth p table m who new (slice_set next s (n + 1))
  truth_next new m who s n e says wrote at key room place rises =
      let k = h.numbers s place in
      rw (says, wrote) (record {
        plan = h.plan;
        own = h.own;
        place = h.place;
        at = at;
        key = key ∙ h.key;
        room = room ∙ h.room;
        numbers = next_more next s n authors place h.numbers;
        below = below_next next s n authors place (omega (arith, k, rises)) h.below;
        written = omega (arith, length-append authors (record { session = s; number = n } ∷ []), length-append l.entries (e ∷ []), h.written);
      })

  side_is : side_of l.plan l.base ≡ side_in p table
  side_is = ap (λ q. side_in q (table_of q l.base)) h.plan ∙ ap (side_in p) (sym h.own)

  -- the records at the shard are those of the entry at its front
  records_same : (e : Change) → Brings sh e → records_at sh e ≡ records_in l e
  records_same e brings = (brings l.entries h.at).0 ∙ ap (λ k. records_of k (rows_of k l.entries) e) own_key

  turned : (e : Change) → Brings sh e → IsTurn l e
  turned e brings = let t = brings l.entries h.at in subst (λ k. Turns (rows_of k l.entries) (records_of k (rows_of k l.entries) e) (rows_of k (l.entries ++ e ∷ []))) own_key (subst (λ rs. Turns (rows_of sh.key l.entries) rs (rows_of sh.key (l.entries ++ e ∷ []))) t.0 t.1)

  pub parts_at : (o : Option (List (List Record))) (e : Change) → o ≡ option_map (λ (side : SideLayout). parts_by side.key p.stages (records_at sh e)) (side_in p table) → IfSome o (λ v. Brings sh e) → o ≡ parts_in l e
  parts_at o e is brings =
      parts_moved (side_in p table) (records_at sh e) (records_in l e) p.stages o is (each_some o (records_same e) brings)
      ∙ (ap (λ (q : Layout). option_map (λ (side : SideLayout). parts_by side.key q.stages (records_in l e)) (side_in p table)) (sym h.plan)
      ∙ ap (option_map (λ (side : SideLayout). parts_by side.key l.plan.stages (records_in l e))) (sym side_is))

  pub turn_at : (o : Option (List (List Record))) (e : Change) → IfSome o (λ v. Brings sh e) → IfSome o (λ v. IsTurn l e)
  turn_at o e brings = each_some o (turned e) brings

module _ (l : LogView) (authors : List Author) where
  next_of_log : (m : LogView) (e : Change) (from : ℕ) → m ≡ with_entry l e → from ≡ length l.entries → IsNextOf (base_of l authors) e m from l.plan.stages (records_in l e)
  next_of_log m e from says starts = record {
    plan = ap (λ (x : LogView). x.plan) says;
    base = ap (λ (x : LogView). x.base) says;
    entries = ap (λ (x : LogView). x.entries) says;
    starts = starts;
    stages = refl;
    records = refl;
  }

  -- each part is told truly
  pub parts_true : (o : Option (List (List Record))) (m : LogView) (e : Change) (from : ℕ) → o ≡ parts_in l e → m ≡ with_entry l e → from ≡ length l.entries → IfSome o (λ v. IsTurn l e)
      → IfSome o (λ v. (j : ℕ) → j < length v → IsTrueBase (part_packet m from v j))
  parts_true None m e from is says starts turn = tt
  parts_true (Some v) m e from is says starts turn = λ j lt.
      let s = split_by (side_of l.plan l.base) (records_in l e) l.plan.stages v is in
      let n = split_count s.0.key l.plan.stages (records_in l e) v s.2 in
      part_is_true (base_of l authors) e m from l.plan.stages (records_in l e) (next_of_log m e from says starts) s.0 v j (omega (arith, lt, n)) s.2 s.1 turn

  pub parts_count : (o : Option (List (List Record))) (e : Change) (k : ℕ) → o ≡ parts_in l e → k ≡ l.plan.stages → IfSome o (λ v. length v ≡ k)
  parts_count None e k is at = tt
  parts_count (Some v) e k is at =
      let s = split_by (side_of l.plan l.base) (records_in l e) l.plan.stages v is in
      split_count s.0.key l.plan.stages (records_in l e) v s.2 ∙ sym at

  -- what is told is what the protocol sends
  pub told_is : (o : Option (List (List Record))) (m : LogView) (e : Change) (from k : ℕ) → o ≡ parts_in l e → m ≡ with_entry l e → from ≡ length l.entries → k ≡ l.plan.stages
      → told m from o k ≡ to_stages l.plan (side_of l.plan l.base) (entry_packet (base_of l authors) e)
  told_is o m e from k is says starts at =
      ap (told m from o) at ∙ ap (λ ps. told m from ps l.plan.stages) is
      ∙ told_entry (base_of l authors) e m from l.plan.stages (records_in l e) refl (side_of l.plan l.base) (λ side some. next_of_log m e from says starts)

-- ---- the answer
at_last : {X : Type 0} (xs : List X) (x : X) (i : ℕ) → i ≡ length xs → slice_get (xs ++ x ∷ []) i ≡ Some x
at_last xs x i at = ap (slice_get (xs ++ x ∷ [])) at ∙ there xs x
  where
    there : {X : Type 0} (ys : List X) (y : X) → slice_get (ys ++ y ∷ []) (length ys) ≡ Some y
    there [] y = refl
    there (z ∷ zs) y = there zs y

module _ {F : Type 0} (log : F → LogView) (authors : F → List Author) where
  pub accepted_as : (is_all : F → Type 0) (w : Write) (index : ℕ) (told : Result F AllocError) (old new : F) → log new ≡ with_entry (log old) (change_of w.entry) → authors new ≡ with_author (authors old) w.session w.number → index ≡ length (log old).entries → length (authors old) ≡ length (log old).entries
      → IfOk told (λ f. (log f ≡ log new) × (authors f ≡ authors new)) → IfOk told (λ f. IsAnswer log authors is_all (answer_of w None index (Some f)))
  accepted_as is_all w index (Err e) old new says wrote at n shows = tt
  accepted_as is_all w index (Ok f) old new says wrote at n shows = λ x is.
      let same : f ≡ x = cc in
      subst (λ y. IsAccepted log authors (answer_of w None index (Some f)) y) same (record {
        entry = ap (λ (y : LogView). slice_get y.entries index) (shows.0 ∙ says) ∙ at_last (log old).entries (change_of w.entry) index at;
        author = ap (λ ys. slice_get ys index) (shows.1 ∙ wrote) ∙ at_last (authors old) (record { session = w.session; number = w.number }) index (at ∙ sym n);
      })

  pub done_told : (w : Write) (old new : Domain F) (told : Result F AllocError) (result : Result (Unit {0}) Refused) (out1 out2 : OutboxView F) (index : ℕ) (sent : List (List BasePacketView)) → IfOk told (λ f. (result ≡ Ok tt) × (out2 ≡ record out1 { reply = Some (answer_of w None index (Some f)) }))
      → IfErr told (λ e. (result ≡ Err NoMemory) × (out2 ≡ record out1 { reply = Some (answer_of w None index None) })) → IfOk told (λ f. (log f ≡ log new.front) × (authors f ≡ authors new.front)) → OnOk told (packets_on out1.edges ≡ sent)
      → log new.front ≡ with_entry (log old.front) (change_of w.entry) → authors new.front ≡ with_author (authors old.front) w.session w.number → index ≡ length (log old.front).entries → sent ≡ (appended (base_at log authors old) w.session w.number (change_of w.entry)).sent
      → length new.next ≡ length old.next → new.stopped ≡ is_err told → OnOk result (Goes log authors (write_of w) old (appended (base_at log authors old) w.session w.number (change_of w.entry)) out2 new)
  done_told w old new (Err e) result out1 out2 index sent ok err shows on says wrote at is n stopped = subst (λ r. OnOk r (Goes log authors (write_of w) old (appended (base_at log authors old) w.session w.number (change_of w.entry)) out2 new)) (sym err.0) tt
  done_told w old new (Ok f) result out1 out2 index sent ok err shows on says wrote at is n stopped =
      subst (λ r. OnOk r (Goes log authors (write_of w) old (appended (base_at log authors old) w.session w.number (change_of w.entry)) out2 new)) (sym ok.0)
      (inl (done_with log authors (write_of w) old new (appended (base_at log authors old) w.session w.number (change_of w.entry)) (answer_of w None index (Some f)) f out2 (rw (says, wrote) refl) (ap (λ (o : OutboxView F). o.reply) ok.1)
      (ap (λ k. Some (accepted k)) at) (ap (λ (o : OutboxView F). packets_on o.edges) ok.1 ∙ on ∙ is) refl refl shows.0 shows.1 n stopped))

  -- an error after the step is that of a front
  pub memory_told : (P : Type 0) (w : Write) (told : Result F AllocError) (result : Result (Unit {0}) Refused) (out1 out2 : OutboxView F) (index : ℕ) → IfOk told (λ f. (result ≡ Ok tt) × (out2 ≡ record out1 { reply = Some (answer_of w None index (Some f)) })) → OnErr told P → result ≡ Err NoMemory → P
  memory_told P w (Err e) result out1 out2 index ok refused is = refused
  memory_told P w (Ok f) result out1 out2 index ok refused is = absurd cc

  pub edges_told : (w : Write) (told : Result F AllocError) (result : Result (Unit {0}) Refused) (out1 out2 : OutboxView F) (index : ℕ) → IfOk told (λ f. (result ≡ Ok tt) × (out2 ≡ record out1 { reply = Some (answer_of w None index (Some f)) }))
      → IfErr told (λ e. (result ≡ Err NoMemory) × (out2 ≡ record out1 { reply = Some (answer_of w None index None) })) → length out2.edges ≡ length out1.edges
  edges_told w (Ok f) result out1 out2 index ok err = ap (λ (o : OutboxView F). length o.edges) ok.1
  edges_told w (Err e) result out1 out2 index ok err = ap (λ (o : OutboxView F). length o.edges) err.1

-- room changes nothing of where a shard stands
pub at_room : (old new : Shard) (front : List Change) → new ≡ record old { room = new.room } → IsAt old front → IsAt new front
at_room old new front is at = rw is (record { rows = at.rows; counts = at.counts })
