-- What a look at a key of a view shard finds, and what it makes of the session.
use Rattle.std.proofs.Common.{true, false, cond, Bool, ◌≡◌, ℕ, ◌<◌, List, map, length, Option, Some, None, is_some, slice_get, slice_set, refl, ap, sym, ◌∙◌, subst, inl, inr, Result, Ok, Err, IfOk}
use Rattle.std.specs.Option.{IfSome}
use Rattle.row.specs.Cells.{Datum, Cells, datum_of}
use Rattle.row.specs.Groups.{equal}
use Rattle.row.specs.declared.refused.Refused.{Refused}
use Rattle.row.specs.declared.refused.Refused.TheVariants.{UnknownPlace}
use Rattle.row.specs.declared.value.Value.{Value}
use Rattle.plan.specs.Layouts.{Layout, view_named}
use Rattle.model.specs.Fronts.{LogView}
use Rattle.model.specs.Histories.{Author, Lengths, view_shard}
use Rattle.model.specs.Queries.{answer}
use Rattle.model.specs.Refusals.{read_refusal}
use Rattle.partial.specs.States.{Kept, State, Hole, Waiting, Filled, state_of, entry_of, is_filled}
use Rattle.packet.specs.Keys.{stands_of, stand_of}
use Rattle.packet.proofs.KeptKeys.{stand_is}
use Rattle.packet.specs.Readers.{Reader, readers}
use Rattle.protocol.specs.Events.{Event, Reply, hit, miss, refused, try_read}
use Rattle.protocol.specs.Worlds.{Caller, World}
use Rattle.protocol.specs.WorldSteps.{Did, says, with_caller, lengths_of, looked, step, try_in, try_by}
use Rattle.protocol.proofs.Lists.{map_get}
use Rattle.schedule.specs.Sessions.{Session}
use Rattle.view_domain.specs.Domains.{Domain as ViewDomain, lines_of}
use Rattle.view_domain.specs.Shown.{rows_at}
use Rattle.machine.specs.Held.{Held, IsPlaced, IsDone, IsViewOf, world_of, view_node, base_node}
use Rattle.machine.proofs.Acks.{knows_still, session_placed, session_world, stranger, with_session}
use Rattle.machine.proofs.Meeting.{stands}
use Rattle.world.specs.Sought.{IsDenied, IsSought}

-- ---- a key
entry_filled : {E : Type 0} (st : State E) → is_some (entry_of st) ≡ is_filled (stand_of st)
entry_filled Hole = refl
entry_filled (Waiting pieces) = refl
entry_filled (Filled e) = refl

-- it has rows just where it is filled
pub rows_filled : (kept : Kept Value (List Cells)) (key : Value) (o : Option (List Cells)) → o ≡ rows_at kept key → is_some o ≡ is_filled ((stands_of kept).at (datum_of key))
rows_filled kept key o is = ap is_some is ∙ (entry_filled (state_of equal kept key) ∙ ap is_filled (sym (stand_is kept key)))

pub rows_true : (kept : Kept Value (List Cells)) (key : Value) (rows want : List Cells) → Some rows ≡ rows_at kept key → IfSome (rows_at kept key) (λ r. r ≡ want) → rows ≡ want
rows_true kept key rows want is h = subst (λ o. IfSome o (λ r. r ≡ want)) (sym is) h

pub some_of : {X : Type 0} (P : X → Type 0) (o : Option X) (x : X) → o ≡ Some x → IfSome o P → P x
some_of P o x is h = subst (λ o. IfSome o P) is h

pub is_there : {X : Type 0} (o : Option X) (x : X) (d : ViewDomain) (k : Datum) → o ≡ Some x → is_some o ≡ is_filled ((stands_of d.kept).at k) → true ≡ is_filled ((stands_of d.kept).at k)
is_there o x d k is h = ap is_some (sym is) ∙ h

pub is_not : {X : Type 0} (o : Option X) (d : ViewDomain) (k : Datum) → o ≡ None → is_some o ≡ is_filled ((stands_of d.kept).at k) → false ≡ is_filled ((stands_of d.kept).at k)
is_not o d k is h = ap is_some (sym is) ∙ h

pub one_of : {X : Type 0} (xs : List X) (i : ℕ) (x y : X) → slice_get xs i ≡ Some x → slice_get xs i ≡ Some y → x ≡ y
one_of xs i x y a b = let e : Some x ≡ Some y = sym a ∙ b in cc

-- ---- the view shard that has it
abbrev reader : ℕ → ℕ → Reader
reader i j = record { view = i; shard = j }

same_reader : (o : Option Reader) (i j k l : ℕ) → o ≡ Some (reader i j) → o ≡ Some (reader k l) → (i ≡ k) × (j ≡ l)
same_reader None i j k l a b = cc
same_reader (Some r) i j k l a b =
    let x : r ≡ reader i j = cc in
    let y : r ≡ reader k l = cc in
    (ap (λ (r : Reader). r.view) (sym x ∙ y), ap (λ (r : Reader). r.shard) (sym x ∙ y))

pub is_view : (p : Layout) (r i j : ℕ) (d : ViewDomain) → IsViewOf p r d → slice_get (readers p) r ≡ Some (reader i j) → (d.view ≡ i) × (d.shard ≡ j)
is_view p r i j d is at = same_reader (slice_get (readers p) r) d.view d.shard i j is.reader at

pub own_shard : (p : Layout) (r i : ℕ) (k : Datum) (d : ViewDomain) → IsViewOf p r d → slice_get (readers p) r ≡ Some (reader i (view_shard p i k)) → view_shard d.plan d.view k ≡ d.shard
own_shard p r i k d is at =
    let s = is_view p r i (view_shard p i k) d is at in
    ap (λ q. view_shard q d.view k) is.plan ∙ (ap (λ v. view_shard p v k) s.0 ∙ sym s.1)

module _ {F : Type 0} (log : F → LogView) (authors : F → List Author) where
  -- ---- a look
  module _ (h : Held F) (se : ℕ) (c : Caller) (i : ℕ) (k : Datum) (r : ℕ) (d : ViewDomain) (p : IsPlaced log authors h) (at : slice_get h.views r ≡ Some d) where
    abbrev w : World
    w = world_of log authors h

    abbrev found : Did
    found =
        let lengths = lengths_of (lines_of d.cut) in
        says (with_caller w se (record c { floors = slice_set c.floors r lengths })) (hit (answer h.plan (lines_of d.cut) i k) lengths)

    looked_is : (b : Bool) → b ≡ is_filled ((stands_of d.kept).at k) → looked w se c i k r (slice_get (map view_node h.views) r) ≡ cond b found (says w miss)
    looked_is b e = ap (λ o. looked w se c i k r o) (map_get view_node h.views r d at) ∙ ap (λ b. cond b found (says w miss)) (sym e)

    pub missed : false ≡ is_filled ((stands_of d.kept).at k) → IsDone log authors (looked w se c i k r (slice_get (map view_node h.views) r)) miss h
    missed e = subst (λ x. IsDone log authors x miss h) (sym (looked_is false e)) (record { world = refl; reply = refl; placed = p })

    pub hits : (s new : Session) (rows : List Cells) (cut floor : Lengths) → slice_get h.sessions se ≡ Some s → slice_get w.callers se ≡ Some c → slice_get (readers h.plan) r ≡ Some (reader i (view_shard h.plan i k))
        → true ≡ is_filled ((stands_of d.kept).at k) → rows ≡ answer d.plan (lines_of d.cut) d.view k → cut ≡ lengths_of (lines_of d.cut)
        → floor ≡ cut → new ≡ record s { is = record s.is { floors = slice_set s.is.floors r floor } }
        → IsDone log authors (looked w se c i k r (slice_get (map view_node h.views) r)) (hit rows cut) (with_session log authors h se new)
    hits s new rows cut floor own caller place e rows-is cut-is floor-is new-is =
        let o = p.views.each r d at in
        let v = is_view h.plan r i (view_shard h.plan i k) d o place in
        let lengths = lengths_of (lines_of d.cut) in
        let same-caller : Some s.is ≡ Some c = sym (map_get (λ (x : Session). x.is) h.sessions se s own) ∙ caller in
        let one : s.is ≡ c = cc in
        let is : new.is ≡ record c { floors = slice_set c.floors r lengths }
        = ap (λ (x : Session). x.is) new-is ∙ (ap (λ x. record s.is { floors = slice_set s.is.floors r x }) (floor-is ∙ cut-is) ∙ ap (λ (x : Caller). record x { floors = slice_set x.floors r lengths }) one) in
        let all : rows ≡ answer h.plan (lines_of d.cut) i k = rows-is ∙ (ap (λ q. answer q (lines_of d.cut) d.view k) o.plan ∙ ap (λ j. answer h.plan (lines_of d.cut) j k) v.0) in
        subst (λ x. IsDone log authors x (hit rows cut) (with_session log authors h se new)) (sym (looked_is true e))
        (record {
          world = session_world log authors h se new ∙ ap (with_caller w se) is;
          reply = ap (λ x. hit x cut) all ∙ ap (hit (answer h.plan (lines_of d.cut) i k)) cut-is;
          placed = session_placed log authors h se new p (knows_still (map (base_node log authors) h.bases) se s new (ap (λ (x : Session). x.own) new-is) (p.sessions.each se s own));
        })

  -- ---- a try
  pub tried : (h : Held F) (se : ℕ) (view : List ℕ) (k : Datum) (i r : ℕ) (reply : Reply) (last : Held F) → IsSought h se view k i r
      → ((c : Caller) → slice_get (world_of log authors h).callers se ≡ Some c → IsDone log authors (looked (world_of log authors h) se c i k r (slice_get (map view_node h.views) r)) reply last)
      → IsDone log authors (try_by (world_of log authors h) se (slice_get (world_of log authors h).callers se) view k) reply last
  tried h se view k i r reply last sought done =
      let w = world_of log authors h in
      let s = stands h.sessions se sought.session in
      let there : slice_get w.callers se ≡ Some (s.0).is = map_get (λ (x : Session). x.is) h.sessions se s.0 s.1 in
      let all : try_by w se (slice_get w.callers se) view k ≡ looked w se (s.0).is i k r (slice_get w.views r)
      = ap (λ o. try_by w se o view k) there
      ∙ (ap (λ x. try_in w se (s.0).is (view_named w.plan view) k x) sought.free
      ∙ (ap (λ v. try_in w se (s.0).is v k None) sought.named
      ∙ ap (λ q. looked w se (s.0).is i k q (slice_get w.views q)) (sym sought.place))) in
      subst (λ x. IsDone log authors x reply last) (sym all) (done (s.0).is there)

  -- as the event that it is
  pub tries : {R E : Type 0} (said : R → Reply) (h : Held F) (se : ℕ) (view : List ℕ) (k : Datum) (i r : ℕ) (last : Held F) (e : Event) → e ≡ try_read se view k → IsSought h se view k i r → (o : Result R E)
      → IfOk o (λ x. (c : Caller) → slice_get (world_of log authors h).callers se ≡ Some c → IsDone log authors (looked (world_of log authors h) se c i k r (slice_get (map view_node h.views) r)) (said x) last)
      → IfOk o (λ x. IsDone log authors (step (world_of log authors h) e) (said x) last)
  tries said h se view k i r last e is sought (Ok x) done = subst (λ y. IsDone log authors (step (world_of log authors h) y) (said x) last) (sym is) (tried h se view k i r (said x) last sought done)
  tries said h se view k i r last e is sought (Err x) done = tt

  -- ---- the arguments of a session are refused
  pub answered : (h : Held F) (se : ℕ) (f : Option Caller → Did) (reply : Reply) → ((c : Caller) → f (Some c) ≡ says (world_of log authors h) reply) → IsPlaced log authors h → se < length h.sessions
      → IsDone log authors (f (slice_get (world_of log authors h).callers se)) reply h
  answered h se f reply is p lt =
      let s = stands h.sessions se lt in
      subst (λ o. IsDone log authors (f o) reply h) (sym (map_get (λ (x : Session). x.is) h.sessions se s.0 s.1))
      (subst (λ d. IsDone log authors d reply h) (sym (is (s.0).is)) (record { world = refl; reply = refl; placed = p }))

  -- there is no such session, or they are those of a read
  pub denied : (h : Held F) (se : ℕ) (view : List ℕ) (k : Datum) (e : Refused) (f : Option Caller → Did) → f None ≡ says (world_of log authors h) (refused UnknownPlace)
      → (read_refusal h.plan (view_named h.plan view) k ≡ Some e → (c : Caller) → f (Some c) ≡ says (world_of log authors h) (refused e)) → IsPlaced log authors h → IsDenied h se view k e → IsDone log authors (f (slice_get (world_of log authors h).callers se)) (refused e) h
  denied h se view k e f none some p (inl r) = subst (λ x. IsDone log authors (f (slice_get (world_of log authors h).callers se)) (refused x) h) (sym r.1) (stranger log authors h se f (refused UnknownPlace) none p r.0)
  denied h se view k e f none some p (inr r) = answered h se f (refused e) (some r.1) p r.0

  pub try_denied : (h : Held F) (se : ℕ) (view : List ℕ) (k : Datum) (x : Refused) (e : Event) → e ≡ try_read se view k → IsPlaced log authors h → IsDenied h se view k x → IsDone log authors (step (world_of log authors h) e) (refused x) h
  try_denied h se view k x e is p why =
      let w = world_of log authors h in
      subst (λ y. IsDone log authors (step w y) (refused x) h) (sym is) (denied h se view k x (λ o. try_by w se o view k) refl (λ said c. ap (try_in w se c (view_named h.plan view) k) said) p why)
