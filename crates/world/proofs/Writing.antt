-- What a write makes of the world.
use Rattle.std.proofs.Common.{Bool, true, false, not, cond, ◌==◌, nat_lt, ◌≡◌, ℕ, zero, suc, ◌+◌, ◌<◌, List, [], ◌∷◌, ◌++◌, map, length, Option, Some, None, slice_get, slice_set, slice_index_or, refl, ap, sym, ◌∙◌, subst, arith, ◌⊎◌, inl, inr}
use Rattle.std.proofs.lemmas.Bool.Decides.{nat_tests}
use Rattle.row.specs.declared.refused.Refused.{Refused}
use Rattle.row.specs.declared.refused.Refused.TheVariants.{Stopped, UnknownPlace}
use Rattle.row.specs.Cells.{shard}
use Rattle.plan.specs.Layouts.{Layout, table_at, table_named}
use Rattle.model.specs.Fronts.{LogView}
use Rattle.model.specs.Histories.{Author}
use Rattle.model.specs.Legal.{limit, most_sessions}
use Rattle.model.specs.Logs.{Change, fits, key_of}
use Rattle.model.specs.Places.{base_count, layout_of, table_of, shard_of}
use Rattle.model.specs.Refusals.{refusal, write_refusal}
use Rattle.model.proofs.LegalSamples.{allowed}
use Rattle.packet.specs.Messages.{BasePacketView}
use Rattle.protocol.specs.Bases.{last_number, Base, Verdict, accepted, declined, write, next_of, Done}
use Rattle.protocol.specs.BaseSteps.{step, quiet, decided, with_entry}
use Rattle.protocol.specs.Events.{Reply, refused}
use Rattle.protocol.specs.Worlds.{Node, World}
use Rattle.protocol.specs.WorldSteps.{says, base_did, base_for, own_in, after_own, numbered, verdict_of, is_up, with_caller, written, write_in, write_by}
use Rattle.protocol.proofs.Every.{reached_good}
use Rattle.protocol.proofs.Lists.{map_set, map_get, map_same, set_same, got}
use Rattle.schedule.specs.Sessions.{Session}
use Rattle.base_domain.specs.Domains.{Domain as BaseDomain}
use Rattle.base_domain.specs.Received.{base_at, IsFor}
use Rattle.machine.specs.Held.{Held, Are, IsPlaced, IsWhole, IsDone, IsBaseOf, KnowsOwn, world_of, base_node}
use Rattle.world.specs.Noted.{AreLogged, IsSmall, noted}
use Rattle.machine.specs.Turned.{IsBaseGiven, IsBaseTurn}
use Rattle.machine.proofs.Acks.{knows_still, session_world, session_placed}
use Rattle.machine.proofs.Based.{with_base, base_world, own_turn, quiet_placed}
use Rattle.world.proofs.Fenced.{called}
use Rattle.machine.proofs.Meeting.{stands}
use Rattle.machine.proofs.Steps.{rebased, set_are}
use Rattle.protocol.proofs.Within.{not_past}

-- ---- what a base shard answers
-- not accepted: its log stays
abbrev IsQuiet : Option Verdict → Type 0
IsQuiet None = Unit {0}
IsQuiet (Some (accepted i)) = ⊥
IsQuiet (Some (declined r)) = Unit {0}

-- accepted at the end of its log
record IsPut (b : Base) (s m : ℕ) (e : Change) (i : ℕ) (d : Done) : Type 0 where
  base : d.base ≡ with_entry b s m e
  index : i ≡ length b.entries
  small : i < limit

module _ (b : Base) (s m : ℕ) (e : Change) where
  decided_quiet : (o : Option Refused) (v : Option Verdict) → (decided b s m e o).reply ≡ v → IsQuiet v → (decided b s m e o).base ≡ b
  decided_quiet None v is q = absurd (subst IsQuiet (sym is) q)
  decided_quiet (Some r) v is q = refl

  decided_put : (o : Option Refused) (i : ℕ) → refusal (layout_of b.plan b.base).key limit b.entries e ≡ o → (decided b s m e o).reply ≡ Some (accepted i) → IsPut b s m e i (decided b s m e o)
  decided_put None i free is =
      let at : i ≡ length b.entries = cc in
      record { base = refl; index = at; small = subst (λ n. n < limit) (sym at) (allowed (layout_of b.plan b.base).key limit b.entries e free).1 }
  decided_put (Some r) i free is = cc

  abbrev refuses : Option Refused
  refuses = refusal (layout_of b.plan b.base).key limit b.entries e

  quiet_base : (v : Option Verdict) → (step b (write s m e)).reply ≡ v → IsQuiet v → (step b (write s m e)).base ≡ b
  quiet_base v = by (nat_lt m (next_of s b.authors))
    where
      by : (t : Bool) → (cond t (quiet b None) (decided b s m e refuses)).reply ≡ v → IsQuiet v → (cond t (quiet b None) (decided b s m e refuses)).base ≡ b
      by true is q = refl
      by false is q = decided_quiet refuses v is q

  put_base : (i : ℕ) → (step b (write s m e)).reply ≡ Some (accepted i) → IsPut b s m e i (step b (write s m e))
  put_base i = by (nat_lt m (next_of s b.authors))
    where
      by : (t : Bool) → (cond t (quiet b None) (decided b s m e refuses)).reply ≡ Some (accepted i) → IsPut b s m e i (cond t (quiet b None) (decided b s m e refuses))
      by true is = cc
      by false is = decided_put refuses i refl is

  pub small_index : (v : Option Verdict) → v ≡ (step b (write s m e)).reply → IsSmall v
  small_index None is = tt
  small_index (Some (accepted i)) is = let l = (put_base i (sym is)).small in omega (arith, l)
  small_index (Some (declined r)) is = tt

-- ---- own places
after_more : (se found i : ℕ) (as_ : List Author) (a : Author) → after_own se found i (as_ ++ a ∷ []) ≡ cond (a.session == se) (suc (i + length as_)) (after_own se found i as_)
after_more se found i [] a = let z : i ≡ i + 0 = omega (arith) in ap (λ n. cond (a.session == se) (suc n) found) z
after_more se found i (b ∷ as_) a =
    let n : suc i + length as_ ≡ i + suc (length as_) = omega (arith) in
    after_more se (cond (b.session == se) (suc i) found) (suc i) as_ a ∙ ap (λ n. cond (a.session == se) (suc n) (after_own se (cond (b.session == se) (suc i) found) (suc i) as_)) n

is_one : (s : ℕ) → (s == s) ≡ true
is_one s = grind (arith, nat_tests)

-- f tells of each element what the numbers do
module _ {X : Type 0} (f : Option X → ℕ) where
  put_both : (xs : List X) (own : List ℕ) (i : ℕ) (y : X) (n : ℕ) → length own ≡ length xs → i < length xs → f (Some y) ≡ n → ((b : ℕ) → slice_index_or own b 0 ≡ f (slice_get xs b)) → (b : ℕ) → slice_index_or (slice_set own i n) b 0 ≡ f (slice_get (slice_set xs i y) b)
  put_both [] own i y n size lt is h b = absurd (omega (arith, lt))
  put_both (x ∷ xs) [] i y n size lt is h b = cc
  put_both (x ∷ xs) (o ∷ own) zero y n size lt is h zero = sym is
  put_both (x ∷ xs) (o ∷ own) zero y n size lt is h (suc b) = h (suc b)
  put_both (x ∷ xs) (o ∷ own) (suc i) y n size lt is h zero = h zero
  put_both (x ∷ xs) (o ∷ own) (suc i) y n size lt is h (suc b) = put_both xs own i y n (omega (arith, size)) (omega (arith, lt)) is (λ b. h (suc b)) b

  put_same : (xs : List X) (i : ℕ) (x y : X) → slice_get xs i ≡ Some x → f (Some y) ≡ f (Some x) → (b : ℕ) → f (slice_get xs b) ≡ f (slice_get (slice_set xs i y) b)
  put_same [] i x y at is b = cc
  put_same (z ∷ xs) zero x y at is zero = ap f at ∙ sym is
  put_same (z ∷ xs) zero x y at is (suc b) = refl
  put_same (z ∷ xs) (suc i) x y at is zero = refl
  put_same (z ∷ xs) (suc i) x y at is (suc b) = put_same xs i x y at is b

size_set : {X : Type 0} (xs : List X) (i : ℕ) (x : X) → length (slice_set xs i x) ≡ length xs
size_set [] i x = refl
size_set (y ∷ xs) zero x = refl
size_set (y ∷ xs) (suc i) x = ap suc (size_set xs i x)

-- an entry of the session is the last one in base shard b's log then
module _ (nodes : List (Node Base)) (b se m : ℕ) (e : Change) (old new : Node Base) (at : slice_get nodes b ≡ Some old) (is : new.is ≡ with_entry old.is se m e) where
  own_then : (i : ℕ) → own_in i (Some new) ≡ cond (se == i) (suc (length old.is.authors)) (own_in i (Some old))
  own_then i =
      let z : 0 + length old.is.authors ≡ length old.is.authors = omega (arith) in
      ap (λ x. after_own i 0 0 x.authors) is ∙ (after_more i 0 0 old.is.authors (record { session = se; number = m }) ∙ ap (λ n. cond (se == i) (suc n) (after_own i 0 0 old.is.authors)) z)

  knows_then : (s : Session) → KnowsOwn nodes se s → KnowsOwn (slice_set nodes b new) se (record s { own = slice_set s.own b (suc (length old.is.authors)) })
  knows_then s k = record {
    size = size_set s.own b (suc (length old.is.authors)) ∙ (k.size ∙ sym (size_set nodes b new));
    each = put_both (own_in se) nodes s.own b new (suc (length old.is.authors)) k.size (not_past nodes b old at) (own_then se ∙ ap (λ t. cond t (suc (length old.is.authors)) (own_in se (Some old))) (is_one se)) k.each;
  }

  knows_other : (i : ℕ) (s : Session) → (se == i) ≡ false → KnowsOwn nodes i s → KnowsOwn (slice_set nodes b new) i s
  knows_other i s other k = record {
    size = k.size ∙ sym (size_set nodes b new);
    each = λ c. k.each c ∙ put_same (own_in i) nodes b old new at (own_then i ∙ ap (λ t. cond t (suc (length old.is.authors)) (own_in i (Some old))) other) c;
  }

  all_know : (sessions : List Session) (s : Session) → slice_get sessions se ≡ Some s → Are (KnowsOwn nodes) most_sessions sessions
      → Are (KnowsOwn (slice_set nodes b new)) most_sessions (slice_set sessions se (record s { own = slice_set s.own b (suc (length old.is.authors)) }))
  all_know sessions s own a = record { size = size_set sessions se _ ∙ a.size; each = λ i x got-x. one i x (got sessions se _ i x got-x) }
    where
      two : Session
      two = record s { own = slice_set s.own b (suc (length old.is.authors)) }

      one : (i : ℕ) (x : Session) → ((i ≡ se) × (x ≡ two)) ⊎ (((se == i) ≡ false) × (slice_get sessions i ≡ Some x)) → KnowsOwn (slice_set nodes b new) i x
      one i x (inl p) = subst (λ j. KnowsOwn (slice_set nodes b new) j x) (sym p.0) (subst (KnowsOwn (slice_set nodes b new) se) (sym p.1) (knows_then s (a.each se s own)))
      one i x (inr p) = knows_other i x p.0 (a.each i x p.1)

module _ {F : Type 0} (log : F → LogView) (authors : F → List Author) where
  -- ---- an entry at a base shard
  module _ (h : Held F) (b se m : ℕ) (e : Change) (old new : BaseDomain F) (ts : List (List (List BasePacketView))) (p : IsPlaced log authors h) (at : slice_get h.bases b ≡ Some old) (running : old.stopped ≡ false)
      (turn : IsBaseTurn log authors (log old.front).plan (log old.front).base (step (base_at log authors old) (write se m e)) h.to_stage new ts) where
    abbrev w : World
    w = world_of log authors h

    abbrev d : Done
    d = step (base_at log authors old) (write se m e)

    abbrev nodes : List (Node Base)
    nodes = map (base_node log authors) h.bases

    own : IsBaseTurn log authors h.plan b d h.to_stage new ts
    own = own_turn log authors h b old new ts d p at turn

    there : slice_get nodes b ≡ Some (base_node log authors old)
    there = map_get (base_node log authors) h.bases b old at

    written_is : written w se m e b (slice_get nodes b) ≡ says (base_did w b d) (verdict_of h.plan b d.reply)
    written_is = ap (written w se m e b) there ∙ ap (λ t. cond (not t) (says (base_did w b d) (verdict_of h.plan b d.reply)) (says w (refused Stopped))) running

    abbrev after : Session → Held F
    after two = record h { bases = slice_set h.bases b new; to_stage = ts; sessions = slice_set h.sessions se two }

    module _ (s two : Session) (mine : slice_get h.sessions se ≡ Some s) (v : Option Verdict) (said : v ≡ d.reply) (is : two ≡ noted b v s) where
      same_caller : two.is ≡ s.is
      same_caller = ap (λ (x : Session). x.is) is ∙ by v
        where
          by : (v : Option Verdict) → (noted b v s).is ≡ s.is
          by None = refl
          by (Some (accepted i)) = refl
          by (Some (declined r)) = refl

      after_world : world_of log authors (after two) ≡ base_did w b d
      after_world =
          ap (λ cs. record (world_of log authors (with_base log authors h b new ts)) { callers = cs }) (map_same (λ (x : Session). x.is) h.sessions se s two mine same_caller)
          ∙ base_world log authors h b new ts d own

      -- accepted
      put_placed : (i : ℕ) → v ≡ Some (accepted i) → AreLogged nodes → IsPlaced log authors (after two)
      put_placed i was logged =
          let put = put_base (base_at log authors old) se m e i (sym said ∙ was) in
          let n : suc i ≡ suc (length (base_at log authors old).authors) = ap suc (put.index ∙ sym (logged b (base_node log authors old) there)) in
          let last : two ≡ record s { own = slice_set s.own b (suc (length (base_at log authors old).authors)) } = is ∙ (ap (λ v. noted b v s) was ∙ ap (λ n. record s { own = slice_set s.own b n }) n) in
          let then : base_node log authors new ≡ record { is = d.base; runs = true } = own.node in
          let know = all_know nodes b se m e (base_node log authors old) (base_node log authors new) there (ap (λ (n : Node Base). n.is) then ∙ put.base) h.sessions s mine p.sessions in
          let here = set_are (IsBaseOf log authors h.plan) (base_count h.plan) h.bases b new p.bases own.is in
          rebased log authors h p (slice_set h.bases b new) here ts (own.queued p.to_stage) (slice_set h.sessions se two)
          (subst (λ t. Are (KnowsOwn (map (base_node log authors) (slice_set h.bases b new))) most_sessions (slice_set h.sessions se t)) (sym last)
          (subst (λ ns. Are (KnowsOwn ns) most_sessions (slice_set h.sessions se (record s { own = slice_set s.own b (suc (length (base_at log authors old).authors)) }))) (sym (map_set (base_node log authors) h.bases b new)) know))

      -- not accepted
      still_placed : IsQuiet v → noted b v s ≡ s → IsPlaced log authors (after two)
      still_placed q stays =
          let same : base_node log authors new ≡ base_node log authors old = own.node ∙ (ap (λ x. node x true) (quiet_base (base_at log authors old) se m e v (sym said) q) ∙ ap (λ t. node (base_at log authors old) (not t)) (sym running)) in
          let placed = quiet_placed log authors h b old new ts d p at same own in
          let last : two ≡ s = is ∙ stays in
          subst (λ t. IsPlaced log authors (after t)) (sym last) (subst (λ ss. IsPlaced log authors (record h { bases = slice_set h.bases b new; to_stage = ts; sessions = ss })) (sym (set_same h.sessions se s mine)) placed)
        where
          node : Base → Bool → Node Base
          node x t = record { is = x; runs = t }

      write_noted : (reply : Reply) → reply ≡ verdict_of h.plan b v → AreLogged nodes → IsDone log authors (written w se m e b (slice_get nodes b)) reply (after two)
      write_noted reply says-so logged =
          subst (λ x. IsDone log authors x reply (after two)) (sym written_is)
          (record { world = after_world; reply = says-so ∙ ap (verdict_of h.plan b) said; placed = by v refl })
        where
          by : (u : Option Verdict) → v ≡ u → IsPlaced log authors (after two)
          by None e = still_placed (subst IsQuiet (sym e) tt) (ap (λ v. noted b v s) e)
          by (Some (accepted i)) e = put_placed i e logged
          by (Some (declined r)) e = still_placed (subst IsQuiet (sym e) tt) (ap (λ v. noted b v s) e)

  -- the base shard has had the write, and the session has noted the answer
  pub has_written : (h new : Held F) (b se m : ℕ) (e : Change) (v : Option Verdict) (s two : Session) (reply : Reply) → IsPlaced log authors h → AreLogged (map (base_node log authors) h.bases) → IsBaseGiven log authors b (write se m e) v h new
      → slice_get new.sessions se ≡ Some s → two ≡ noted b v s → reply ≡ verdict_of new.plan b v
      → IsDone log authors (written (world_of log authors h) se m e b (slice_get (map (base_node log authors) h.bases) b)) reply (record new { sessions = slice_set new.sessions se two })
  has_written h new b se m e v s two reply p logged g =
      subst (λ x. slice_get x.sessions se ≡ Some s → two ≡ noted b v s → reply ≡ verdict_of x.plan b v
      → IsDone log authors (written (world_of log authors h) se m e b (slice_get (map (base_node log authors) h.bases) b)) reply (record x { sessions = slice_set x.sessions se two })) (sym g.is)
      (λ mine is said. write_noted h b se m e g.domain g.later g.queues p g.there g.running g.turn s two mine v g.reply is reply said logged)

  pub given_small : (h new : Held F) (b se m : ℕ) (e : Change) (v : Option Verdict) → IsBaseGiven log authors b (write se m e) v h new → IsSmall v
  given_small h new b se m e v g = small_index (base_at log authors g.domain) se m e v g.reply

  -- the base shard has stopped
  pub not_written : (h : Held F) (b se m : ℕ) (e : Change) → IsPlaced log authors h → b < base_count h.plan → false ≡ is_up (slice_get (map (base_node log authors) h.bases) b)
      → IsDone log authors (written (world_of log authors h) se m e b (slice_get (map (base_node log authors) h.bases) b)) (refused Stopped) h
  not_written h b se m e p lt down =
      let w = world_of log authors h in
      let d = stands h.bases b (subst (λ n. b < n) (sym p.bases.size) lt) in
      let there = map_get (base_node log authors) h.bases b d.0 d.1 in
      let n = base_node log authors d.0 in
      let stopped : n.runs ≡ false = sym (down ∙ ap is_up there) in
      let did = step n.is (write se m e) in
      let all : written w se m e b (slice_get (map (base_node log authors) h.bases) b) ≡ says w (refused Stopped)
      = ap (written w se m e b) there ∙ ap (λ t. cond t (says (base_did w b did) (verdict_of h.plan b did.reply)) (says w (refused Stopped))) stopped in
      subst (λ x. IsDone log authors x (refused Stopped) h) (sym all) (record { world = refl; reply = refl; placed = p })

  -- each entry has its author
  pub are_logged : (h : Held F) → IsWhole log authors h → AreLogged (map (base_node log authors) h.bases)
  are_logged h whole b n at = ((reached_good (world_of log authors h) whole.reached).good.wired.bases b n at).authors

  -- ---- a write of a session
  module _ (h : Held F) (se : ℕ) (s one : Session) (p : IsPlaced log authors h) (at : slice_get h.sessions se ≡ Some s) (is : one ≡ called s) where
    abbrev begun : Held F
    begun = record h { sessions = slice_set h.sessions se one }

    pub begun_placed : IsPlaced log authors begun
    begun_placed = session_placed log authors h se one p (knows_still (map (base_node log authors) h.bases) se s one (ap (λ (x : Session). x.own) is) (p.sessions.each se s at))

    pub still_there : se < length h.sessions → se < length (slice_set h.sessions se one)
    still_there lt = subst (λ n. se < n) (sym (size_set h.sessions se one)) lt

    begun_world : world_of log authors begun ≡ numbered (world_of log authors h) se s.is
    begun_world = session_world log authors h se one ∙ ap (λ (x : Session). with_caller (world_of log authors h) se x.is) is

    caller_at : slice_get (world_of log authors h).callers se ≡ Some s.is
    caller_at = map_get (λ (x : Session). x.is) h.sessions se s at

    module _ (name : List ℕ) (e : Change) (q : Layout) (same : q ≡ h.plan) where
      pub write_refused : (r : Refused) → write_refusal q (table_named q name) e ≡ Some r → IsDone log authors (write_by (world_of log authors h) se (slice_get (world_of log authors h).callers se) name e) (refused r) begun
      write_refused r why =
          let w = world_of log authors h in
          let all : write_by w se (slice_get w.callers se) name e ≡ says (numbered w se s.is) (refused r)
          = ap (λ o. write_by w se o name e) caller_at ∙ ap (write_in (numbered w se s.is) se s.is.number (table_named w.plan name) e) (subst (λ q. write_refusal q (table_named q name) e ≡ Some r) same why) in
          subst (λ x. IsDone log authors x (refused r) begun) (sym all) (record { world = begun_world; reply = refl; placed = begun_placed })

      pub write_goes : (t b number : ℕ) (reply : Reply) (last : Held F) → table_named q name ≡ Some t → write_refusal q (table_named q name) e ≡ None → b ≡ base_for h.plan t e → number ≡ s.is.number
          → IsDone log authors (written (world_of log authors begun) se number e b (slice_get (map (base_node log authors) h.bases) b)) reply last
          → IsDone log authors (write_by (world_of log authors h) se (slice_get (world_of log authors h).callers se) name e) reply last
      write_goes t b number reply last named free is by done =
          let w = world_of log authors h in
          let v = numbered w se s.is in
          let nodes = map (base_node log authors) h.bases in
          let all : write_by w se (slice_get w.callers se) name e ≡ written (world_of log authors begun) se number e b (slice_get nodes b)
          = ap (λ o. write_by w se o name e) caller_at
          ∙ (ap (write_in v se s.is.number (table_named w.plan name) e) (subst (λ q. write_refusal q (table_named q name) e ≡ None) same free)
          ∙ (ap (λ o. write_in v se s.is.number o e None) (subst (λ q. table_named q name ≡ Some t) same named)
          ∙ (ap (λ c. written v se s.is.number e c (slice_get nodes c)) (sym is)
          ∙ (ap (λ n. written v se n e b (slice_get nodes b)) (sym by)
          ∙ ap (λ v. written v se number e b (slice_get nodes b)) (sym begun_world))))) in
          subst (λ x. IsDone log authors x reply last) (sym all) done

  pub write_unknown : (h : Held F) (se : ℕ) (name : List ℕ) (e : Change) → IsPlaced log authors h → slice_get (world_of log authors h).callers se ≡ None
      → IsDone log authors (write_by (world_of log authors h) se (slice_get (world_of log authors h).callers se) name e) (refused UnknownPlace) h
  write_unknown h se name e p none = subst (λ o. IsDone log authors (write_by (world_of log authors h) se o name e) (refused UnknownPlace) h) (sym none) (record { world = refl; reply = refl; placed = p })

-- what a write asks of its base shard
pub fits_there : (p : Layout) (t b : ℕ) (e : Change) → table_of p b ≡ t → fits (table_at p t) e ≡ true → fits (layout_of p b) e ≡ true
fits_there p t b e is h = subst (λ t. fits (table_at p t) e ≡ true) (sym is) h

pub shard_there : (p : Layout) (t b : ℕ) (e : Change) → table_of p b ≡ t → shard_of p b ≡ shard (key_of (table_at p t).key e) (table_at p t).shards → shard_of p b ≡ shard (key_of (layout_of p b).key e) (layout_of p b).shards
shard_there p t b e is h = subst (λ t. shard_of p b ≡ shard (key_of (table_at p t).key e) (table_at p t).shards) (sym is) h

pub is_for : (l : LogView) (p : Layout) (b se m : ℕ) (e sent : Change) → l.plan ≡ p → l.base ≡ b → se < most_sessions → m < last_number → fits (layout_of p b) e ≡ true → shard_of p b ≡ shard (key_of (layout_of p b).key e) (layout_of p b).shards → sent ≡ e → IsFor l most_sessions (write se m sent)
is_for l p b se m e sent of at few small fit own same =
    let fits-l : fits (layout_of l.plan l.base) e ≡ true = subst (λ c. fits (layout_of l.plan c) e ≡ true) (sym at) (subst (λ q. fits (layout_of q b) e ≡ true) (sym of) fit) in
    let own-l : shard_of l.plan l.base ≡ shard (key_of (layout_of l.plan l.base).key e) (layout_of l.plan l.base).shards
    = subst (λ c. shard_of l.plan c ≡ shard (key_of (layout_of l.plan c).key e) (layout_of l.plan c).shards) (sym at) (subst (λ q. shard_of q b ≡ shard (key_of (layout_of q b).key e) (layout_of q b).shards) (sym of) own) in
    subst (λ e. IsFor l most_sessions (write se m e)) (sym same) (few, small, fits-l, own-l)
