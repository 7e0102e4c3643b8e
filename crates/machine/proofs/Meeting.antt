-- The first message of an edge is for the domain at its end, and in turn.
use Rattle.std.proofs.Common.{Bool, true, false, not, ◌≡◌, ℕ, zero, suc, ◌<◌, List, [], ◌∷◌, map, length, Some, slice_get, slice_set, slice_index_or, take, refl, ap, sym, ◌∙◌, subst, arith, inl}
use Rattle.std.proofs.lemmas.List.{length-map, take_all}
use mathlib.Core.List.{IsPrefix}
use Rattle.plan.specs.Layouts.{Layout}
use Rattle.model.specs.Fronts.{LogView, Agree}
use Rattle.model.specs.Histories.{Author}
use Rattle.model.specs.Logs.{Change}
use Rattle.model.proofs.Beginnings.{agree}
use Rattle.packet.specs.Lines.{entries_of, no_log}
use Rattle.packet.specs.Messages.{BasePacketView}
use Rattle.packet.specs.Readers.{Reader, readers}
use Rattle.packet.specs.declared.mode.Mode.{Mode}
use Rattle.packet.specs.declared.mode.Mode.TheVariants as mode
use Rattle.protocol.specs.Edges.{queue}
use Rattle.protocol.specs.Laws.{IsNext}
use Rattle.protocol.specs.Stages.{packet}
use Rattle.protocol.specs.Worlds.{Node}
use Rattle.protocol.specs.WorldSteps.{is_up}
use Rattle.protocol.proofs.Every.{every_turn}
use Rattle.protocol.proofs.Lists.{map_get, or_of}
use Rattle.stage_domain.specs.Domains.{Domain as StageDomain, stage_of, Meets, log_of}
use Rattle.stage_steps.specs.Shards.{IsFrom}
use Rattle.view_domain.specs.Domains.{Domain as ViewDomain}
use Rattle.machine.specs.Held.{Held, IsPlaced, IsWhole, IsStageOf, IsViewOf, AgreeingAreOne, world_of, stage_node, runs}
use Rattle.machine.proofs.Queued.{first_queued, map_or}
use Rattle.machine.proofs.StageTurns.{reader}
use Rattle.protocol.proofs.Within.{not_past}

pub there_at : {X : Type 0} (xs : List X) (i : ℕ) (d : X) → i < length xs → slice_get xs i ≡ Some (slice_index_or xs i d)
there_at [] i d lt = absurd (omega (arith, lt))
there_at (x ∷ xs) zero d lt = refl
there_at (x ∷ xs) (suc i) d lt = there_at xs i d (omega (arith, lt))

pub got_at : {X : Type 0} (xs : List X) (i : ℕ) (x d : X) → i < length xs → x ≡ slice_index_or xs i d → slice_get xs i ≡ Some x
got_at xs i x d lt is = there_at xs i d lt ∙ ap Some (sym is)

pub set_or : {X : Type 0} (xs : List X) (i : ℕ) (x d : X) → i < length xs → slice_index_or (slice_set xs i x) i d ≡ x
set_or [] i x d lt = absurd (omega (arith, lt))
set_or (y ∷ xs) zero x d lt = refl
set_or (y ∷ xs) (suc i) x d lt = set_or xs i x d (omega (arith, lt))

pub stands : {X : Type 0} (xs : List X) (i : ℕ) → i < length xs → (x : X) × (slice_get xs i ≡ Some x)
stands [] i lt = absurd (omega (arith, lt))
stands (x ∷ xs) zero lt = (x, refl)
stands (x ∷ xs) (suc i) lt = stands xs i (omega (arith, lt))

-- what was seen of a list holds of an equal one
pub seen_up : {D X : Type 0} (f : D → Node X) (xs ys : List D) (i : ℕ) (b : Bool) → b ≡ is_up (slice_get (map f xs) i) → xs ≡ ys → is_up (slice_get (map f ys) i) ≡ b
seen_up f xs ys i b is same = sym (is ∙ ap (λ zs. is_up (slice_get (map f zs) i)) same)

pub seen_there : {D : Type 0} (xs ys : List D) (i : ℕ) → i < length xs → xs ≡ ys → i < length ys
seen_there xs ys i lt same = subst (λ zs. i < length zs) same lt

-- so does what was seen of a domain that runs
pub seen : {D X : Type 0} (f : D → Node X) (xs ys : List D) (i : ℕ) → true ≡ is_up (slice_get (map f xs) i) → i < length xs → xs ≡ ys → (is_up (slice_get (map f ys) i) ≡ true) × (i < length ys)
seen f xs ys i up lt same = (seen_up f xs ys i true up same, seen_there xs ys i lt same)

-- a domain that is up runs
pub up_runs : {D X : Type 0} (f : D → Node X) (xs : List D) (i : ℕ) (d : D) → slice_get xs i ≡ Some d → is_up (slice_get (map f xs) i) ≡ true → (f d).runs ≡ true
up_runs f xs i d at up = subst (λ o. is_up o ≡ true) (map_get f xs i d at) up

pub mode_runs : (m : Mode) → runs m ≡ true → m ≡ mode.Running
mode_runs mode.Running e = refl
mode_runs mode.Stopped e = cc
mode_runs mode.Broken e = cc

pub not_stopped : (b : Bool) → not b ≡ true → b ≡ false
not_stopped true e = cc
not_stopped false e = refl

pub own_place : (p : Layout) (s : ℕ) (d : StageDomain) → IsStageOf p s d → IsStageOf d.plan s d
own_place p s d is = record { plan = refl; shard = is.shard; place = subst (λ q. s < q.stages) (sym is.plan) is.place; whole = is.whole }

pub own_view : (p : Layout) (r : ℕ) (d : ViewDomain) → IsViewOf p r d → IsViewOf d.plan r d
own_view p r d is = record { plan = refl; reader = subst (λ q. slice_get (readers q) r ≡ Some (reader d.view d.shard)) (sym is.plan) is.reader; place = subst (λ q. d.view < length q.views) (sym is.plan) is.place; whole = is.whole }

pub as_many : {X : Type 0} (f : X → Reader) (xs : List X) (p q : Layout) → map f xs ≡ readers p → q ≡ p → length xs ≡ length (readers q)
as_many f xs p q e same = sym (length-map xs f) ∙ (ap length e ∙ ap (λ r. length (readers r)) (sym same))

-- a list that begins another agrees with it
pub prefix_agree : {X : Type 0} (xs ys : List X) → IsPrefix xs ys → Agree xs ys
prefix_agree xs ys pre =
    subst (λ zs. Agree zs ys) (take_all (length xs) xs (omega (arith))) (subst (λ zs. Agree (take (length xs) xs) zs) (take_all (length ys) ys (omega (arith))) (agree (length xs) (length ys) xs ys (inl pre) (omega (arith)) (omega (arith))))

front_is : (line : List LogView) (j : ℕ) (from : List Change) → slice_get (entries_of line) j ≡ Some from → (slice_index_or line j no_log).entries ≡ from
front_is line j from at = sym (map_or (λ (l : LogView). l.entries) line j no_log) ∙ or_of (entries_of line) j from [] at

module _ {F : Type 0} (log : F → LogView) (authors : F → List Author) where
  pub reader_there : (h : Held F) (r : ℕ) (x : Reader) → IsPlaced log authors h → slice_get (readers h.plan) r ≡ Some x → r < length h.views
  reader_there h r x p at = subst (λ n. r < n) (sym p.views.size) (not_past (readers h.plan) r x at)

  pub next_packet : (h : Held F) (s j : ℕ) (d : StageDomain) (k : BasePacketView) (ks : List BasePacketView) → IsWhole log authors h → slice_get h.stages s ≡ Some d → d.mode ≡ mode.Running → queue h.to_stage s j ≡ k ∷ ks → IsNext (stage_of d) j k
  next_packet h s j d k ks w at running q = (every_turn (world_of log authors h) w.reached).0 s j (stage_node d) k ks (map_get stage_node h.stages s d at) (ap runs running) q

  pub meets_packet : (are_one : LogView → LogView → Type 0) → AgreeingAreOne are_one → (h : Held F) (s j : ℕ) (d : StageDomain) (k : BasePacketView) (ks : List BasePacketView) → IsWhole log authors h → slice_get h.stages s ≡ Some d → d.mode ≡ mode.Running → queue h.to_stage s j ≡ k ∷ ks
      → Meets are_one d (packet j k)
  meets_packet are_one one h s j d k ks w at running q =
      let is = w.placed.stages.each s d at in
      let from = first_queued (λ s j. IsFrom h.plan s j) h.to_stage s j k ks q w.placed.to_stage in
      let next = next_packet h s j d k ks w at running q in
      let front = front_is d.line j k.from next.from in (
        subst (λ p. IsFrom p d.shard j k) (sym is.plan) (subst (λ i. IsFrom h.plan i j k) (sym is.shard) from),
        one (slice_index_or d.line j no_log) (log_of k) (subst (λ es. Agree es k.to) (sym front) (prefix_agree k.from k.to next.grows)),
      )
