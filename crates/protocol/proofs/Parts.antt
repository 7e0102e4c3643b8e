-- What one message changes of a base shard, a stage shard and a view shard, as far as fronts go.
use Rattle.std.proofs.Common.{◌≡◌, ℕ, zero, suc, ◌==◌, Bool, true, false, cond, List, [], ◌∷◌, ◌++◌, map, length, slice_get, slice_set, Option, Some, None, refl, ap, sym, ◌∙◌, subst}
use Rattle.std.specs.List.{list_all, range_with_len}
use Rattle.std.proofs.lemmas.List.FromFn.{length-map-range_with_len}
use Rattle.row.specs.Bags.{Each}
use Rattle.row.specs.Cells.{Datum}
use Rattle.plan.specs.Layouts.{Layout, SideLayout}
use Rattle.protocol.specs.Bases as base
use Rattle.protocol.specs.BaseSteps as on_base
use Rattle.protocol.specs.Views as view
use Rattle.protocol.specs.ViewSteps as on_view
use Rattle.model.specs.Logs.{Change}
use Rattle.model.specs.Queries.{Line}
use mathlib.Core.List.{IsPrefix}
use Rattle.packet.specs.Readers.{view_of, side_of}
use Rattle.packet.specs.Messages.{Ask, BasePacketView, Sent, Mark, Piece, none_of}
use Rattle.packet.specs.Keys.{Keys}
use Rattle.partial.specs.States.{is_filled, is_hole}
use Rattle.packet.specs.Truth.{Grows, Given}
use Rattle.packet.proofs.Joins.{grows_chains}
use Rattle.protocol.proofs.Leading.{IsRun, IsBaseRun, IsBaseStep}
use Rattle.protocol.specs.Stages.{Stage, ToStage, packet, request, order, Done, knows, behind}
use Rattle.protocol.specs.StageSteps.{step, quiet, takes, packet_taken, order_taken, goes, looks, look_all, look, asks, answered, caps, cap_kept, shrink, oldest_goes, first_goes, excess}
use Rattle.protocol.proofs.EdgeLaws.{AreRunsOf}
use Rattle.protocol.proofs.Lists.{set_same}
use Rattle.model.proofs.Prefixes.{prefix_self, prefix_trans}
use Rattle.protocol.proofs.Runs.{leads_append, run_append, line_self}

-- ---- runs
base_append : (a b c : List Change) (xs ys : List BasePacketView) → IsBaseRun a xs b → IsBaseRun b ys c → IsBaseRun a (xs ++ ys) c
base_append a b c xs ys r q = leads_append (λ (x : BasePacketView). x.from) (λ (x : BasePacketView). x.to) IsBaseStep a b c xs ys r q

base_before : (a b : List Change) (xs : List BasePacketView) → IsBaseRun a xs b → IsPrefix a b
base_before a b [] r = subst (IsPrefix a) r (prefix_self a)
base_before a b (x ∷ xs) r = prefix_trans a x.to b (subst (λ f. IsPrefix f x.to) r.0 r.1.grows) (base_before x.to b xs r.2)

run_before : (a b : Line) (xs : List Sent) → IsRun a xs b → Grows a b
run_before a b [] r = subst (Grows a) r (line_self a)
run_before a b (x ∷ xs) r = grows_chains a x.to b (subst (λ f. Grows f x.to) r.0 r.1) (run_before x.to b xs r.2)

pub base_runs : AreRunsOf IsBaseRun IsPrefix
base_runs = record { append = base_append; before = base_before; chains = prefix_trans }

pub stage_runs : AreRunsOf IsRun Grows
stage_runs = record { append = run_append; before = run_before; chains = grows_chains }

-- ---- a base shard
pub each_map_of : {X Y : Type 0} (P : Y → Type 0) (f : X → Y) (xs : List X) → ((x : X) → P (f x)) → Each P (map f xs)
each_map_of P f [] g = tt
each_map_of P f (x ∷ xs) g = (g x, each_map_of P f xs g)

-- what it puts out leads from the one front to the other, for each stage shard
pub record HasSent (p : Layout) (from to : List Change) (sent : List (List BasePacketView)) : Type 0 where
  pub runs : Each (λ ks. IsBaseRun from ks to) sent
  pub size : length sent ≡ p.stages

sent_map : (p : Layout) (from to : List Change) (f : ℕ → List BasePacketView) → ((s : ℕ) → IsBaseRun from (f s) to) → HasSent p from to (map f (range_with_len 0 p.stages))
sent_map p from to f g = record { runs = each_map_of (λ ks. IsBaseRun from ks to) f (range_with_len 0 p.stages) g; size = length-map-range_with_len f 0 p.stages }

pub sent_none : (p : Layout) (from : List Change) → HasSent p from from (none_of (range_with_len 0 p.stages))
sent_none p from = sent_map p from from (λ s. []) (λ s. refl)

still_leads : (b : base.Base) (s : ℕ) (piece : Option Piece) (m : Option Mark) → IsBaseRun b.entries (on_base.still b s piece m ∷ []) b.entries
still_leads b s piece m = (refl, record { grows = prefix_self b.entries; piece = still piece; marker = still m }, refl)
  where
    still : {A : Type 0} → (o : Option A) → Given o (b.entries ≡ b.entries)
    still None = tt
    still (Some a) = refl

-- a request or a marker
pub request_sent : (b : base.Base) (s : ℕ) (a : Ask) → HasSent b.plan b.entries b.entries (on_base.step b (base.request s a)).sent
request_sent b s a = sent_map b.plan b.entries b.entries (λ t. cond (t == s) (on_base.still b s (Some (on_base.piece_for b s a)) None ∷ []) []) (λ t. by (t == s))
  where
    by : (c : Bool) → IsBaseRun b.entries (cond c (on_base.still b s (Some (on_base.piece_for b s a)) None ∷ []) []) b.entries
    by true = still_leads b s (Some (on_base.piece_for b s a)) None
    by false = refl

pub marker_sent : (b : base.Base) (m : Mark) → HasSent b.plan b.entries b.entries (on_base.step b (base.marker m)).sent
marker_sent b m = by (side_of b.plan b.base)
  where
    by : (o : Option SideLayout) → HasSent b.plan b.entries b.entries (on_base.to_stages b.plan o (λ side s. on_base.still b s None (Some m)))
    by None = sent_none b.plan b.entries
    by (Some side) = sent_map b.plan b.entries b.entries (λ s. on_base.still b s None (Some m) ∷ []) (λ s. still_leads b s None (Some m))

-- an entry, where the base shard's table is one of the stage
pub entry_sent : (b : base.Base) (s m : ℕ) (e : Change) (side : SideLayout) → side_of b.plan b.base ≡ Some side → HasSent b.plan b.entries (b.entries ++ e ∷ []) (on_base.appended b s m e).sent
entry_sent b s m e side is = subst (λ (o : Option SideLayout). HasSent b.plan b.entries (b.entries ++ e ∷ []) (on_base.to_stages b.plan o
    (on_base.entry_packet b e))) (sym is)
    (sent_map b.plan b.entries (b.entries ++ e ∷ []) (λ s. on_base.entry_packet b e side s ∷ [])
    (λ s. (refl, record { grows = (e ∷ [], refl); piece = tt; marker = tt }, refl)))

-- ---- a stage shard: the line after a message
keeps_cond : (l : Line) (b : Bool) (d e : Done) → d.stage.line ≡ l → e.stage.line ≡ l → (cond b d e).stage.line ≡ l
keeps_cond l true d e x y = x
keeps_cond l false d e x y = y

keeps_answered : (a : Ask) (needed : List Datum) (s : Stage) → (answered s a needed).stage.line ≡ s.line
keeps_answered a needed s = keeps_cond s.line (list_all (knows s.right) needed) _ (quiet (record s { pending = (s.pending ++ a ∷ []) })) refl refl

keeps_look_all : (waiting : List Ask) (s : Stage) → (look_all waiting s).stage.line ≡ s.line
keeps_look_all [] s = refl
keeps_look_all (a ∷ rest) s =
    let needed = behind s (view_of a.tag) a.key in
    keeps_look_all rest (look s a).stage ∙ keeps_answered a needed (asks s needed).stage

keeps_first : (s : Stage) (keys : Keys) (xs : List Datum) → (first_goes s keys xs).stage.line ≡ s.line
keeps_first s keys [] = refl
keeps_first s keys (x ∷ xs) = refl

keeps_oldest : (s : Stage) (right : Option Keys) → (oldest_goes s right).stage.line ≡ s.line
keeps_oldest s None = refl
keeps_oldest s (Some keys) = keeps_first s keys keys.order

keeps_shrink : (n : ℕ) (s : Stage) → (shrink n s).stage.line ≡ s.line
keeps_shrink zero s = refl
keeps_shrink (suc n) s = keeps_shrink n (oldest_goes s s.right).stage ∙ keeps_oldest s s.right

keeps_caps : (s : Stage) → (caps s).stage.line ≡ s.line
keeps_caps s = by s.pending
  where
    by : (waiting : List Ask) → (cap_kept s waiting).stage.line ≡ s.line
    by [] = keeps_shrink (excess s.plan.cap s.right) s
    by (a ∷ waiting) = refl

pub line_step : (s : Stage) (m : ToStage) → (step s m).stage.line ≡ (takes s m).stage.line
line_step s m =
    let t = (takes s m).stage in
    keeps_caps (looks t).stage ∙ keeps_look_all t.pending (record t { pending = [] })

line_packet : (s : Stage) (j : ℕ) (k : BasePacketView) (piece : Option Piece) (m : Option Mark) → slice_get s.line j ≡ Some k.from → Given piece (k.from ≡ k.to) → Given m (k.from ≡ k.to)
    → (packet_taken s j k piece m).stage.line ≡ slice_set s.line j k.to
line_packet s j k None None at p q = refl
line_packet s j k None (Some m) at p q = sym (set_same s.line j k.to (at ∙ ap Some q))
line_packet s j k (Some piece) m at p q = sym (set_same s.line j k.to (at ∙ ap Some p))

-- a packet takes it to where the packet ends
pub line_taken : (s : Stage) (j : ℕ) (k : BasePacketView) → slice_get s.line j ≡ Some k.from → Given k.piece (k.from ≡ k.to) → Given k.marker (k.from ≡ k.to) → (step s (packet j k)).stage.line ≡ slice_set s.line j k.to
line_taken s j k at p q = line_step s (packet j k) ∙ line_packet s j k k.piece k.marker at p q

pub line_request : (s : Stage) (a : Ask) → (step s (request a)).stage.line ≡ s.line
line_request s a = line_step s (request a)

pub line_order : (s : Stage) (x : Datum) → (step s (order x)).stage.line ≡ s.line
line_order s x = line_step s (order x) ∙ by s.right
  where
    by : (right : Option Keys) → (order_taken s right x).stage.line ≡ s.line
    by None = refl
    by (Some keys) = keeps_cond s.line (is_filled (keys.at x)) (goes s keys x) (quiet s) refl refl

-- ---- a view shard: a key that is wanted, or an order, leaves its cut
pub record Rests (v : view.View) (d : view.Done) : Type 0 where
  pub cut : d.view.cut ≡ v.cut
  pub view : d.view.view ≡ v.view
  pub shard : d.view.shard ≡ v.shard
  pub acks : d.acks ≡ []

pub want_rests : (v : view.View) (k : Datum) → Rests v (on_view.step v (view.want k))
want_rests v k = by (is_hole (v.keys.at k))
  where
    by : (b : Bool) → Rests v (cond b (on_view.begins v k) (on_view.quiet v v.keys))
    by true = record { cut = refl; view = refl; shard = refl; acks = refl }
    by false = record { cut = refl; view = refl; shard = refl; acks = refl }

pub order_rests : (v : view.View) (k : Datum) → Rests v (on_view.step v (view.order k))
order_rests v k = record { cut = refl; view = refl; shard = refl; acks = refl }
