-- The requests that wait are looked at, one after the other.
use Rattle.std.proofs.Common.{◌≡◌, ℕ, List, [], ◌∷◌, ◌++◌, map, filter, refl, ap, sym, ◌∙◌, subst, arith}
use Rattle.row.specs.Bags.{IsAscending, sorted}
use Rattle.row.specs.Cells.{Datum, cell_at, has, row_cmp}
use Rattle.row.specs.CellOrder.{row_total, row_same}
use Rattle.row.proofs.BagLemmas.{IsAscending-sorted, one_list, times-sorted}
use Rattle.plan.specs.Layouts.{view_at}
use Rattle.model.specs.Queries.{left}
use Rattle.packet.specs.Lines.{entries_of}
use Rattle.packet.specs.Messages.{Ask}
use Rattle.packet.specs.Readers.{view_of}
use Rattle.protocol.specs.Stages.{Done, Stage, behind}
use Rattle.protocol.specs.StageSteps.{answered, asks, look, look_all, looks, quiet}
use Rattle.stage_steps.specs.Outboxes.{AreEdges, OutboxView}
use Rattle.stage_steps.specs.Shards.{IsPut, IsWhole, Shard, stage_of}
use Rattle.stage_steps.proofs.Begins.{after_assoc}
use Rattle.stage_steps.proofs.Puts.{after, put_quiet}

-- no request waits
abbrev pub waiting_none : Done → Done
waiting_none d = record d { stage = record d.stage { pending = [] } }

-- these are looked at
abbrev pub looked : List Ask → Done → Done
looked [] d = d
looked (a ∷ rest) d = looked rest (after d (look d.stage a))

pub looked_more : (done : List Ask) (a : Ask) (d : Done) → looked (done ++ a ∷ []) d ≡ after (looked done d) (look (looked done d).stage a)
looked_more [] a d = refl
looked_more (b ∷ done) a d = looked_more done a (after d (look d.stage b))

looked_all : (as_ : List Ask) (d : Done) (out : OutboxView) (y : Shard) → AreEdges y.plan out → IsPut (looked as_ d) out y → IsPut (after d (look_all as_ d.stage)) out y
looked_all [] d out y edges put = put_quiet d (quiet d.stage) out y y put edges refl refl (ap quiet (sym put.stage))
looked_all (a ∷ rest) d out y edges put =
    let e = look d.stage a in
    subst (λ (d : Done). IsPut d out y) (after_assoc d e (look_all rest e.stage)) (looked_all rest (after d e) out y edges put)

pub put_looked : (d : Done) (out new : OutboxView) (x y : Shard) (done : List Ask) → IsPut d out x → done ≡ x.pending → AreEdges y.plan new → IsPut (looked done (waiting_none d)) new y → IsPut (after d (looks d.stage)) new y
put_looked d out new x y done put all edges is =
    let all_of : done ≡ d.stage.pending = all ∙ ap (λ (s : Stage). s.pending) put.stage in
    subst (λ as_. IsPut (after d (look_all as_ (record d.stage { pending = [] }))) new y) all_of (looked_all done (waiting_none d) new y edges is)

pub none_waiting : (x : Shard) → IsWhole x → IsWhole (record x { pending = [] })
none_waiting x whole = record { shard = whole.shard; of = whole.of; fronts = whole.fronts; senders = whole.senders; rows = whole.rows; pending = tt }

pub put_waiting_none : (d : Done) (out : OutboxView) (x : Shard) → IsPut d out x → IsPut (waiting_none d) out (record x { pending = [] })
put_waiting_none d out x put = record { stage = ap (λ (s : Stage). record s { pending = [] }) put.stage; sent = put.sent; asks = put.asks; to = put.to }

-- ---- one request: what it needs
pub behind_is : (x : Shard) (i j : ℕ) (k m : Datum) → IsWhole x → IsAscending row_cmp x.rows.lefts → i ≡ j → k ≡ m
    → map (λ l. cell_at l x.rows.plan.left.key) (filter (has (view_at x.rows.plan i).key k) x.rows.lefts) ≡ behind (stage_of x) j m
behind_is x i j k m whole up at is =
    let lefts = one_list row_cmp row_total row_same x.rows.lefts (sorted row_cmp (left x.plan x.shard (entries_of x.line))) up (IsAscending-sorted row_cmp row_total (left x.plan x.shard (entries_of x.line)))
    (λ z. let a = whole.rows.lefts.each z in omega (arith, a, times-sorted row_cmp z (left x.plan x.shard (entries_of x.line)))) in
    λ n. map (λ l. cell_at l (whole.rows.plan n).left.key) (filter (has (view_at (whole.rows.plan n) (at n)).key (is n)) (lefts n))

pub put_look : (x : Shard) (a : Ask) (d : Done) (out : OutboxView) (y : Shard) (old : OutboxView) (needed : List Datum) → IsPut d old x → needed ≡ behind (stage_of x) (view_of a.tag) a.key
    → IsPut (after (after d (asks d.stage needed)) (answered (asks d.stage needed).stage a needed)) out y → IsPut (after d (look d.stage a)) out y
put_look x a d out y old needed put is done =
    let own : needed ≡ behind d.stage (view_of a.tag) a.key = is ∙ ap (λ (s : Stage). behind s (view_of a.tag) a.key) put.stage in
    subst (λ ks. IsPut (after d (after (asks d.stage ks) (answered (asks d.stage ks).stage a ks))) out y) own
    (subst (λ (d : Done). IsPut d out y) (after_assoc d (asks d.stage needed) (answered (asks d.stage needed).stage a needed)) done)
