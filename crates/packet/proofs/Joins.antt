-- Packets that are joined.
use Rattle.std.proofs.Common.{◌≡◌, ℕ, zero, suc, ◌<◌, ◌≤◌, min, List, [], ◌∷◌, length, take, get_or, slice_get, slice_set, map, filter, ◌++◌, ◌⊎◌, inl, inr, false, Some, Option, refl, ap, sym, ◌∙◌, subst, arith}
use Rattle.std.proofs.lemmas.List.{take-append-le, take_min, map-append}
use Rattle.std.proofs.lemmas.List.Elements.{filter-append}
use mathlib.Core.List.{IsPrefix}
use Rattle.row.specs.Bags.{Each}
use Rattle.row.specs.Cells.{Datum, datum_of, same}
use Rattle.row.proofs.BagLemmas.{Each-weaker}
use Rattle.row.proofs.RecordLaws.{Turns-append}
use Rattle.row.specs.Changes.{Turns}
use Rattle.row.specs.declared.record.Record.{Record}
use Rattle.row.specs.declared.value.Value.{Value}
use Rattle.plan.proofs.OwnTexts.{each_join}
use Rattle.model.specs.Fronts.{LogView}
use Rattle.model.specs.Queries.{Line, part}
use Rattle.model.specs.Histories.{view_shard}
use Rattle.model.proofs.Prefixes.{prefix_trans, prefix_length}
use Rattle.packet.specs.Codes.{packet_of, stage_packet_of, EndsAt}
use Rattle.packet.specs.Joined.{GoesOnBase, GoesOnStage, at_most, joined_base, joined_stage}
use Rattle.packet.specs.Lines.{AreOf, entries_of, fronts_to, lengths_of, plan_of}
use Rattle.packet.specs.Messages.{KeyedRecord, BasePacketView, StagePacketView, Mark, Piece}
use Rattle.packet.specs.Truth.{Given, Grows, IsBasePiece, IsLine, IsStagePiece, IsStillBase, IsStillStage, IsTold, IsTrueBase, IsTrueStage, TurnsAt, changes_at, sent_rows}
use Rattle.packet.specs.Keys.{is_among}
use Rattle.packet.specs.declared.reader.Reader.{Reader}
use Rattle.packet.specs.declared.stage_packet.Content.{Content}

-- what stands at the beginning of a list stands at that of a longer one
take_longer : {X : Type 0} (n : ℕ) (xs ys : List X) → IsPrefix xs ys → n ≤ length xs → take n ys ≡ take n xs
take_longer n xs ys p le = ap (take n) (sym p.1) ∙ take-append-le n xs p.0 le

-- ---- of a base shard
base_true : (x y : BasePacketView) → GoesOnBase x y → IsTrueBase x → IsTrueBase y → IsTrueBase (joined_base x y)
base_true x y on tx ty = record {
  grows = prefix_trans x.from x.to y.to tx.grows grown;
  turns = Turns-append _ (sent_rows x.plan x.base x.stage x.to) _ x.changes y.changes tx.turns turned;
  piece = subst (IsBasePiece (joined_base x y)) (sym on.first.piece) tt;
  alone = subst (λ o. Given o (IsStillBase (joined_base x y))) (sym on.first.piece) tt;
  marker = subst (λ o. Given o (IsStillBase (joined_base x y))) (sym on.first.marker) tt;
}
  where
    grown : IsPrefix x.to y.to
    grown = subst (λ l. IsPrefix l y.to) on.from ty.grows

    turned : Turns (sent_rows x.plan x.base x.stage x.to) y.changes (sent_rows x.plan x.base x.stage y.to)
    turned = rw (← on.from, ← on.plan, ← on.base, ← on.stage) ty.turns

-- the packet with the log of the second one in place of its own, and the changes of both
pub base_joined : (x y : BasePacketView) (stage from : ℕ) (here there : LogView) (changes all : List Record) (piece : Option Piece) (m : Option Mark) → GoesOnBase x y → IsTrueBase y → EndsAt y there → all ≡ changes ++ y.changes → from ≤ length here.entries → packet_of stage from here changes piece m ≡ x
    → packet_of stage from there all piece m ≡ joined_base x y
base_joined x y stage from here there changes all piece m on ty ends put le is =
    let whole : here.entries ≡ x.to = ap (λ p. p.to) is in
    let grown : IsPrefix here.entries there.entries = rw (whole, ends.entries, ← on.from) ty.grows in
    let began = take_longer from here.entries there.entries grown le in
    let plan : there.plan ≡ here.plan = ends.plan ∙ on.plan ∙ sym (ap (λ p. p.plan) is) in
    let base : there.base ≡ here.base = ends.base ∙ on.base ∙ sym (ap (λ p. p.base) is) in
    rw (plan, base, began, ends.entries, put) (ap (λ (p : BasePacketView). record p { to = y.to; changes = p.changes ++ y.changes }) is)

-- it is true, and starts no later than it ends
pub base_holds : (x y : BasePacketView) (stage from : ℕ) (here there : LogView) (changes all : List Record) (piece : Option Piece) (m : Option Mark) → GoesOnBase x y → IsTrueBase y → EndsAt y there → all ≡ changes ++ y.changes
    → (from ≤ length here.entries) × IsTrueBase (packet_of stage from here changes piece m) → packet_of stage from here changes piece m ≡ x
    → (from ≤ length there.entries) × IsTrueBase (packet_of stage from there all piece m)
base_holds x y stage from here there changes all piece m on ty ends put (le, tx) is =
    let whole : here.entries ≡ x.to = ap (λ p. p.to) is in
    let grown : IsPrefix here.entries there.entries = rw (whole, ends.entries, ← on.from) ty.grows in (
      omega (arith, prefix_length here.entries there.entries grown, le),
      subst IsTrueBase (sym (base_joined x y stage from here there changes all piece m on ty ends put le is)) (base_true x y on (subst IsTrueBase is tx) ty),
    )

-- ---- how many entries of each log
pub at_most_none : (ns : List ℕ) → ns ≡ at_most ns []
at_most_none [] = refl
at_most_none (n ∷ ns) = refl

-- one source more
pub at_most_next : (ns : List ℕ) (line : List LogView) (i v : ℕ) (l : LogView) → slice_get line i ≡ Some l → i < length ns → v ≡ min (get_or (at_most ns (take i (lengths_of line))) i 0) (length l.entries)
    → slice_set (at_most ns (take i (lengths_of line))) i v ≡ at_most ns (take (suc i) (lengths_of line))
at_most_next [] line i v l at lt is = absurd (omega (arith, lt))
at_most_next (n ∷ ns) [] i v l at lt is = absurd cc
at_most_next (n ∷ ns) (m ∷ line) zero v l at lt is =
    let first : m ≡ l = cc in
    rw (is, first, ← at_most_none ns) refl
at_most_next (n ∷ ns) (m ∷ line) (suc i) v l at lt is = ap (λ ks. min n (length m.entries) ∷ ks) (at_most_next ns line i v l at (omega (arith, lt)) is)

-- all of them
pub at_most_all : (ns ms : List ℕ) (i : ℕ) → min (length ns) (length ms) ≤ i → at_most ns (take i ms) ≡ at_most ns ms
at_most_all [] ms i le = refl
at_most_all (n ∷ ns) [] zero le = refl
at_most_all (n ∷ ns) [] (suc i) le = refl
at_most_all (n ∷ ns) (m ∷ ms) zero le = absurd (omega (arith, le))
at_most_all (n ∷ ns) (m ∷ ms) (suc i) le = ap (λ ks. min n m ∷ ks) (at_most_all ns ms i (omega (arith, le)))

-- where a line grows from its first entries, there is a number for each source
pub counts_each : (ns : List ℕ) (line to : Line) → Grows (fronts_to ns line) to → length to ≤ length ns
counts_each [] line [] h = omega arith
counts_each [] line (t ∷ to) h = absurd h
counts_each (n ∷ ns) [] [] h = omega arith
counts_each (n ∷ ns) [] (t ∷ to) h = absurd h
counts_each (n ∷ ns) (f ∷ line) [] h = omega arith
counts_each (n ∷ ns) (f ∷ line) (t ∷ to) h = omega (arith, counts_each ns line to h.1)

-- the numbers that are kept within a line say of a further one what they said of it
fronts_within : (ns : List ℕ) (here there : List LogView) → Grows (entries_of here) (entries_of there) → fronts_to (at_most ns (lengths_of here)) (entries_of there) ≡ fronts_to ns (entries_of here)
fronts_within [] here there grown = refl
fronts_within (n ∷ ns) [] [] grown = refl
fronts_within (n ∷ ns) [] (m ∷ there) grown = absurd grown
fronts_within (n ∷ ns) (l ∷ here) [] grown = absurd grown
fronts_within (n ∷ ns) (l ∷ here) (m ∷ there) grown =
    let first = take_longer (min n (length l.entries)) l.entries m.entries grown.0 (omega arith) ∙ take_min n l.entries in
    rw (first, fronts_within ns here there grown.1) refl

-- ---- of a stage shard
-- a line that begins one which begins a third
pub grows_chains : (a b c : Line) → Grows a b → Grows b c → Grows a c
grows_chains [] [] [] p q = tt
grows_chains [] [] (z ∷ c) p q = absurd q
grows_chains [] (y ∷ b) c p q = absurd p
grows_chains (x ∷ a) [] c p q = absurd p
grows_chains (x ∷ a) (y ∷ b) [] p q = absurd q
grows_chains (x ∷ a) (y ∷ b) (z ∷ c) p q = (prefix_trans x y z p.0 q.0, grows_chains a b c p.1 q.1)

module _ (x y : StagePacketView) (on : GoesOnStage x y) (ty : IsTrueStage y) where
  abbrev joined : StagePacketView
  joined = joined_stage x y

  grown : Grows x.to y.to
  grown = subst (λ l. Grows l y.to) on.from ty.grows

  turned : (k : Value) → view_shard x.plan x.view (datum_of k) ≡ x.shard → Turns (part x.plan x.stage x.to x.view (datum_of k)) (changes_at (datum_of k) y.changes) (part x.plan x.stage y.to x.view (datum_of k))
  turned k own =
      let theirs : view_shard y.plan y.view (datum_of k) ≡ y.shard = rw (on.plan, on.view, on.shard) own in
      let kept = ty.turns k theirs (rw (on.one.evicts) refl) in
      rw (← on.from, ← on.plan, ← on.stage, ← on.view) kept

  -- the records of a key among those of both
  changes_both : (d : Datum) → changes_at d (x.changes ++ y.changes) ≡ changes_at d x.changes ++ changes_at d y.changes
  changes_both d = ap (map (λ (c : KeyedRecord). c.change)) (filter-append (λ (c : KeyedRecord). same c.key d) x.changes y.changes) ∙ map-append (λ (c : KeyedRecord). c.change) (filter (λ (c : KeyedRecord). same c.key d) x.changes) (filter (λ (c : KeyedRecord). same c.key d) y.changes)

  turns : IsTrueStage x → (k : Value) → view_shard x.plan x.view (datum_of k) ≡ x.shard → is_among x.evicts (datum_of k) ≡ false → TurnsAt joined (datum_of k)
  turns tx k own kept = rw (changes_both (datum_of k)) (Turns-append _ (part x.plan x.stage x.to x.view (datum_of k)) _ _ _ (tx.turns k own kept) (turned k own))

  -- a record of the second packet is of no key that the first one evicts
  told : (c : KeyedRecord) → x.evicts ≡ [] → IsTold y c.key → IsTold joined c.key
  told c none t = record { shard = rw (← on.plan, ← on.view, ← on.shard) t.shard; kept = ap (λ ks. is_among ks c.key) none }

  told_rest : (x.evicts ≡ []) ⊎ (y.changes ≡ []) → Each (λ (c : KeyedRecord). IsTold joined c.key) y.changes
  told_rest (inl none) = Each-weaker (λ (c : KeyedRecord). IsTold y c.key) (λ (c : KeyedRecord). IsTold joined c.key) (λ c t. told c none t) y.changes ty.told
  told_rest (inr none) = subst (Each (λ (c : KeyedRecord). IsTold joined c.key)) (sym none) tt

  stage_true : IsTrueStage x → IsTrueStage joined
  stage_true tx = record {
    grows = grows_chains x.from x.to y.to tx.grows grown;
    line = subst (λ p. IsLine p y.to) on.plan ty.line;
    order = tx.order;
    turns = turns tx;
    told = each_join (λ (c : KeyedRecord). IsTold joined c.key) x.changes y.changes (Each-weaker (λ (c : KeyedRecord). IsTold x c.key) (λ (c : KeyedRecord). IsTold joined c.key) (λ c t. record { shard = t.shard; kept = t.kept }) x.changes tx.told) (told_rest on.one.apart);
    piece = subst (IsStagePiece joined) (sym on.one.piece) tt;
    alone = subst (λ o. Given o (IsStillStage joined)) (sym on.one.piece) tt;
    marker = subst (λ o. Given o (IsStillStage joined)) (sym on.one.marker) tt;
  }

  -- the first packet is made of these, and the second one ends at this line
  module _ (s : ℕ) (r : Reader) (from : List ℕ) (here there : List LogView) (c all : Content) (is : stage_packet_of s r from here c ≡ x) (starts : List ℕ) (rest : Content) (parts : y ≡ stage_packet_of y.stage (record { view = y.view; shard = y.shard }) starts there rest) (put : all.changes.items ≡ c.changes.items ++ rest.changes.items) (others : all ≡ record c { changes = all.changes }) where
    -- the packet with that line in place of its own, and the changes of both
    pub stage_joined : stage_packet_of s r (at_most from (lengths_of here)) there all ≡ joined
    stage_joined =
        let of : y.plan ≡ plan_of there = ap (λ p. p.plan) parts in
        let ends : y.to ≡ entries_of there = ap (λ p. p.to) parts in
        let whole : entries_of here ≡ x.to = ap (λ p. p.to) is in
        let further : Grows (entries_of here) (entries_of there) = rw (whole, ← ends) grown in
        let plan : plan_of there ≡ plan_of here = sym of ∙ on.plan ∙ sym (ap (λ p. p.plan) is) in
        let both : all.changes.items ≡ c.changes.items ++ y.changes = put ∙ ap (λ l. c.changes.items ++ l) (sym (ap (λ p. p.changes) parts)) in
        rw (others, plan, fronts_within from here there further, ← ends, both) (ap (λ (p : StagePacketView). record p { to = y.to; changes = p.changes ++ y.changes }) is)

    -- it is true, and has a front of each source
    pub stage_holds : AreOf y.plan there → AreOf (plan_of here) here × IsTrueStage (stage_packet_of s r from here c) → AreOf (plan_of there) there × IsTrueStage (stage_packet_of s r (at_most from (lengths_of here)) there all)
    stage_holds own (line, tx) = (subst (λ p. AreOf p there) (ap (λ p. p.plan) parts) own, subst IsTrueStage (sym stage_joined) (stage_true (subst IsTrueStage is tx)))
