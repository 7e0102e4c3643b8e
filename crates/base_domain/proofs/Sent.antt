-- What a base shard puts out is true.
use Rattle.std.proofs.Common.{◌≡◌, ℕ, ◌==◌, Bool, true, false, cond, List, [], ◌∷◌, ◌++◌, filter, length, take, Option, Some, None, refl, ap, sym, ◌∙◌, arith}
use Rattle.std.proofs.lemmas.List.{append-nil, take-append-le, take_all}
use Rattle.std.proofs.lemmas.Bool.{eqb-true}
use Rattle.row.specs.Cells.{has_shard}
use Rattle.row.specs.Changes.{Turns}
use Rattle.row.proofs.RecordLaws.{Turns-filter}
use Rattle.plan.specs.Layouts.{Layout, SideLayout, table_at}
use Rattle.model.specs.Logs.{Change, rows_of}
use Rattle.model.specs.Histories.{Author}
use Rattle.model.specs.Fronts.{LogView}
use Rattle.model.specs.Places.{layout_of, table_of}
use Rattle.base.specs.Records.{records_of}
use Rattle.packet.specs.Readers.{side_in, side_of, right_side}
use Rattle.packet.specs.Messages.{Piece, Mark}
use Rattle.packet.specs.Codes.{packet_of}
use Rattle.packet.specs.Truth.{IsTrueBase, IsBasePiece, Given, rows_for, sent_rows}
use Rattle.protocol.specs.Bases.{Base}
use Rattle.protocol.specs.BaseSteps.{still, changes_for, entry_packet}
use Rattle.base_domain.specs.Codes.{base_of}

given : {A : Type 0} (o : Option A) (P : Type 0) → P → Given o P
given None P h = tt
given (Some a) P h = h

-- a packet that moves no front
pub still_true : (b : Base) (s : ℕ) (piece : Option Piece) (m : Option Mark) → IsBasePiece (still b s piece m) piece → IsTrueBase (still b s piece m)
still_true b s piece m h = record {
  grows = ([], append-nil b.entries);
  turns = record { each = λ z. refl };
  piece = h;
  alone = given piece _ (record { front = refl; changes = refl });
  marker = given m _ (record { front = refl; changes = refl });
}

-- the side that a table is has that table
right_table : (t : ℕ) (o : Option SideLayout) (side : SideLayout) → right_side t o ≡ Some side → t ≡ side.table
right_table t None side is = absurd cc
right_table t (Some r) side is = by (t == r.table) refl is
  where
    by : (c : Bool) → (t == r.table) ≡ c → cond c (Some r) None ≡ Some side → t ≡ side.table
    by true e h = let same : r ≡ side = cc in eqb-true t r.table e ∙ ap (λ (x : SideLayout). x.table) same
    by false e h = absurd cc

side_table : (p : Layout) (t : ℕ) (side : SideLayout) → side_in p t ≡ Some side → t ≡ side.table
side_table p t side is = by (t == p.left.table) refl is
  where
    by : (c : Bool) → (t == p.left.table) ≡ c → cond c (Some p.left) (right_side t p.right) ≡ Some side → t ≡ side.table
    by true e h = let same : p.left ≡ side = cc in eqb-true t p.left.table e ∙ ap (λ (x : SideLayout). x.table) same
    by false e h = right_table t p.right side h

-- the rows of a front that a base shard has for a stage shard
rows_sent : (p : Layout) (b s : ℕ) (side : SideLayout) (front : List Change) → side_of p b ≡ Some side → sent_rows p b s front ≡ filter (has_shard side.key p.stages s) (rows_of (layout_of p b).key front)
rows_sent p b s side front is =
    ap (λ o. rows_for p s o front) is ∙ ap (λ t. filter (has_shard side.key p.stages s) (rows_of (table_at p t).key front)) (sym (side_table p (table_of p b) side is))

-- the packet of an entry
pub entry_true : (b : Base) (e : Change) (side : SideLayout) (s : ℕ) → side_of b.plan b.base ≡ Some side
    → Turns (rows_of (layout_of b.plan b.base).key b.entries) (records_of (layout_of b.plan b.base).key (rows_of (layout_of b.plan b.base).key b.entries) e) (rows_of (layout_of b.plan b.base).key (b.entries ++ e ∷ []))
    → IsTrueBase (entry_packet b e side s)
entry_true b e side s is t = record {
  grows = (e ∷ [], refl);
  turns = rw (rows_sent b.plan b.base s side b.entries is, rows_sent b.plan b.base s side (b.entries ++ e ∷ []) is) (Turns-filter (has_shard side.key b.plan.stages s) _ _ _ t);
  piece = tt;
  alone = tt;
  marker = tt;
}

-- the packet from the first n entries of a front, which are those of the base shard
pub entry_is : (b : Base) (e : Change) (side : SideLayout) (s n : ℕ) (to : LogView) → to.plan ≡ b.plan → to.base ≡ b.base → to.entries ≡ b.entries ++ e ∷ [] → n ≡ length b.entries
    → packet_of s n to (changes_for b e side s) None None ≡ entry_packet b e side s
entry_is b e side s n to plan base entries len = rw (plan, base, entries, len) (ap (λ f. record (entry_packet b e side s) { from = f }) (before b.entries e))
  where
    before : (f : List Change) (x : Change) → take (length f) (f ++ x ∷ []) ≡ f
    before f x = take-append-le (length f) f (x ∷ []) (omega arith) ∙ take_all (length f) f (omega arith)

-- fronts that say the same send the same
pub same_still : (l m : LogView) (a b : List Author) (s : ℕ) (piece : Option Piece) (mark : Option Mark) → l ≡ m → a ≡ b → still (base_of l a) s piece mark ≡ still (base_of m b) s piece mark
same_still l m a b s piece mark log who = cc
