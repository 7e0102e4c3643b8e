-- A stage shard with no rows.
use Rattle.std.proofs.Common.{◌≡◌, ℕ, zero, suc, ◌-◌, ◌<◌, List, [], ◌∷◌, length, take, drop, Option, Some, None, refl, ap, ◌∙◌, arith}
use Rattle.std.specs.Option.{option_map}
use Rattle.row.specs.Bags.{Each}
use Rattle.plan.specs.Layouts.{Layout, SideLayout}
use Rattle.plan.specs.declared.kinds.Aggregate.{Aggregate}
use Rattle.model.specs.Fronts.{LogView}
use Rattle.model.specs.Logs.{Change}
use Rattle.model.specs.Places.{side_count, sources}
use Rattle.model.specs.Queries.{Line, side_rows}
use Rattle.ops.specs.SideRows.{Rows}
use Rattle.ops.specs.Stages.{aggregate_of_right, right_key, shape_of}
use Rattle.packet.specs.Keys.{no_keys}
use Rattle.packet.specs.Lines.{AreOf, IsOf, entries_of}
use Rattle.packet.specs.Marks.{MarksView}
use Rattle.packet.specs.Messages.{Ask}
use Rattle.packet.specs.Truth.{IsFrontOf, Pointwise}
use Rattle.protocol.specs.StageSteps.{right_count}
use Rattle.right_rows.specs.Rights.{keys_in}
use Rattle.stage_sides.specs.Held.{AreFound, Held, no_rights, sources_of}
use Rattle.stage_steps.specs.Shards.{HoldsRight, IsShard, IsWhole, Shard, stage_of}

empty_front : (p : Layout) (b : ℕ) (es : List Change) → es ≡ [] → IsFrontOf p b es
empty_front p b es e = rw e (record { fitting = tt; room = omega arith })

empty_line : (p : Layout) (bs : List ℕ) (line : List LogView) → Pointwise (IsOf p) bs line → Each (λ (l : LogView). l.entries ≡ []) line → Pointwise (IsFrontOf p) bs (entries_of line)
empty_line p [] [] h e = tt
empty_line p [] (l ∷ line) h e = absurd h
empty_line p (b ∷ bs) [] h e = absurd h
empty_line p (b ∷ bs) (l ∷ line) h e = (empty_front p b l.entries e.0, empty_line p bs line h.1 e.1)

pub line_size : (p : Layout) (bs : List ℕ) (line : List LogView) → Pointwise (IsOf p) bs line → length line ≡ length bs
line_size p [] [] h = refl
line_size p [] (l ∷ line) h = absurd h
line_size p (b ∷ bs) [] h = absurd h
line_size p (b ∷ bs) (l ∷ line) h = ap suc (line_size p bs line h.1)

each_entries : (line : List LogView) → Each (λ (l : LogView). l.entries ≡ []) line → Each (λ (es : List Change). es ≡ []) (entries_of line)
each_entries [] h = tt
each_entries (l ∷ line) h = (h.0, each_entries line h.1)

each_take : {X : Type 0} (P : X → Type 0) (n : ℕ) (xs : List X) → Each P xs → Each P (take n xs)
each_take P zero xs h = tt
each_take P (suc n) [] h = tt
each_take P (suc n) (x ∷ xs) h = (h.0, each_take P n xs h.1)

no_rows : (p : Layout) (s : ℕ) (side : SideLayout) (fs : Line) → Each (λ (es : List Change). es ≡ []) fs → side_rows p s side fs ≡ []
no_rows p s side [] h = refl
no_rows p s side (f ∷ fs) h = rw (h.0, no_rows p s side fs h.1) refl

-- no right rows, by whether there is a right side
abbrev no_right : ℕ → Option Aggregate → Option SideLayout → ℕ → Rows
no_right c a o n = record { column = c; aggregate = a; rows = []; keys = option_map (λ side. []) o; sources = sources_of o n; waiting = [] }

holds_none : (p : Layout) (s c : ℕ) (a : Option Aggregate) (fronts : Line) (o : Option SideLayout) (n : ℕ) → n ≡ right_count p → HoldsRight p s o fronts (no_right c a o n)
holds_none p s c a fronts None n is = refl
holds_none p s c a fronts (Some side) n is = (refl, is, λ k. tt)

keys_none : (c : ℕ) (a : Option Aggregate) (o : Option SideLayout) (n : ℕ) → keys_in (no_right c a o n) ≡ option_map (λ side. no_keys) o
keys_none c a None n = refl
keys_none c a (Some side) n = refl

module _ (p : Layout) (s : ℕ) (line : List LogView) (rows : Held) (n m : ℕ) (pending : List Ask) (marks : MarksView) (lt : s < p.stages) (of : AreOf p line) (empty : Each (λ (l : LogView). l.entries ≡ []) line) (count : n ≡ length line) (rights : m ≡ n - side_count p p.left) (plan : rows.plan ≡ p) (lefts : rows.lefts ≡ []) (right : rows.right ≡ no_rights p m) (found : AreFound rows)
    (none : pending ≡ []) (no_marks : marks ≡ record { senders = n; waiting = [] }) where
  abbrev new : Shard
  new = record { plan = p; shard = s; line = line; rows = rows; pending = pending; marks = marks }

  all_sources : n ≡ length (sources p)
  all_sources = count ∙ line_size p (sources p) line of

  new_whole : IsWhole new
  new_whole = record {
    shard = lt;
    of = of;
    fronts = empty_line p (sources p) line of empty;
    senders = ap (λ (k : MarksView). k.senders) no_marks ∙ all_sources;
    rows = record {
      plan = plan;
      found = found;
      lefts = rw (lefts, no_rows p s p.left (take (side_count p p.left) (entries_of line)) (each_take (λ (es : List Change). es ≡ []) (side_count p p.left) (entries_of line) (each_entries line empty))) (record { each = λ z. refl });
      right = rw right (holds_none p s _ _ (drop (side_count p p.left) (entries_of line)) p.right m (rights ∙ ap (λ n. n - side_count p p.left) all_sources));
    };
    pending = rw none tt;
  }

  pub new_shard : IsShard new
  new_shard = record { whole = new_whole; waits = rw none tt }

  pub new_stage : stage_of new ≡ record { plan = p; shard = s; line = entries_of line; right = option_map (λ side. no_keys) p.right; pending = []; asked = None; marks = [] }
  new_stage = λ i. record { plan = p; shard = s; line = entries_of line; right = (ap keys_in right ∙ keys_none (right_key p.right) (aggregate_of_right (shape_of p.right p.aggregate)) p.right m) i; pending = none i; asked = None; marks = (no_marks i).waiting }
