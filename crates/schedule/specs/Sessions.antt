-- A session as data, and what an acknowledgement makes of it.
use Rattle.std.specs.Prelude.{ℕ, ◌==◌, Bool, false, nat_le, cond, List, map, length, Option, Some, None, is_some, slice_index_or, slice_set}
use Rattle.std.specs.List.{list_all, range_with_len}
use Rattle.row.specs.declared.refused.Refused.TheVariants.{Behind}
use Rattle.plan.specs.Layouts.{Layout}
use Rattle.model.specs.Histories.{Lengths, len_at}
use Rattle.model.specs.Places.{sources, source_at}
use Rattle.protocol.specs.Worlds.{Caller, Fence}
use Rattle.protocol.specs.Edges.{pairs}
use Rattle.protocol.specs.Events.{Reply, delivered, fenced, refused}
use Rattle.protocol.specs.WorldSteps.{greater, raised}

-- a session as the protocol has it, and for each base shard one more than the place of its last entry there
pub record Session : Type 0 where
  pub is : Caller
  pub own : List ℕ

-- the session afterwards, and the reply
pub record Told : Type 0 where
  pub is : Caller
  pub reply : Reply

-- for stage shard s the cut holds so many entries of source j
abbrev pub holds : Layout → List ℕ → Lengths → ℕ → ℕ → Bool
holds p own cut s j = nat_le (slice_index_or own (source_at p j) 0) (len_at cut s j)

-- it holds those of all sources
abbrev pub holds_line : Layout → List ℕ → Lengths → ℕ → Bool
holds_line p own cut s = list_all (λ j. holds p own cut s j) (range_with_len 0 (length (sources p)))

-- the greater of two cuts at stage shard s, length by length
abbrev pub greatest_line : Layout → Lengths → Lengths → ℕ → List ℕ
greatest_line p c d s = map (λ j. greater (len_at c s j) (len_at d s j)) (range_with_len 0 (length (sources p)))

-- the cut holds each entry of the session in a source
abbrev pub covers : Layout → List ℕ → Lengths → Bool
covers p own cut = list_all (λ b. b) (pairs (holds p own cut) p.stages (length (sources p)))

-- a view shard has acknowledged with such a cut
abbrev pub is_covered : Layout → List ℕ → Option Lengths → Bool
is_covered p own None = false
is_covered p own (Some cut) = covers p own cut

-- the fence is over: it has ended, or a cut lacks an entry of the session, and then the floors stay
abbrev pub over : Layout → ℕ → Session → List (Option Lengths) → Told
over p se s acks =
    cond (list_all (is_covered p s.own) acks)
    (record { is = record s.is { floors = raised p s.is.floors acks; fence = None }; reply = fenced se })
    (record { is = record s.is { fence = None }; reply = refused Behind })

-- these view shards have acknowledged: the last acknowledgement ends the fence
abbrev pub told : Layout → ℕ → Session → ℕ → List (Option Lengths) → Told
told p se s number acks =
    cond (list_all is_some acks)
    (over p se s acks)
    (record { is = record s.is { fence = Some (record { number = number; acks = acks }) }; reply = delivered })

-- view shard r acknowledges the fence of this number: one that is not open is past
abbrev pub acknowledged : Layout → ℕ → Session → Option Fence → ℕ → ℕ → Lengths → Told
acknowledged p se s None number r cut = record { is = s.is; reply = delivered }
acknowledged p se s (Some f) number r cut = cond (f.number == number) (told p se s number (slice_set f.acks r (Some cut))) (record { is = s.is; reply = delivered })
