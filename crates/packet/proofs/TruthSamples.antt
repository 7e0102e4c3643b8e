-- Packets that are true, and some that are not.
use Rattle.std.proofs.Common.{ℕ, List, [], ◌∷◌, refl, Option, Some, None, arith}
use Rattle.row.specs.Cells.{Cells}
use Rattle.row.specs.declared.record.Record.{Record}
use Rattle.row.specs.declared.record.Sign.TheVariants.{Plus}
use Rattle.plan.proofs.SamplePlans.{votes_small}
use Rattle.model.specs.Logs.{Change, inserts}
use Rattle.model.specs.Queries.{Line}
use Rattle.model.proofs.Samples.{n}
use Rattle.packet.specs.Messages.{Piece, Mark, KeyedRecord, BasePacketView, StagePacketView}
use Rattle.packet.specs.Truth.{IsTrueBase, IsTrueStage}

abbrev pub row : Cells
row = n 1 ∷ n 7 ∷ []

abbrev pub plus : Record
plus = record { row = row; sign = Plus }

abbrev pub entries : List Change
entries = inserts row ∷ []

abbrev pub mark : Mark
mark = record { session = 0; number = 0 }

-- ---- of a base shard: story 1 comes, and belongs to stage shard 1
abbrev pub of_story : ℕ → List Change → List Record → Option Piece → Option Mark → BasePacketView
of_story s from changes piece m = record { plan = votes_small; base = 0; stage = s; from = from; to = entries; changes = changes; piece = piece; marker = m }

pub told : IsTrueBase (of_story 1 [] (plus ∷ []) None None)
told = record { grows = (entries, refl); turns = record { each = λ z. omega arith }; piece = tt; alone = tt; marker = tt }

pub not_of_the_shard : IsTrueBase (of_story 0 [] (plus ∷ []) None None) → ⊥
not_of_the_shard t = absurd (cc (t.turns.each row))

pub not_left_out : IsTrueBase (of_story 1 [] [] None None) → ⊥
not_left_out t = absurd (cc (t.turns.each row))

pub whole_piece : IsTrueBase (of_story 1 entries [] (Some (record { tag = 16; key = n 7; rows = row ∷ [] })) None)
whole_piece = record { grows = ([], refl); turns = record { each = λ z. refl }; piece = refl; alone = record { front = refl; changes = refl }; marker = tt }

pub not_a_part_of_it : IsTrueBase (of_story 1 entries [] (Some (record { tag = 16; key = n 7; rows = [] })) None) → ⊥
not_a_part_of_it t = absurd (cc (t.piece))

-- a marker moves no front
pub not_with_a_marker : IsTrueBase (of_story 1 [] (plus ∷ []) None (Some mark)) → ⊥
not_with_a_marker t = absurd (cc (t.marker.front))

-- ---- of a stage shard: author 7 is evicted, as the votes are not here
abbrev pub line : List Change → Line
line front = front ∷ [] ∷ []

abbrev pub evicting : List KeyedRecord → StagePacketView
evicting changes = record { plan = votes_small; stage = 1; view = 0; shard = 0; from = line []; to = line entries; changes = changes; evicts = n 7 ∷ []; piece = None; marker = None }

-- it has no record of a key that it evicts
pub not_evicted_too : IsTrueStage (evicting (record { key = n 7; change = plus } ∷ [])) → ⊥
not_evicted_too t = absurd (cc (t.told.0.kept))

-- nor of a key of another shard
pub not_of_a_shard : IsTrueStage (record (evicting (record { key = n 8; change = plus } ∷ [])) { shard = 1 }) → ⊥
not_of_a_shard t = absurd (cc (t.told.0.shard))

-- a piece comes alone
pub not_with_a_piece : IsTrueStage (record (evicting []) { piece = Some (record { tag = 1; key = n 7; rows = [] }) }) → ⊥
not_with_a_piece t = absurd (cc (t.alone.evicts))

-- the keys that it evicts are in order
pub not_out_of_order : IsTrueStage (record (evicting []) { evicts = n 8 ∷ n 7 ∷ [] }) → ⊥
not_out_of_order t = absurd (cc (t.order.0.0))
