-- What a stage shard tells is true.
use Rattle.std.proofs.Common.{ℕ, List, [], None, refl}
use Rattle.row.specs.Cells.{Datum, Cells}
use Rattle.row.specs.Changes.{Turns}
use Rattle.plan.specs.Layouts.{Layout}
use Rattle.model.specs.Queries.{Line, part}
use Rattle.packet.specs.Keys.{Ascends}
use Rattle.packet.specs.Readers.{Reader}
use Rattle.packet.specs.Truth.{IsLine, IsTrueStage}
use Rattle.protocol.proofs.Runs.{line_self}
use Rattle.stage_steps.specs.Told.{answer_of, evicts_at, told}

pub turns_none : (xs : List Cells) → Turns xs [] xs
turns_none xs = record { each = λ z. refl }

-- keys that go
pub still_true : (p : Layout) (s : ℕ) (line : Line) (names : List (List Datum)) → IsLine p line → (r : Reader) → Ascends (evicts_at p names r) → IsTrueStage (told p s line line [] names None r)
still_true p s line names is r order = record {
  grows = line_self line;
  line = is;
  order = order;
  turns = λ k of none. turns_none (part p s line r.view _);
  told = tt;
  piece = tt;
  alone = tt;
  marker = tt;
}

-- the answer to a request
pub answer_true : (p : Layout) (s : ℕ) (line : Line) (tag i j : ℕ) (k : Datum) → IsLine p line → IsTrueStage (answer_of p s line tag i j k)
answer_true p s line tag i j k is = record {
  grows = line_self line;
  line = is;
  order = tt;
  turns = λ k of none. turns_none (part p s line i _);
  told = tt;
  piece = refl;
  alone = record { line = refl; changes = refl; evicts = refl };
  marker = tt;
}
