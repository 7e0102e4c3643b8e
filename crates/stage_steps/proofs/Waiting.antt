-- A request behind which no stage key is a hole.
use Rattle.std.proofs.Common.{◌≡◌, true, false, not, List, [], ◌∷◌, ◌++◌, Option, Some, None, refl, ap, sym, ◌∙◌, true≢false}
use Rattle.std.specs.List.{list_all}
use Rattle.row.specs.Cells.{Datum}
use Rattle.partial.specs.States.{Hole, Waiting, Filled, is_filled, is_hole}
use Rattle.packet.specs.Keys.{Keys, Stand}
use Rattle.packet.specs.Messages.{Ask}
use Rattle.packet.specs.Readers.{view_of}
use Rattle.protocol.specs.Stages.{Done, Stage, behind, knows}
use Rattle.protocol.specs.StageSteps.{asks, look}
use Rattle.right_rows.specs.Rights.{keys_in}
use Rattle.stage_sides.specs.Sides.{is_open}
use Rattle.stage_steps.specs.Outboxes.{AreEdges, OutboxView}
use Rattle.stage_steps.specs.Shards.{IsPut, Shard, given, stage_of}
use Rattle.stage_steps.proofs.Begins.{both_hold, none_asked}
use Rattle.stage_steps.proofs.Gives.{put_answer, put_later}
use Rattle.stage_steps.proofs.Looked.{put_look}
use Rattle.stage_steps.proofs.Puts.{after, put_quiet}

-- ---- what is here is no hole
filled_shut : (st : Stand) → is_filled st ≡ true → not (is_hole st) ≡ true
filled_shut Hole e = absurd (true≢false (sym e))
filled_shut (Waiting pieces) e = refl
filled_shut (Filled rows) e = refl

known_shut : (o : Option Keys) (x : Datum) → knows o x ≡ true → not (is_open x o) ≡ true
known_shut None x e = refl
known_shut (Some keys) x e = filled_shut (keys.at x) e

pub all_shut : (o : Option Keys) (xs : List Datum) → list_all (knows o) xs ≡ true → list_all (λ x. not (is_open x o)) xs ≡ true
all_shut o [] e = refl
all_shut o (x ∷ xs) e = let each = both_hold (knows o x) (list_all (knows o) xs) e in rw (known_shut o x each.0, all_shut o xs each.1) refl

module _ (x : Shard) (a : Ask) (d : Done) (out : OutboxView) (needed : List Datum) (put : IsPut d out x) (edges : AreEdges x.plan out) (is : needed ≡ behind (stage_of x) (view_of a.tag) a.key) (shut : list_all (λ k. not (is_open k (keys_in x.rows.right))) needed ≡ true) where
  -- nobody is asked
  pub put_unasked : IsPut (after d (asks d.stage needed)) out x
  put_unasked = put_quiet d (asks d.stage needed) out x x put edges refl refl (ap (λ (s : Stage). asks s needed) (sym put.stage) ∙ none_asked (stage_of x) needed shut)

  -- it waits on
  pub put_waits : (pending : List Ask) → list_all (knows (keys_in x.rows.right)) needed ≡ false → pending ≡ x.pending ++ a ∷ [] → IsPut (after d (look d.stage a)) out (record x { pending = pending })
  put_waits pending lacks more = put_look x a d out (record x { pending = pending }) out needed put is (put_later x a pending (after d (asks d.stage needed)) out needed put_unasked edges lacks more)

  -- it is answered
  pub put_known : (new : OutboxView) → list_all (knows (keys_in x.rows.right)) needed ≡ true → IsPut (after (after d (asks d.stage needed)) (given (asks d.stage needed).stage a)) new x → IsPut (after d (look d.stage a)) new x
  put_known new known told = put_look x a d new x out needed put is (put_answer x a (after d (asks d.stage needed)) out new needed put_unasked known told)
