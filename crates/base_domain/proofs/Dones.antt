-- Messages that leave the base shard as it was.
use Rattle.std.proofs.Common.{◌≡◌, ℕ, false, List, length, Option, None, refl, ap, sym, ◌∙◌}
use Rattle.std.specs.Option.{option_map}
use Rattle.plan.specs.Layouts.{Layout, SideLayout}
use Rattle.model.specs.Histories.{Author}
use Rattle.model.specs.Fronts.{LogView}
use Rattle.model.specs.Places.{table_of}
use Rattle.packet.specs.Messages.{BasePacketView, none_of}
use Rattle.packet.specs.Readers.{side_in, side_of}
use Rattle.packet.specs.Outboxes.{EdgeView, OutboxView, packets_on}
use Rattle.protocol.specs.Bases.{ToBase}
use Rattle.protocol.specs.BaseSteps.{to_stages}
use Rattle.base_domain.specs.Domains.{Domain}
use Rattle.base_domain.proofs.Parts.{none_to}
use Rattle.base_domain.specs.Received.{IsDone, base_at, verdict_of}

-- the table is none of the stage
pub no_side : {S : Type 0} (v : S → SideLayout) (o : Option S) (p q : Layout) (t b : ℕ) → o ≡ None → option_map v o ≡ side_in q t → p ≡ q → t ≡ table_of q b → side_of p b ≡ None
no_side v o p q t b none is plan own = rw plan (ap (side_in q) (sym own) ∙ sym is ∙ ap (option_map v) none)

-- no packet for any stage shard
pub none_sent : (p : Layout) (edges : List (EdgeView BasePacketView)) (o : Option SideLayout) (f : SideLayout → ℕ → BasePacketView) → o ≡ None → length edges ≡ p.stages → packets_on edges ≡ none_of edges → packets_on edges ≡ to_stages p o f
none_sent p edges o f none n clear = rw none (none_to edges p.stages (packets_on edges) n clear)

-- nothing is answered, and nothing changes
pub silent_done : {F : Type 0} (log : F → LogView) (authors : F → List Author) (m : ToBase) (d : Domain F) (out : OutboxView F) (sent : List (List BasePacketView)) → out.reply ≡ None → packets_on out.edges ≡ sent → d.stopped ≡ false
    → IsDone log authors m d (record { base = base_at log authors d; reply = None; sent = sent }) out d
silent_done log authors m d out sent none is run = record {
  base = refl;
  reply = ap verdict_of none;
  sent = is;
  to = λ x e. absurd cc;
  shown = λ x e. absurd cc;
  sessions = refl;
  running = run;
}
