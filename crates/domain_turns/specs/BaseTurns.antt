-- What becomes of one message to a base shard.
use Rattle.std.specs.Prelude.{◌≡◌, Option}
use Rattle.row.specs.declared.refused.Refused.{Refused}
use Rattle.plan.specs.Layouts.{Layout}
use Rattle.model.specs.Fronts.{LogView}
use Rattle.book.specs.Fronts.{FrontView, authors, entries}
use Rattle.packet.specs.Answers.{AnswerView}
use Rattle.packet.specs.Outboxes.{OutboxView}
use Rattle.protocol.specs.Bases.{ToBase, Done}
use Rattle.protocol.specs.BaseSteps.{step}
use Rattle.base_domain.specs.Domains.{Domain}
use Rattle.base_domain.specs.Received.{Fails, Goes, base_at}
use Rattle.routes.specs.Mails.{BaseMailView}

-- what a front of a book of this plan says of its log
abbrev pub log_in : Layout → FrontView → LogView
log_in p f = record { plan = p; base = f.base; entries = entries f }

-- what is put out, with the reply that is taken out of it
abbrev pub with_reply : Option (AnswerView FrontView) → OutboxView FrontView → OutboxView FrontView
with_reply reply out = record out { reply = reply }

-- what the protocol's step makes of the message
abbrev pub done_by : Layout → ToBase → Domain FrontView → Done
done_by p m d = step (base_at (log_in p) authors d) m

-- all went as the protocol says; or a write was refused for memory, and nothing changed
abbrev pub IsTaken : Layout → ToBase → Domain FrontView → OutboxView FrontView → Domain FrontView → Type 0
IsTaken p m old out new = Goes (log_in p) authors m old (done_by p m old) out new

-- its log was seen to go on without it; or memory was refused for the packet of a request or a marker. It has stopped
abbrev pub IsUntaken : Layout → ToBase → Domain FrontView → Refused → OutboxView FrontView → Domain FrontView → Type 0
IsUntaken p m old e out new = Fails (log_in p) authors m old (done_by p m old) e out new

-- the message was for the base shard, and all went as the protocol says
pub record Went (p : Layout) (x : BaseMailView) (old new : Domain FrontView) : Type 0 where
  pub own : x.base ≡ old.front.base
  pub out : OutboxView FrontView
  pub taken : IsTaken p x.message old out new
