-- What comes to a base shard, and replies.
use Rattle.std.specs.Prelude.{◌≡◌, ℕ, Some, None}
use Rattle.packet.specs.Answers.{AnswerView}
use Rattle.protocol.specs.Bases.{ToBase}

-- the base shard that it is for, and the message
pub record BaseMailView : Type 0 where
  pub base : ℕ
  pub message : ToBase

-- an accepted answer has a front
pub record HasFront {F : Type 0} (a : AnswerView F) : Type 0 where
  pub shown : a.refused ≡ None → (f : F) × (a.front ≡ Some f)
