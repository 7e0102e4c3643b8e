-- A base shard as its front tells of it, and the program's messages as data.
use Rattle.std.specs.Prelude.{ℕ, List, Option}
use Rattle.row.specs.declared.refused.Refused.{Refused}
use Rattle.model.specs.Entries.{change_of}
use Rattle.model.specs.Histories.{Author}
use Rattle.model.specs.Fronts.{LogView}
use Rattle.packet.specs.Answers.{AnswerView}
use Rattle.packet.specs.Codes.{mark_of}
use Rattle.protocol.specs.Bases.{Base, ToBase, write, request, marker}
use Rattle.base_domain.specs.declared.message.Write.{Write}
use Rattle.base_domain.specs.declared.message.ToBase.{ToBase as Code}
use Rattle.base_domain.specs.declared.message.ToBase.TheVariants as code

-- the base shard whose front says this
abbrev pub base_of : LogView → List Author → Base
base_of l authors = record { plan = l.plan; base = l.base; entries = l.entries; authors = authors }

-- a message
abbrev pub message_of : Code → ToBase
message_of (code.Write w) = write w.session w.number (change_of w.entry)
message_of (code.Request stage ask) = request stage ask
message_of (code.Marker m) = marker (mark_of m)

-- the message of a write, and an answer to it
abbrev pub write_of : Write → ToBase
write_of w = write w.session w.number (change_of w.entry)

abbrev pub answer_of : {F : Type 0} → Write → Option Refused → ℕ → Option F → AnswerView F
answer_of w refused index front = record { session = w.session; number = w.number; entry = change_of w.entry; refused = refused; index = index; front = front }
