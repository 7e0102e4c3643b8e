-- What a session asks of a view. No public clause cites this.
use Rattle.std.specs.Prelude.{◌≡◌, ℕ, ◌<◌, ◌≤◌, ◌⊎◌, List, length, Some, None, slice_get}
use Rattle.row.specs.Cells.{Datum}
use Rattle.row.specs.declared.refused.Refused.{Refused}
use Rattle.row.specs.declared.refused.Refused.TheVariants.{UnknownPlace}
use Rattle.plan.specs.Layouts.{view_named}
use Rattle.model.specs.Histories.{view_shard}
use Rattle.model.specs.Refusals.{read_refusal}
use Rattle.packet.specs.Readers.{readers}
use Rattle.protocol.specs.WorldSteps.{reader_of}
use Rattle.machine.specs.Held.{Held}

module _ {F : Type 0} (h : Held F) (se : ℕ) (name : List ℕ) (k : Datum) where
  -- there is the session, and view shard r of the view of this name, which is view i, has the key
  pub record IsSought (i r : ℕ) : Type 0 where
    pub session : se < length h.sessions
    pub named : view_named h.plan name ≡ Some i
    pub free : read_refusal h.plan (view_named h.plan name) k ≡ None
    pub place : r ≡ reader_of h.plan i k
    pub reader : slice_get (readers h.plan) r ≡ Some (record { view = i; shard = view_shard h.plan i k })

  -- there is no such session, or its arguments are refused so
  abbrev pub IsDenied : Refused → Type 0
  IsDenied e = ((length h.sessions ≤ se) × (e ≡ UnknownPlace)) ⊎ ((se < length h.sessions) × (read_refusal h.plan (view_named h.plan name) k ≡ Some e))
