-- All domains and edges before the first event.
use Rattle.std.specs.Prelude.{◌≡◌, ℕ, false, List, [], map, replicate}
use Rattle.plan.specs.Layouts.{Layout}
use Rattle.model.specs.Fronts.{LogView}
use Rattle.model.specs.Histories.{Author}
use Rattle.model.specs.Legal.{most_sessions}
use Rattle.model.specs.Places.{base_count}
use Rattle.packet.specs.Lines.{empty_line, empty_log}
use Rattle.packet.specs.Readers.{readers}
use Rattle.protocol.specs.Worlds.{first_caller}
use Rattle.base_domain.specs.Domains.{Domain as BaseDomain}
use Rattle.schedule.specs.Sessions.{Session}
use Rattle.stage_domain.specs.Domains.{Domain as StageDomain, IsNew as IsNewStage}
use Rattle.view_domain.specs.Domains.{Domain as ViewDomain, new_view}
use Rattle.machine.specs.Held.{Are}

-- all stage shards, which know nothing yet
abbrev pub AreNewStages : Layout → List StageDomain → Type 0
AreNewStages p stages = Are (λ s d. IsNewStage p s (empty_line p) d) p.stages stages

-- all view shards
abbrev pub new_views : Layout → List ViewDomain
new_views p = map (new_view p) (readers p)

-- a session that has not called
abbrev pub new_session : Layout → Session
new_session p = record { is = first_caller p; own = replicate (base_count p) 0 }

-- all sessions
abbrev pub new_sessions : Layout → List Session
new_sessions p = replicate most_sessions (new_session p)

module _ {F : Type 0} (log : F → LogView) (authors : F → List Author) where
  -- the front is of the empty log of base shard b
  pub record IsFirst (p : Layout) (b : ℕ) (front : F) : Type 0 where
    pub of : log front ≡ empty_log p b
    pub unsaid : authors front ≡ []

  -- the rights to append to the empty logs of all base shards, in order
  abbrev pub AreFirst : {R : Type 0} → (R → F) → Layout → List R → Type 0
  AreFirst front p rights = Are (λ b r. IsFirst p b (front r)) (base_count p) rights

  -- base shard b at its empty log, which runs, and to which no session has written
  pub record IsNewBase (p : Layout) (b : ℕ) (d : BaseDomain F) : Type 0 where
    pub first : IsFirst p b d.front
    pub next : d.next ≡ replicate most_sessions 0
    pub runs : d.stopped ≡ false
