-- A view shard of stories by author, message by message.
use Rattle.std.proofs.Common.{◌≡◌, ℕ, List, [], ◌∷◌, refl, Option, Some, None}
use Rattle.row.specs.Cells.{Datum}
use Rattle.plan.specs.Layouts.{Layout}
use Rattle.plan.specs.Recipes.{view}
use Rattle.plan.proofs.SamplePlans.{votes_small}
use Rattle.model.specs.Logs.{inserts}
use Rattle.model.specs.Queries.{Line}
use Rattle.model.proofs.Samples.{n}
use Rattle.partial.specs.States.{Hole, Waiting, Filled}
use Rattle.packet.specs.Messages.{Ask, Mark}
use Rattle.packet.specs.Keys.{Stand, no_keys}
use Rattle.protocol.specs.Bases.{last_number}
use Rattle.protocol.specs.Views.{View, ToView, packet, want, order, Done}
use Rattle.protocol.specs.ViewSteps.{step, counted}
use Rattle.std.proofs.Common.{codes, map}
use Rattle.std.specs.Prelude.{⊤}

abbrev pub line : Line
line = [] ∷ [] ∷ []

-- a packet that moves no front
abbrev pub evicts : ℕ → List Datum → ToView
evicts s ks = packet s (record { from = line; to = line; evicts = ks; piece = None; marker = None })

abbrev pub gives : ℕ → ℕ → ToView
gives s k = packet s (record { from = line; to = line; evicts = []; piece = Some (n k); marker = None })

abbrev pub mark : ℕ → Mark
mark m = record { session = 0; number = m }

abbrev pub marks : ℕ → ℕ → ToView
marks s m = packet s (record { from = line; to = line; evicts = []; piece = None; marker = Some (mark m) })

abbrev pub fresh : Layout → View
fresh p = record { plan = p; view = 0; shard = 0; cut = line ∷ line ∷ []; keys = no_keys; asked = 0; marks = [] }

abbrev pub runs : View → List ToView → List Done
runs v [] = []
runs v (m ∷ ms) = let d = step v m in d ∷ runs d.view ms

abbrev pub ask : ℕ → Ask
ask k = record { tag = 1; key = n k }

-- the requests of each message, how key 7 stands after it, and how many requests there have been
abbrev pub requests : List Done → List (List (List Ask))
requests ds = map (λ (d : Done). d.requests) ds

abbrev pub stands : List Done → List Stand
stands ds = map (λ (d : Done). d.view.keys.at (n 7)) ds

abbrev pub counts : List Done → List ℕ
counts ds = map (λ (d : Done). d.view.asked) ds

abbrev pub nobody : List (List Ask)
nobody = [] ∷ [] ∷ []

-- a key that waits, with the piece of neither, of the first, of the second
abbrev pub waits : Option ⊤ → Option ⊤ → Stand
waits a b = Waiting (a ∷ b ∷ [])

-- ---- wants
-- a hole is asked for at every stage shard, once
abbrev pub gathered : List Done
gathered = runs (fresh votes_small) (want (n 7) ∷ want (n 7) ∷ gives 1 7 ∷ gives 0 7 ∷ want (n 7) ∷ [])

pub asks_each_once : requests gathered ≡ ((ask 7 ∷ []) ∷ (ask 7 ∷ []) ∷ []) ∷ nobody ∷ nobody ∷ nobody ∷ nobody ∷ []
asks_each_once = refl

pub filled_by_both : stands gathered ≡ waits None None ∷ waits None None ∷ waits None (Some tt) ∷ Filled tt ∷ Filled tt ∷ []
filled_by_both = refl

pub counts_two : counts gathered ≡ 2 ∷ 2 ∷ 2 ∷ 2 ∷ 2 ∷ []
counts_two = refl

-- a piece for a key that does not wait, or whose piece is here, changes nothing
pub piece_too_many : stands (runs (fresh votes_small) (gives 0 7 ∷ want (n 7) ∷ gives 0 7 ∷ gives 0 7 ∷ gives 1 7 ∷ gives 1 7 ∷ [])) ≡ Hole ∷ waits None None ∷ waits (Some tt) None ∷ waits (Some tt) None ∷ Filled tt ∷ Filled tt ∷ []
piece_too_many = refl

-- ---- evictions
-- of a gather the sender's piece goes, and the sender is asked again; without its piece nothing happens
abbrev pub evicted_gather : List Done
evicted_gather = runs (fresh votes_small) (want (n 7) ∷ gives 0 7 ∷ evicts 1 (n 7 ∷ []) ∷ evicts 0 (n 7 ∷ []) ∷ evicts 0 (n 7 ∷ []) ∷ [])

pub asks_sender_again : requests evicted_gather ≡ ((ask 7 ∷ []) ∷ (ask 7 ∷ []) ∷ []) ∷ nobody ∷ nobody ∷ ((ask 7 ∷ []) ∷ [] ∷ []) ∷ nobody ∷ []
asks_sender_again = refl

pub piece_goes : stands evicted_gather ≡ waits None None ∷ waits (Some tt) None ∷ waits (Some tt) None ∷ waits None None ∷ waits None None ∷ []
piece_goes = refl

pub counts_three : counts evicted_gather ≡ 2 ∷ 2 ∷ 2 ∷ 3 ∷ 3 ∷ []
counts_three = refl

-- a filled key becomes a hole, and nobody is asked
pub filled_goes : stands (runs (fresh votes_small) (want (n 7) ∷ gives 0 7 ∷ gives 1 7 ∷ evicts 0 (n 7 ∷ []) ∷ [])) ≡ waits None None ∷ waits (Some tt) None ∷ Filled tt ∷ Hole ∷ []
filled_goes = refl

pub nobody_asked : requests (runs (fresh votes_small) (want (n 7) ∷ gives 0 7 ∷ gives 1 7 ∷ evicts 0 (n 7 ∷ []) ∷ [])) ≡ ((ask 7 ∷ []) ∷ (ask 7 ∷ []) ∷ []) ∷ nobody ∷ nobody ∷ nobody ∷ []
nobody_asked = refl

-- several that are asked again: in the order of the packet, which is that of values
pub again_in_order : requests (runs (fresh votes_small) (want (n 9) ∷ want (n 7) ∷ gives 0 9 ∷ gives 0 7 ∷ evicts 0 (n 7 ∷ n 8 ∷ n 9 ∷ []) ∷ []))
    ≡ ((ask 9 ∷ []) ∷ (ask 9 ∷ []) ∷ []) ∷ ((ask 7 ∷ []) ∷ (ask 7 ∷ []) ∷ []) ∷ nobody ∷ nobody ∷ ((ask 7 ∷ ask 9 ∷ []) ∷ [] ∷ []) ∷ []
again_in_order = refl

-- ---- orders and the cap
-- at a hole, at a key that waits, at a filled key
pub orders : stands (runs (fresh votes_small) (order (n 7) ∷ want (n 7) ∷ gives 0 7 ∷ order (n 7) ∷ gives 1 7 ∷ order (n 7) ∷ [])) ≡ Hole ∷ waits None None ∷ waits (Some tt) None ∷ waits (Some tt) None ∷ Filled tt ∷ Hole ∷ []
orders = refl

-- the key that was filled first goes, though it was wanted last
abbrev pub one_key : Layout
one_key = record votes_small { views = view (codes "by_author") 1 1 1 ∷ [] }

pub first_filled_goes : map (λ (d : Done). d.view.keys.order) (runs (fresh one_key) (want (n 8) ∷ want (n 7) ∷ gives 0 8 ∷ gives 0 7 ∷ gives 1 7 ∷ gives 1 8 ∷ [])) ≡ [] ∷ [] ∷ [] ∷ [] ∷ (n 7 ∷ []) ∷ (n 8 ∷ []) ∷ []
first_filled_goes = refl

-- the count stays at the greatest number
pub count_stays : counted last_number 1 ≡ last_number
count_stays = refl

-- ---- packets and markers
-- a packet moves its sender's line alone
abbrev pub further : Line
further = (inserts (n 1 ∷ n 7 ∷ []) ∷ []) ∷ [] ∷ []

pub moves_one_line : map (λ (d : Done). d.view.cut) (runs (fresh votes_small) (packet 1 (record { from = line; to = further; evicts = []; piece = None; marker = None }) ∷ [])) ≡ (line ∷ further ∷ []) ∷ []
moves_one_line = refl

-- a fence is acknowledged once its marker has come from every stage shard, each for itself
pub acknowledges : map (λ (d : Done). d.acks) (runs (fresh votes_small) (marks 0 4 ∷ marks 0 5 ∷ marks 1 5 ∷ marks 1 4 ∷ [])) ≡ [] ∷ [] ∷ (mark 5 ∷ []) ∷ (mark 4 ∷ []) ∷ []
acknowledges = refl
