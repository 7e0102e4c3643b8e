-- Deliveries, and rounds of them.
use Rattle.std.proofs.Common.{◌≡◌, ℕ, zero, suc, Bool, true, false, cond, List, [], ◌∷◌, ◌++◌, flat_map, refl, ap, sym, ◌∙◌, subst, append-nil, append_assoc}
use Rattle.std.proofs.lemmas.List.Concat.{flat_map-append}
use Rattle.plan.specs.Layouts.{Layout}
use Rattle.model.specs.Histories as item
use Rattle.model.specs.Places.{sources}
use Rattle.model.specs.Histories.{Item, authors_of, author_in}
use Rattle.protocol.specs.Worlds.{World}
use Rattle.protocol.specs.Events.{Event}
use Rattle.protocol.specs.Theorem.{AreEnded, AreFences, own_places, own_from}
use Rattle.protocol.specs.WorldSteps.{Did, delivery, Round, round, rounds, ended_by, is_idle}
use Rattle.protocol.specs.Edges.{Wire, to_stage_from, to_view_from, to_stage_back, to_base_back, queue, wires}
use Rattle.protocol.proofs.Keeps.{Kept, Ends, base_comes, ask_comes, base_ask_comes}
use Rattle.protocol.proofs.Wired.{Good}
use Rattle.protocol.proofs.Fences.{stage_comes}

pub delivers : (w : World) (past : List Event) (h : List Item) (wire : Wire) → Good w past h → Ends w.plan past h (delivery w wire)
delivers w past h (to_stage_from j s) g = base_comes w past h j s (queue w.to_stage s j) refl g
delivers w past h (to_view_from s r) g = stage_comes w past h s r (queue w.to_view r s) refl g
delivers w past h (to_stage_back r s) g = ask_comes w past h r s (queue w.from_view s r) g
delivers w past h (to_base_back s j) g = base_ask_comes w past h s j (queue w.to_base j s) g

-- ---- several fences
-- fences write nothing
no_authors : (p : Layout) (h : List Item) (ses : List ℕ) (is : List Item) → AreFences p h ses is → (b : ℕ) → authors_of b is ≡ []
no_authors p h [] is f b = ap (authors_of b) f
no_authors p h (se ∷ ses) is f b = ap (authors_of b) f.2 ∙ no_authors p h ses f.1 f.3 b

own_all : (se : ℕ) (g h : List Item) → ((b : ℕ) → authors_of b g ≡ authors_of b h) → (xs : List ℕ) → flat_map (λ b. own_from se b 0 (authors_of b g)) xs ≡ flat_map (λ b. own_from se b 0 (authors_of b h)) xs
own_all se g h e [] = refl
own_all se g h e (b ∷ xs) = ap (λ l. own_from se b 0 l ++ flat_map (λ b. own_from se b 0 (authors_of b g)) xs) (e b) ∙ ap (λ l. own_from se b 0 (authors_of b h) ++ l) (own_all se g h e xs)

own_same : (p : Layout) (h : List Item) (ses : List ℕ) (is : List Item) → AreFences p h ses is → (se : ℕ) → own_places p (h ++ is) se ≡ own_places p h se
own_same p h ses is f se = own_all se (h ++ is) h (λ b. flat_map-append (author_in b) h is ∙ (ap (λ l. authors_of b h ++ l) (no_authors p h ses is f b) ∙ append-nil (authors_of b h))) (sources p)

fences_to : (p : Layout) (g h : List Item) → ((se : ℕ) → own_places p g se ≡ own_places p h se) → (ses : List ℕ) (is : List Item) → AreFences p g ses is → AreFences p h ses is
fences_to p g h e [] is f = f
fences_to p g h e (se ∷ ses) is f = (f.0, f.1, f.2 ∙ ap (λ own. item.fence se own f.0 ∷ f.1) (e se), fences_to p g h e ses f.1 f.3)

fences_append : (p : Layout) (h : List Item) (as_ bs : List ℕ) (is js : List Item) → AreFences p h as_ is → AreFences p h bs js → AreFences p h (as_ ++ bs) (is ++ js)
fences_append p h [] bs is js f g = subst (λ l. AreFences p h bs (l ++ js)) (sym f) g
fences_append p h (se ∷ as_) bs is js f g = (f.0, f.1 ++ js, ap (λ l. l ++ js) f.2, fences_append p h as_ bs f.1 js f.3 g)

-- ---- rounds
record Goes (p : Layout) (past : List Event) (h : List Item) (r : Round) : Type 0 where
  is : List Item
  kept : Kept p past (h ++ is) r.world
  fences : AreFences p h r.ended is

goes_on : (p : Layout) (past : List Event) (h : List Item) (r : Round) (wire : Wire) (moved : Bool) → Goes p past h r
    → Goes p past h (record { world = (delivery r.world wire).world; ended = r.ended ++ ended_by (delivery r.world wire).reply; moved = moved })
goes_on p past h r wire moved g =
    let d = subst (λ q. Ends q past (h ++ g.is) (delivery r.world wire)) g.kept.plan (delivers r.world past (h ++ g.is) wire g.kept.good) in
    record {
      is = g.is ++ d.is;
      kept = subst (λ l. Kept p past l (delivery r.world wire).world) (append_assoc h g.is d.is) d.kept;
      fences = fences_append p h r.ended (ended_by (delivery r.world wire).reply) g.is d.is g.fences
          (fences_to p (h ++ g.is) h (own_same p h r.ended g.is g.fences) (ended_by (delivery r.world wire).reply) d.is d.fences);
    }

goes_round : (p : Layout) (past : List Event) (h : List Item) (ws : List Wire) (r : Round) → Goes p past h r → Goes p past h (round r ws)
goes_round p past h [] r g = g
goes_round p past h (wire ∷ rest) r g =
    goes_round p past h rest _ (goes_on p past h r wire (cond (is_idle (delivery r.world wire).reply) r.moved true) g)

pub record Settles (p : Layout) (past : List Event) (h : List Item) (d : Did) : Type 0 where
  pub is : List Item
  pub kept : Kept p past (h ++ is) d.world
  pub ended : AreEnded p h d.reply is

goes_rounds : (p : Layout) (past : List Event) (h : List Item) (n : ℕ) (w : World) (ended : List ℕ) (is : List Item) → Kept p past (h ++ is) w → AreFences p h ended is → Settles p past h (rounds n w ended)
goes_rounds p past h zero w ended is k f = record { is = is; kept = k; ended = f }
goes_rounds p past h (suc n) w ended is k f =
    let r = round (record { world = w; ended = ended; moved = false }) (wires w.plan) in
    let g = goes_round p past h (wires w.plan) (record { world = w; ended = ended; moved = false }) (record { is = is; kept = k; fences = f }) in
    by r.moved (goes_rounds p past h n r.world r.ended g.is g.kept g.fences) (record { is = g.is; kept = g.kept; ended = g.fences })
  where
    by : (b : Bool) → {d e : Did} → Settles p past h d → Settles p past h e → Settles p past h (cond b d e)
    by true x y = x
    by false x y = y

pub settles : (w : World) (past : List Event) (h : List Item) (n : ℕ) → Good w past h → Settles w.plan past h (rounds n w [])
settles w past h n g = goes_rounds w.plan past h n w [] [] (subst (λ l. Kept w.plan past l w) (sym (append-nil h)) (record { plan = refl; good = g })) refl
