-- What a view shard acknowledges, as the session has it.
use Rattle.std.proofs.Common.{Bool, true, false, cond, ◌==◌, ◌&&◌, nat_le, ◌≡◌, ℕ, zero, suc, ◌<◌, ◌≤◌, List, [], ◌∷◌, ◌++◌, ◌+◌, take, map, flat_map, length, Option, Some, None, is_some, slice_get, slice_set, slice_index_or, refl, ap, sym, ◌∙◌, subst, arith}
use Rattle.std.specs.List.{list_all, range_with_len}
use Rattle.model.specs.Fronts.{LogView}
use Rattle.model.specs.Histories.{Author, Lengths, len_at}
use Rattle.model.specs.Legal.{most_sessions}
use Rattle.model.specs.Places.{sources, source_at}
use Rattle.packet.specs.Lines.{entries_of, lengths_of as lengths_in}
use Rattle.std.proofs.lemmas.List.{map_more, take_all}
use Rattle.view_domain.specs.Domains.{lines_of}
use Rattle.protocol.specs.Edges.{pairs}
use Rattle.row.specs.declared.refused.Refused.TheVariants.{Behind}
use Rattle.protocol.specs.Events.{Reply, delivered, fenced, refused}
use Rattle.protocol.specs.Bases.{Base}
use Rattle.protocol.specs.Worlds.{Node, World, Caller, Fence}
use Rattle.protocol.specs.WorldSteps.{Did, says, with_caller, ack_of, ack_from, fence_told, fence_over, lengths_of, is_covered, covers, holds_own, own_in, raised}
use Rattle.protocol.proofs.Lists.{map_set, map_get, set_same}
use Rattle.schedule.specs.Sessions as session
use Rattle.schedule.specs.Sessions.{Session, Told}
use Rattle.machine.specs.Held.{Held, IsPlaced, IsDone, KnowsOwn, world_of, base_node}
use Rattle.machine.proofs.Steps.{set_are, remade}

map_is : {X Y : Type 0} (f g : X → Y) → ((x : X) → f x ≡ g x) → (xs : List X) → map f xs ≡ map g xs
map_is f g h [] = refl
map_is f g h (x ∷ xs) = ap (λ y. y ∷ map f xs) (h x) ∙ ap (λ ys. g x ∷ ys) (map_is f g h xs)

flat_is : {X Y : Type 0} (f g : X → List Y) → ((x : X) → f x ≡ g x) → (xs : List X) → flat_map f xs ≡ flat_map g xs
flat_is f g h [] = refl
flat_is f g h (x ∷ xs) = ap (λ y. y ++ flat_map f xs) (h x) ∙ ap (λ ys. g x ++ ys) (flat_is f g h xs)

pairs_are : {X : Type 0} (f g : ℕ → ℕ → X) → ((x y : ℕ) → f x y ≡ g x y) → (n m : ℕ) → pairs f n m ≡ pairs g n m
pairs_are f g h n m = flat_is (λ x. map (f x) (range_with_len 0 m)) (λ x. map (g x) (range_with_len 0 m)) (λ x. map_is (f x) (g x) (h x) (range_with_len 0 m)) (range_with_len 0 n)

all_is : {X : Type 0} (f g : X → Bool) → ((x : X) → f x ≡ g x) → (xs : List X) → list_all f xs ≡ list_all g xs
all_is f g h [] = refl
all_is f g h (x ∷ xs) = ap (λ b. both b (list_all f xs)) (h x) ∙ ap (λ b. both (g x) b) (all_is f g h xs)
  where
    both : Bool → Bool → Bool
    both a b = a && b

pub past_end : {X Y : Type 0} (f : X → Y) (xs : List X) (i : ℕ) → length xs ≤ i → slice_get (map f xs) i ≡ None
past_end f [] i le = refl
past_end f (x ∷ xs) zero le = absurd (omega (arith, le))
past_end f (x ∷ xs) (suc i) le = past_end f xs i (omega (arith, le))

-- ---- the lengths of a cut, line by line
abbrev pub cut_is : List (List LogView) → Lengths
cut_is cut = map lengths_in cut

pub cut_more : (xs : List (List LogView)) (i : ℕ) (d line : List LogView) (ys zs : Lengths) (v : List ℕ) → i < length xs → ys ≡ cut_is (take i xs) → zs ≡ ys ++ v ∷ [] → v ≡ lengths_in line → line ≡ slice_index_or xs i d → zs ≡ cut_is (take (i + 1) xs)
cut_more xs i d line ys zs v lt before put is at =
    put ∙ (ap (λ x. x ++ v ∷ []) before ∙ (ap (λ x. cut_is (take i xs) ++ x ∷ []) (is ∙ ap lengths_in at) ∙ sym (map_more lengths_in xs i d lt)))

pub cut_whole : (xs : List (List LogView)) (i : ℕ) → length xs ≤ i → cut_is (take i xs) ≡ lengths_of (lines_of xs)
cut_whole xs i le = ap cut_is (take_all i xs le) ∙ whole xs
  where
    line_is : (line : List LogView) → lengths_in line ≡ map length (entries_of line)
    line_is [] = refl
    line_is (l ∷ line) = ap (λ x. length l.entries ∷ x) (line_is line)

    whole : (xs : List (List LogView)) → cut_is xs ≡ lengths_of (lines_of xs)
    whole [] = refl
    whole (x ∷ xs) = ap (λ y. y ∷ cut_is xs) (line_is x) ∙ ap (λ ys. map length (entries_of x) ∷ ys) (whole xs)

module _ (w : World) (se : ℕ) (s : Session) (knows : (b : ℕ) → slice_index_or s.own b 0 ≡ own_in se (slice_get w.bases b)) where
  covers_is : (cut : Lengths) → session.covers w.plan s.own cut ≡ covers w se cut
  covers_is cut = ap (list_all (λ b. b)) (pairs_are (session.holds w.plan s.own cut) (holds_own w se cut) (λ i j. ap (λ n. nat_le n (len_at cut i j)) (knows (source_at w.plan j))) w.plan.stages (length (sources w.plan)))

  covered_is : (a : Option Lengths) → session.is_covered w.plan s.own a ≡ is_covered w se a
  covered_is None = refl
  covered_is (Some cut) = covers_is cut

  abbrev says_told : Told → Did
  says_told t = says (with_caller w se t.is) t.reply

  put_in : (b : Bool) (x y : Told) → says_told (cond b x y) ≡ cond b (says_told x) (says_told y)
  put_in true x y = refl
  put_in false x y = refl

  over_is : (acks : List (Option Lengths)) → says_told (session.over w.plan se s acks) ≡ fence_over w se s.is acks
  over_is acks =
      let ended : Told = record { is = record s.is { floors = raised w.plan s.is.floors acks; fence = None }; reply = fenced se } in
      let behind : Told = record { is = record s.is { fence = None }; reply = refused Behind } in
      put_in (list_all (session.is_covered w.plan s.own) acks) ended behind
      ∙ ap (λ b. cond b (says_told ended) (says_told behind)) (all_is (session.is_covered w.plan s.own) (is_covered w se) covered_is acks)

  told_is : (number : ℕ) (acks : List (Option Lengths)) → says_told (session.told w.plan se s number acks) ≡ fence_told w se s.is number acks
  told_is number acks = by (list_all is_some acks)
    where
      by : (b : Bool) → says_told (cond b (session.over w.plan se s acks) (record { is = record s.is { fence = Some (record { number = number; acks = acks }) }; reply = delivered }))
          ≡ cond b (fence_over w se s.is acks) (says (with_caller w se (record s.is { fence = Some (record { number = number; acks = acks }) })) delivered)
      by true = over_is acks
      by false = refl

  stays : slice_get w.callers se ≡ Some s.is → says_told (record { is = s.is; reply = delivered }) ≡ says w delivered
  stays at = ap (λ cs. says (record w { callers = cs }) delivered) (set_same w.callers se s.is at)

  ack_is : slice_get w.callers se ≡ Some s.is → (f : Option Fence) (number r : ℕ) (cut : Lengths) → says_told (session.acknowledged w.plan se s f number r cut) ≡ ack_of w se s.is f number r cut
  ack_is at None number r cut = stays at
  ack_is at (Some f) number r cut = by (f.number == number)
    where
      by : (b : Bool) → says_told (cond b (session.told w.plan se s number (slice_set f.acks r (Some cut))) (record { is = s.is; reply = delivered }))
          ≡ cond b (fence_told w se s.is number (slice_set f.acks r (Some cut))) (says w delivered)
      by true = told_is number (slice_set f.acks r (Some cut))
      by false = stays at

-- ---- a session has changed
pub knows_still : (nodes : List (Node Base)) (se : ℕ) (s t : Session) → t.own ≡ s.own → KnowsOwn nodes se s → KnowsOwn nodes se t
knows_still nodes se s t same k = record { size = ap length same ∙ k.size; each = λ b. ap (λ own. slice_index_or own b 0) same ∙ k.each b }

module _ {F : Type 0} (log : F → LogView) (authors : F → List Author) where
  abbrev pub with_session : Held F → ℕ → Session → Held F
  with_session h se s = record h { sessions = slice_set h.sessions se s }

  pub session_world : (h : Held F) (se : ℕ) (s : Session) → world_of log authors (with_session h se s) ≡ with_caller (world_of log authors h) se s.is
  session_world h se s = ap (λ cs. record (world_of log authors h) { callers = cs }) (map_set (λ (x : Session). x.is) h.sessions se s)

  pub session_placed : (h : Held F) (se : ℕ) (s : Session) → IsPlaced log authors h → KnowsOwn (map (base_node log authors) h.bases) se s → IsPlaced log authors (with_session h se s)
  session_placed h se s p knows =
      remade log authors h p h.stages p.stages h.views p.views h.to_stage p.to_stage h.to_view p.to_view h.from_view p.from_view (slice_set h.sessions se s)
      (set_are (KnowsOwn (map (base_node log authors) h.bases)) most_sessions h.sessions se s p.sessions knows)

  pub ack_done : (h : Held F) (se : ℕ) (s new : Session) (number r : ℕ) (cut : Lengths) (reply : Reply) → IsPlaced log authors h → slice_get h.sessions se ≡ Some s
      → new ≡ record s { is = (session.acknowledged h.plan se s s.is.fence number r cut).is } → reply ≡ (session.acknowledged h.plan se s s.is.fence number r cut).reply
      → IsDone log authors (ack_from (world_of log authors h) se (slice_get (world_of log authors h).callers se) number r cut) reply (with_session h se new)
  ack_done h se s new number r cut reply p at is says =
      let w = world_of log authors h in
      let knows = p.sessions.each se s at in
      let there = map_get (λ (x : Session). x.is) h.sessions se s at in
      let told = session.acknowledged h.plan se s s.is.fence number r cut in
      let d : ack_from w se (slice_get w.callers se) number r cut ≡ record { world = with_caller w se told.is; reply = told.reply }
      = ap (λ o. ack_from w se o number r cut) there ∙ sym (ack_is w se s knows.each there s.is.fence number r cut) in
      subst (λ d. IsDone log authors d reply (with_session h se new)) (sym d)
      (record {
        world = session_world h se new ∙ ap (λ (x : Session). with_caller w se x.is) is;
        reply = says;
        placed = session_placed h se new p (knows_still (map (base_node log authors) h.bases) se s new (ap (λ (x : Session). x.own) is) knows);
      })

  -- there is no such session
  pub stranger : (h : Held F) (se : ℕ) (f : Option Caller → Did) (reply : Reply) → f None ≡ says (world_of log authors h) reply → IsPlaced log authors h → length h.sessions ≤ se → IsDone log authors (f (slice_get (world_of log authors h).callers se)) reply h
  stranger h se f reply none p le =
      subst (λ o. IsDone log authors (f o) reply h) (sym (past_end (λ (x : Session). x.is) h.sessions se le))
      (subst (λ d. IsDone log authors d reply h) (sym none) (record { world = refl; reply = refl; placed = p }))
