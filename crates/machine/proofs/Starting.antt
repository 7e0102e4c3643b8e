-- The world before the first event is the empty one, and all is in its place.
use Rattle.std.proofs.Common.{Bool, true, not, ◌≡◌, ◌⊎◌, inl, inr, ℕ, zero, suc, ◌+◌, ◌<◌, ◌≤◌, List, [], ◌∷◌, ◌++◌, map, length, length-append, drop, replicate, Option, Some, None, slice_get, slice_index_or, take, refl, ap, sym, ◌∙◌, subst, arith}
use Rattle.std.specs.List.{range_with_len}
use Rattle.std.proofs.lemmas.List.{length-map, map-append, map_more, take_all}
use Rattle.std.proofs.lemmas.List.FromFn.{length-map-range_with_len}
use Rattle.row.specs.Bags.{Each}
use Rattle.plan.specs.Layouts.{Layout, SideLayout}
use Rattle.plan.specs.Profile.{IsPlan}
use Rattle.model.specs.Fronts.{LogView}
use Rattle.model.specs.Histories.{Author}
use Rattle.model.specs.Legal.{most_sessions}
use Rattle.model.specs.Places.{base_count, sources}
use Rattle.model.specs.Queries.{Line}
use Rattle.packet.specs.Lines.{empty_log, empty_line, entries_of}
use Rattle.packet.proofs.Copies.{map_replicate, replicate_size}
use Rattle.packet.specs.Messages.{Ask, BasePacketView, StagePacketView}
use Rattle.packet.specs.Readers.{Reader, readers}
use Rattle.packet.specs.declared.reader.Reader.{Reader as Code}
use Rattle.packet.specs.Truth.{sent_of}
use Rattle.packet.specs.declared.mode.Mode.TheVariants as mode
use Rattle.protocol.specs.Bases.{Base}
use Rattle.protocol.specs.Stages.{Stage}
use Rattle.protocol.specs.Views.{View}
use Rattle.protocol.specs.Worlds.{Node, start, first_base, first_right, first_stage, first_view, first_line, first_caller, no_queues}
use Rattle.protocol.specs.WorldSteps.{own_in}
use Rattle.protocol.proofs.Lists.{each_at, map_get}
use Rattle.protocol.proofs.Within.{sources_small, not_past}
use Rattle.base_domain.specs.Domains.{Domain as BaseDomain}
use Rattle.schedule.specs.Codes.{reader_in}
use Rattle.schedule.specs.Sessions.{Session}
use Rattle.stage_domain.specs.Domains.{Domain as StageDomain, IsNew as IsNewStage}
use Rattle.view_domain.specs.Domains.{Domain as ViewDomain, lines_of, new_view}
use Rattle.view_domain.proofs.Readers.{readers_there}
use Rattle.machine.specs.Held.{Held, Are, AreQueued, IsPlaced, IsWhole, IsBaseOf, IsStageOf, IsViewOf, KnowsOwn, world_of, base_node, runs, stage_node, view_node, sent_in}
use Rattle.machine.specs.Started.{AreFirst, AreNewStages, IsNewBase, new_views, new_session, new_sessions}
use Rattle.std.specs.Option.{option_map}
use Rattle.packet.specs.Keys.{Keys, no_keys}
use Rattle.machine.proofs.Meeting.{there_at}
use Rattle.stage_domain.proofs.Starts.{running_whole}
use Rattle.machine.proofs.Queued.{nothing_queued}

-- ---- lists that are made one by one
module _ {X : Type 0} where
  got_last : (xs : List X) (x : X) (i : ℕ) (y : X) → slice_get (xs ++ x ∷ []) i ≡ Some y → (slice_get xs i ≡ Some y) ⊎ ((i ≡ length xs) × (y ≡ x))
  got_last [] x zero y at = inr (refl, cc)
  got_last [] x (suc i) y at = cc
  got_last (z ∷ xs) x zero y at = inl at
  got_last (z ∷ xs) x (suc i) y at = elim (got_last xs x i y at) as (λ _. (slice_get (z ∷ xs) (suc i) ≡ Some y) ⊎ ((suc i ≡ length (z ∷ xs)) × (y ≡ x))) [ inl r ↦ inl r | inr r ↦ inr (ap suc r.0, r.1) ]

  pub are_more : (Is : ℕ → X → Type 0) (n : ℕ) (xs ys : List X) (x : X) → Are Is n xs → Is n x → ys ≡ xs ++ x ∷ [] → Are Is (n + 1) ys
  are_more Is n xs ys x are is put = subst (Are Is (n + 1)) (sym put) (record {
    size = omega (arith, length-append xs (x ∷ []), are.size);
    each = λ i y at. by i y (got_last xs x i y at);
  })
    where
      by : (i : ℕ) (y : X) → ((slice_get xs i ≡ Some y) ⊎ ((i ≡ length xs) × (y ≡ x))) → Is i y
      by i y (inl at) = are.each i y at
      by i y (inr r) = subst (λ z. Is i z) (sym r.1) (subst (λ k. Is k x) (sym (r.0 ∙ are.size)) is)

  -- the first of what is left stands there
  pub next_one : (xs : List X) (n : ℕ) (x : X) (rest : List X) → drop n xs ≡ x ∷ rest → (slice_get xs n ≡ Some x) × (drop (n + 1) xs ≡ rest)
  next_one [] zero x rest e = cc
  next_one [] (suc n) x rest e = cc
  next_one (y ∷ xs) zero x rest e = (cc, cc)
  next_one (y ∷ xs) (suc n) x rest e =
      let r = next_one xs n x rest e in
      let more : suc n + 1 ≡ suc (n + 1) = omega (arith) in
      (r.0, ap (λ k. drop k (y ∷ xs)) more ∙ r.1)

  -- where nothing is left, all were taken
  pub all_taken : (xs : List X) (n : ℕ) → drop n xs ≡ [] → n ≤ length xs → n ≡ length xs
  all_taken [] n e le = omega (arith, le)
  all_taken (y ∷ xs) zero e le = cc
  all_taken (y ∷ xs) (suc n) e le = ap suc (all_taken xs n e (omega (arith, le)))

  replicate_get : (n : ℕ) (x : X) (i : ℕ) (y : X) → slice_get (replicate n x) i ≡ Some y → y ≡ x
  replicate_get zero x i y at = cc
  replicate_get (suc n) x zero y at = cc
  replicate_get (suc n) x (suc i) y at = replicate_get n x i y at

  replicate_or : (n : ℕ) (x : X) (i : ℕ) → slice_index_or (replicate n x) i x ≡ x
  replicate_or zero x i = refl
  replicate_or (suc n) x zero = refl
  replicate_or (suc n) x (suc i) = replicate_or n x i

module _ {X Y : Type 0} where
  -- the image of one more
  pub taken_more : (f : X → Y) (xs : List X) (i : ℕ) (d : X) (was now : List Y) (y : Y) → i < length xs → was ≡ map f (take i xs) → y ≡ f (slice_index_or xs i d) → now ≡ was ++ y ∷ [] → now ≡ map f (take (i + 1) xs)
  taken_more f xs i d was now y lt before is put = put ∙ (ap (λ l. l ++ y ∷ []) before ∙ (ap (λ z. map f (take i xs) ++ z ∷ []) is ∙ sym (map_more f xs i d lt)))

  pub map_pushed : (f : X → Y) (was now : List X) (x : X) → now ≡ was ++ x ∷ [] → map f now ≡ map f was ++ f x ∷ []
  map_pushed f was now x put = ap (map f) put ∙ map-append f was (x ∷ [])

  pub taken_all : (f : X → Y) (xs : List X) (i : ℕ) → length xs ≤ i → map f (take i xs) ≡ map f xs
  taken_all f xs i le = ap (map f) (take_all i xs le)

  images : (f : X → Y) (g : ℕ → Y) (a : ℕ) (xs : List X) → ((i : ℕ) (x : X) → slice_get xs i ≡ Some x → f x ≡ g (a + i)) → map f xs ≡ map g (range_with_len a (length xs))
  images f g a [] h = refl
  images f g a (x ∷ xs) h =
      let e : a + 0 ≡ a = omega (arith) in
      ap (λ y. y ∷ map f xs) (h 0 x refl ∙ ap g e) ∙ ap (λ ys. g a ∷ ys) (images f g (a + 1) xs (λ i y at. let s : a + suc i ≡ a + 1 + i = omega (arith) in h (suc i) y at ∙ ap g s))

  are_images : (Is : ℕ → X → Type 0) (f : X → Y) (g : ℕ → Y) (n : ℕ) (xs : List X) → Are Is n xs → ((i : ℕ) (x : X) → Is i x → f x ≡ g i) → map f xs ≡ map g (range_with_len 0 n)
  are_images Is f g n xs are h =
      images f g 0 xs (λ i x at. let s : i ≡ 0 + i = omega (arith) in h i x (are.each i x at) ∙ ap g s) ∙ ap (λ k. map g (range_with_len 0 k)) are.size

  map_got : (f : X → Y) (xs : List X) (i : ℕ) (y : Y) → slice_get (map f xs) i ≡ Some y → (x : X) × (slice_get xs i ≡ Some x) × (y ≡ f x)
  map_got f [] i y at = cc
  map_got f (x ∷ xs) zero y at = (x, refl, cc)
  map_got f (x ∷ xs) (suc i) y at = map_got f xs i y at

pub map_both : {X Y Z : Type 0} (f : Y → Z) (g : X → Y) (h : X → Z) → ((x : X) → f (g x) ≡ h x) → (xs : List X) → map f (map g xs) ≡ map h xs
map_both f g h e [] = refl
map_both f g h e (x ∷ xs) = ap (λ z. z ∷ map f (map g xs)) (e x) ∙ ap (λ zs. h x ∷ zs) (map_both f g h e xs)

-- ---- lines
entries_first : (p : Layout) → entries_of (empty_line p) ≡ first_line p
entries_first p = map_both (λ (l : LogView). l.entries) (empty_log p) (λ b. []) (λ b. refl) (sources p)

-- ---- stage shards
abbrev stage_over : Layout → ℕ → Line → Bool → Node Stage
stage_over p s line b = record { is = record { plan = p; shard = s; line = line; right = first_right true p.right; pending = []; asked = None; marks = [] }; runs = b }

right_is : (side : Option SideLayout) → option_map (λ side. no_keys) side ≡ first_right true side
right_is None = refl
right_is (Some side) = refl

abbrev stage_with : Layout → ℕ → Line → Bool → Option Keys → Node Stage
stage_with p s line b right = record { is = record { plan = p; shard = s; line = line; right = right; pending = []; asked = None; marks = [] }; runs = b }

stage_is : (p : Layout) (s : ℕ) (d : StageDomain) → IsNewStage p s (empty_line p) d → stage_node d ≡ first_stage true p s
stage_is p s d new =
    ap (λ (x : Stage). record { is = x; runs = runs d.mode }) new.stage
    ∙ (ap (stage_with p s (entries_of (empty_line p)) (runs d.mode)) (right_is p.right)
    ∙ (ap (λ line. stage_over p s line (runs d.mode)) (entries_first p) ∙ ap (λ m. stage_over p s (first_line p) (runs m)) new.running))

stages_are : (p : Layout) (stages : List StageDomain) → AreNewStages p stages → map stage_node stages ≡ map (first_stage true p) (range_with_len 0 p.stages)
stages_are p stages are = are_images (λ s d. IsNewStage p s (empty_line p) d) stage_node (first_stage true p) p.stages stages are (stage_is p)

stages_placed : (p : Layout) (stages : List StageDomain) → AreNewStages p stages → Are (IsStageOf p) p.stages stages
stages_placed p stages are = record {
  size = are.size;
  each = λ s d at.
      let new = are.each s d at in
      record {
        plan = ap (λ (x : Stage). x.plan) new.stage;
        shard = ap (λ (x : Stage). x.shard) new.stage;
        place = subst (λ n. s < n) are.size (not_past stages s d at);
        whole = running_whole d.mode new.running;
      };
}

not_broken : mode.Running ≡ mode.Broken → ⊥
not_broken e = cc

-- ---- view shards
abbrev view_over : Layout → Reader → List Line → Node View
view_over p r cut = record (first_view p r) { is = record (first_view p r).is { cut = cut } }

cut_is : (p : Layout) → lines_of (replicate p.stages (empty_line p)) ≡ replicate p.stages (first_line p)
cut_is p = map_replicate entries_of p.stages (empty_line p) ∙ ap (replicate p.stages) (entries_first p)

view_is : (p : Layout) (r : Reader) → view_node (new_view p r) ≡ first_view p r
view_is p r = ap (view_over p r) (cut_is p)

views_are : (p : Layout) → map view_node (new_views p) ≡ map (first_view p) (readers p)
views_are p = map_both view_node (new_view p) (first_view p) (view_is p) (readers p)

views_placed : (p : Layout) → Are (IsViewOf p) (length (readers p)) (new_views p)
views_placed p = record {
  size = length-map (readers p) (new_view p);
  each = λ r d at.
      let g = map_got (new_view p) (readers p) r d at in
      subst (IsViewOf p r) (sym g.2) (record { plan = refl; reader = g.1; place = each_at (λ (x : Reader). x.view < length p.views) (readers p) r g.0 g.1 (readers_there p); whole = not_broken });
}

-- ---- what the calls that make them leave
pub reader_there : (p q : Layout) (xs : List Code) (i : ℕ) (x d : Code) → q ≡ p → map reader_in xs ≡ readers p → i < length xs → x ≡ slice_index_or xs i d → x.view < length q.views
reader_there p q xs i x d same are lt is =
    let at : slice_get (readers p) i ≡ Some (reader_in x) = ap (λ rs. slice_get rs i) (sym are) ∙ map_get reader_in xs i x (there_at xs i d lt ∙ ap Some (sym is)) in
    subst (λ l. x.view < length l.views) (sym same) (each_at (λ (r : Reader). r.view < length p.views) (readers p) i (reader_in x) at (readers_there p))

-- ---- queues
nothing_sent : (n m : ℕ) → sent_in (no_queues n m) ≡ no_queues n m
nothing_sent n m = map_replicate (map (map sent_of)) n (replicate m []) ∙ ap (replicate n) (map_replicate (map sent_of) m [])

none_queued : {X : Type 0} (Is : ℕ → ℕ → X → Type 0) (n m : ℕ) → AreQueued Is (no_queues n m)
none_queued Is n m r i = subst (Each (Is r i)) (sym (nothing_queued n m r i)) tt

pub queues_are : {X : Type 0} (n m k l : ℕ) (q : List (List (List X))) → q ≡ no_queues n m → n ≡ k → m ≡ l → q ≡ no_queues k l
queues_are n m k l q is a b = is ∙ (ap (λ x. no_queues x m) a ∙ ap (λ x. no_queues k x) b)

-- ---- sessions
callers_are : (p : Layout) → map (λ (s : Session). s.is) (new_sessions p) ≡ replicate most_sessions (first_caller p)
callers_are p = map_replicate (λ (s : Session). s.is) most_sessions (new_session p)

none_own : (p : Layout) (bs : List ℕ) (se b : ℕ) → own_in se (slice_get (map (first_base p) bs) b) ≡ 0
none_own p [] se b = refl
none_own p (x ∷ bs) se zero = refl
none_own p (x ∷ bs) se (suc b) = none_own p bs se b

known : (p : Layout) (bases : List (Node Base)) (se : ℕ) (s : Session) → bases ≡ map (first_base p) (range_with_len 0 (base_count p)) → s ≡ new_session p → KnowsOwn bases se s
known p bases se s are is = record {
  size = ap (λ (x : Session). length x.own) is ∙ (replicate_size {X = ℕ} (base_count p) 0 ∙ sym (ap length are ∙ length-map-range_with_len (first_base p) 0 (base_count p)));
  each = λ b.
      ap (λ (x : Session). slice_index_or x.own b 0) is
      ∙ (replicate_or (base_count p) 0 b ∙ sym (ap (λ ns. own_in se (slice_get ns b)) are ∙ none_own p (range_with_len 0 (base_count p)) se b));
}

sessions_placed : (p : Layout) (bases : List (Node Base)) → bases ≡ map (first_base p) (range_with_len 0 (base_count p)) → Are (KnowsOwn bases) most_sessions (new_sessions p)
sessions_placed p bases are = record {
  size = replicate_size most_sessions (new_session p);
  each = λ se s at. known p bases se s are (replicate_get most_sessions (new_session p) se s at);
}

abbrev session_of : Layout → ℕ → Session
session_of p bases = record { is = first_caller p; own = replicate bases 0 }

pub session_made : (p : Layout) (bases : ℕ) (s : Session) → bases ≡ base_count p → s ≡ session_of p bases → s ≡ new_session p
session_made p bases s same is = is ∙ ap (session_of p) same

-- ---- all of it
module _ {F : Type 0} (log : F → LogView) (authors : F → List Author) where
  abbrev node_of : LogView → List Author → Bool → Node Base
  node_of l wrote b = record { is = record { plan = l.plan; base = l.base; entries = l.entries; authors = wrote }; runs = b }

  base_is : (p : Layout) (b : ℕ) (d : BaseDomain F) → IsNewBase log authors p b d → base_node log authors d ≡ first_base p b
  base_is p b d is =
      ap (λ l. node_of l (authors d.front) (not d.stopped)) is.first.of
      ∙ (ap (λ wrote. node_of (empty_log p b) wrote (not d.stopped)) is.first.unsaid ∙ ap (λ x. node_of (empty_log p b) [] (not x)) is.runs)

  base_placed : (p : Layout) (b : ℕ) (d : BaseDomain F) → IsNewBase log authors p b d → IsBaseOf log authors p b d
  base_placed p b d is = record {
    plan = ap (λ (l : LogView). l.plan) is.first.of;
    base = ap (λ (l : LogView). l.base) is.first.of;
    sessions = ap length is.next ∙ replicate_size {X = ℕ} most_sessions 0;
  }

  -- all parts of it are new
  pub record IsNew (p : Layout) (h : Held F) : Type 0 where
    pub plan : h.plan ≡ p
    pub bases : Are (IsNewBase log authors p) (base_count p) h.bases
    pub stages : AreNewStages p h.stages
    pub views : h.views ≡ new_views p
    pub to_stage : h.to_stage ≡ no_queues p.stages (length (sources p))
    pub to_view : h.to_view ≡ no_queues (length (readers p)) p.stages
    pub from_view : h.from_view ≡ no_queues p.stages (length (readers p))
    pub to_base : h.to_base ≡ no_queues (length (sources p)) p.stages
    pub sessions : h.sessions ≡ new_sessions p

  abbrev made : Layout → List (BaseDomain F) → List StageDomain → Held F
  made p bases stages = record {
    plan = p;
    bases = bases;
    stages = stages;
    views = new_views p;
    to_stage = no_queues p.stages (length (sources p));
    to_view = no_queues (length (readers p)) p.stages;
    from_view = no_queues p.stages (length (readers p));
    to_base = no_queues (length (sources p)) p.stages;
    sessions = new_sessions p;
  }

  abbrev held_of : List (BaseDomain F) → Layout → List StageDomain → List ViewDomain → List (List (List BasePacketView)) → List (List (List StagePacketView)) → List (List (List Ask)) → List (List (List Ask)) → List Session → Held F
  held_of bases p stages views to_stage to_view from_view to_base sessions =
      record { plan = p; bases = bases; stages = stages; views = views; to_stage = to_stage; to_view = to_view; from_view = from_view; to_base = to_base; sessions = sessions }

  is_made : (p : Layout) (h : Held F) → IsNew p h → h ≡ made p h.bases h.stages
  is_made p h n = by h.plan h.views h.to_stage h.to_view h.from_view h.to_base h.sessions n.plan n.views n.to_stage n.to_view n.from_view n.to_base n.sessions
    where
      by : (q : Layout) (views : List ViewDomain) (to_stage : List (List (List BasePacketView))) (to_view : List (List (List StagePacketView))) (from_view to_base : List (List (List Ask))) (sessions : List Session)
          → q ≡ p → views ≡ new_views p → to_stage ≡ no_queues p.stages (length (sources p)) → to_view ≡ no_queues (length (readers p)) p.stages → from_view ≡ no_queues p.stages (length (readers p)) → to_base ≡ no_queues (length (sources p)) p.stages
          → sessions ≡ new_sessions p → held_of h.bases q h.stages views to_stage to_view from_view to_base sessions ≡ made p h.bases h.stages
      by q views to_stage to_view from_view to_base sessions a b c d e f g = rw (a, b, c, d, e, f, g) refl

  bases_are : (p : Layout) (bases : List (BaseDomain F)) → Are (IsNewBase log authors p) (base_count p) bases → map (base_node log authors) bases ≡ map (first_base p) (range_with_len 0 (base_count p))
  bases_are p bases are = are_images (IsNewBase log authors p) (base_node log authors) (first_base p) (base_count p) bases are (base_is p)

  made_world : (p : Layout) (bases : List (BaseDomain F)) (stages : List StageDomain) → Are (IsNewBase log authors p) (base_count p) bases → AreNewStages p stages → world_of log authors (made p bases stages) ≡ start true p
  made_world p bases stages are new = rw (bases_are p bases are, stages_are p stages new, views_are p, nothing_sent (length (readers p)) p.stages, callers_are p) refl

  made_placed : (p : Layout) (bases : List (BaseDomain F)) (stages : List StageDomain) → IsPlan p → Are (IsNewBase log authors p) (base_count p) bases → AreNewStages p stages → IsPlaced log authors (made p bases stages)
  made_placed p bases stages good are new = record {
    good = good;
    bases = record { size = are.size; each = λ b d at. base_placed p b d (are.each b d at) };
    stages = stages_placed p stages new;
    views = views_placed p;
    to_stage = none_queued _ p.stages (length (sources p));
    to_view = none_queued _ (length (readers p)) p.stages;
    from_view = none_queued _ p.stages (length (readers p));
    to_base = none_queued _ (length (sources p)) p.stages;
    sessions = sessions_placed p (map (base_node log authors) bases) (bases_are p bases are);
  }

  pub new_world : (p : Layout) (h : Held F) → IsNew p h → world_of log authors h ≡ start true p
  new_world p h n = ap (world_of log authors) (is_made p h n) ∙ made_world p h.bases h.stages n.bases n.stages

  pub new_whole : (p : Layout) (h : Held F) → IsPlan p → IsNew p h → IsWhole log authors h
  new_whole p h good n = record {
    reached = record { by_key = true; plan = p; good = good; moves = []; after = new_world p h n };
    placed = subst (IsPlaced log authors) (sym (is_made p h n)) (made_placed p h.bases h.stages good n.bases n.stages);
  }

  -- the right to append to the log of a source is there
  pub source_there : {R : Type 0} (front : R → F) (p q : Layout) (bs : List ℕ) (rights : List R) (i : ℕ) → q ≡ p → IsPlan q → bs ≡ sources p → AreFirst log authors front p rights → i < length bs → slice_index_or bs i 0 < length rights
  source_there front p q bs rights i same good are first lt =
      let at : slice_get (sources p) i ≡ Some (slice_index_or bs i 0) = ap (λ l. slice_get l i) (sym are) ∙ there_at bs i 0 lt in
      subst (λ n. slice_index_or bs i 0 < n) (sym first.size) (each_at (λ x. x < base_count p) (sources p) i (slice_index_or bs i 0) at (sources_small p (subst IsPlan same good)))

  -- and its front is of the empty log
  pub source_right : {R : Type 0} (front : R → F) (p : Layout) (rights : List R) (b : ℕ) (r : R) → AreFirst log authors front p rights → b < length rights → r ≡ slice_index_or rights b r → log (front r) ≡ empty_log p b
  source_right front p rights b r first lt is = (first.each b r (there_at rights b r lt ∙ ap Some (sym is))).of
