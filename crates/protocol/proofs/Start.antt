-- The empty world.
use Rattle.std.proofs.Common.{Bool, ◌≡◌, ℕ, zero, suc, ◌+◌, ◌<◌, true, not, List, [], ◌∷◌, map, length, replicate, slice_get, slice_index_or, Some, refl, ap, sym, ◌∙◌, subst, arith}
use Rattle.std.specs.List.{range_with_len}
use Rattle.std.proofs.lemmas.List.FromFn.{length-map-range_with_len}
use Rattle.plan.specs.Layouts.{Layout}
use Rattle.plan.specs.Profile.{IsPlan}
use Rattle.model.specs.Logs.{Change}
use Rattle.model.specs.Places.{base_count, sources}
use Rattle.model.specs.Queries.{Line}
use Rattle.model.specs.Histories.{Lengths, len_at}
use Rattle.model.proofs.Growth.{at_most_none}
use mathlib.Core.List.{IsPrefix}
use Rattle.packet.specs.Readers.{Reader, readers}
use Rattle.packet.specs.Truth.{Pointwise, Grows}
use Rattle.protocol.proofs.Leading.{IsRun, IsBaseRun}
use Rattle.protocol.specs.Bases.{Base}
use Rattle.protocol.specs.Stages.{Stage}
use Rattle.protocol.specs.Views.{View}
use Rattle.protocol.specs.Worlds.{Node, Caller, start, first_base, first_stage, first_view, first_caller}
use Rattle.model.specs.Legal.{most_sessions}
use Rattle.protocol.specs.WorldSteps.{lengths_of}
use Rattle.protocol.specs.Edges.{place_or, reader_place}
use Rattle.protocol.proofs.Wired.{Wired, IsLogOf, IsBase, Edges, Led, Three, entries_at, source_logs, lines_of, readers_in, IsCaller, IsFloor, Good}
use Rattle.protocol.proofs.Lists.{each_replicate}
use Rattle.protocol.proofs.Parts.{each_map_of}

pub range_map_get : {Y : Type 0} (f : ℕ → Y) (a n i : ℕ) (y : Y) → slice_get (map f (range_with_len a n)) i ≡ Some y → (i < n) × (y ≡ f (a + i))
range_map_get f a zero i y at = cc
range_map_get f a (suc n) zero y at = let e : a + 0 ≡ a = omega arith in let s : y ≡ f a = cc in (omega arith, s ∙ ap f (sym e))
range_map_get f a (suc n) (suc i) y at =
    let r = range_map_get f (a + 1) n i y at in
    let e : a + 1 + i ≡ a + suc i = omega arith in
    let l = r.0 in
    (omega arith, r.1 ∙ ap f e)

entries_none : (p : Layout) (xs : List ℕ) (b : ℕ) → entries_at (map (first_base p) xs) b ≡ []
entries_none p [] b = refl
entries_none p (x ∷ xs) zero = refl
entries_none p (x ∷ xs) (suc b) = entries_none p xs b

first_lines : (p : Layout) (xs ys : List ℕ) → Three (Led IsBaseRun IsPrefix true) (map (λ b. []) ys) (replicate (length ys) []) (map (entries_at (map (first_base p) xs)) ys)
first_lines p xs [] = tt
first_lines p xs (y ∷ ys) = (sym (entries_none p xs y), first_lines p xs ys)

first_edges : (by_key : Bool) (p : Layout) (a n : ℕ) (senders : List (List Change)) → Three (Led IsBaseRun IsPrefix true) (map (λ b. []) (sources p)) (replicate (length (sources p)) []) senders
    → Edges IsBaseRun IsPrefix (λ (s : Stage). s.line) (map (first_stage by_key p) (range_with_len a n)) (replicate n (replicate (length (sources p)) [])) senders
first_edges by_key p a zero senders h = tt
first_edges by_key p a (suc n) senders h = (h, first_edges by_key p (a + 1) n senders h)

first_cut : (by_key : Bool) (p : Layout) (a n : ℕ) → Three (Led IsRun Grows true) (replicate n (map (λ b. []) (sources p))) (replicate n []) (lines_of (map (first_stage by_key p) (range_with_len a n)))
first_cut by_key p a zero = tt
first_cut by_key p a (suc n) = (refl, first_cut by_key p (a + 1) n)

first_cuts : (p : Layout) (senders : List Line) (rs : List Reader) → Three (Led IsRun Grows true) (replicate p.stages (map (λ b. []) (sources p))) (replicate p.stages []) senders
    → Edges IsRun Grows (λ (v : View). v.cut) (map (first_view p) rs) (replicate (length rs) (replicate p.stages [])) senders
first_cuts p senders [] h = tt
first_cuts p senders (r ∷ rs) h = (h, first_cuts p senders rs h)

first_readers : (p : Layout) (rs : List Reader) → readers_in (map (first_view p) rs) ≡ rs
first_readers p [] = refl
first_readers p (r ∷ rs) = ap (λ xs. r ∷ xs) (first_readers p rs)

first_floors : (p : Layout) (rs : List Reader) → Pointwise IsFloor (map (first_view p) rs) (map (λ r. []) rs)
first_floors p [] = tt
first_floors p (r ∷ rs) = (at_most_none (lengths_of (first_view p r).is.cut), first_floors p rs)

pub start_wired : (by_key : Bool) (p : Layout) → IsPlan p → Wired (start by_key p)
start_wired by_key p g = record {
  good = g;
  bases = λ b n at. base b n (range_map_get (first_base p) 0 (base_count p) b n at);
  counted = length-map-range_with_len (first_base p) 0 (base_count p);
  staged = length-map-range_with_len (first_stage by_key p) 0 p.stages;
  planned = each_map_of (λ (n : Node Stage). n.is.plan ≡ p) (first_stage by_key p) (range_with_len 0 p.stages) (λ s. refl);
  viewed = first_readers p (readers p);
  lines = first_edges by_key p 0 p.stages (source_logs p (map (first_base p) (range_with_len 0 (base_count p)))) (first_lines p (range_with_len 0 (base_count p)) (sources p));
  cuts = first_cuts p (lines_of (map (first_stage by_key p) (range_with_len 0 p.stages))) (readers p) (first_cut by_key p 0 p.stages);
  callers = each_replicate (IsCaller (map (first_view p) (readers p))) most_sessions (first_caller p) (record { floors = first_floors p (readers p); acks = tt });
  sixteen = refl;
}
  where
    base : (b : ℕ) (n : Node Base) → (b < base_count p) × (n ≡ first_base p (0 + b)) → IsBase p (replicate most_sessions (first_caller p)) b n
    base b n r =
        let e : 0 + b ≡ b = omega arith in
        subst (IsBase p (replicate most_sessions (first_caller p)) b) (sym (r.1 ∙ ap (first_base p) e))
        (record { plan = refl; base = refl; range = r.0; log = record { fitting = tt; room = omega arith }; authors = refl; numbers = tt })

abbrev no_floor : Reader → Lengths
no_floor r = []

none_there : (xs : List Reader) (n : ℕ) → slice_index_or (map no_floor xs) n [] ≡ []
none_there [] n = refl
none_there (x ∷ xs) zero = refl
none_there (x ∷ xs) (suc n) = none_there xs n

replicate_get : {X : Type 0} (n : ℕ) (x : X) (i : ℕ) (y : X) → slice_get (replicate n x) i ≡ Some y → y ≡ x
replicate_get zero x i y at = cc
replicate_get (suc n) x zero y at = cc
replicate_get (suc n) x (suc i) y at = replicate_get n x i y at

pub start_good : (by_key : Bool) (p : Layout) → IsPlan p → Good (start by_key p) [] []
start_good by_key p g = record {
  wired = start_wired by_key p g;
  history = record {
    legal = tt;
    logs = λ b n at. subst (IsLogOf [] b) (sym (range_map_get (first_base p) 0 (base_count p) b n at).1) (record { log = refl; authors = refl });
    floors = λ se c at i j li lj s b.
        let e = replicate_get most_sessions (first_caller p) se c at in
        let r = place_or (reader_place p i j) in
        ap (λ (l : Lengths). len_at l s b) (sym (none_there (readers p) r)) ∙ ap (λ (x : Caller). len_at (slice_index_or x.floors r []) s b) (sym e);
  };
  events = record {
    numbers = λ se c at. ap (λ (x : Caller). x.number) (replicate_get most_sessions (first_caller p) se c at);
    stops = λ b n at. ap (λ (x : Node Base). not x.runs) (range_map_get (first_base p) 0 (base_count p) b n at).1;
  };
}
