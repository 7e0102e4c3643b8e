-- Lines and cuts of empty fronts, and what a copy shows over them.
use Rattle.std.proofs.Common.{◌≡◌, ℕ, ◌+◌, ◌<◌, List, [], ◌∷◌, ◌++◌, map, length, replicate, Result, Ok, Err, IfOk, slice_index_or, take, refl, ap, sym, ◌∙◌, subst}
use Rattle.std.proofs.lemmas.List.{map-append, map_more}
use Rattle.plan.specs.Layouts.{Layout}
use Rattle.model.specs.Fronts.{LogView}
use Rattle.model.specs.Places.{sources}
use Rattle.book.specs.Fronts.{FrontView}
use Rattle.packet.specs.Lines.{empty_log, empty_line, entries_of}
use Rattle.packet.proofs.Copies.{map_replicate}
use Rattle.protocol.specs.WorldSteps.{lengths_of}
use Rattle.shown.specs.Snapshots.{first_of}
use Rattle.view_domain.specs.Domains.{Domain, lines_of, new_view}
use Rattle.view_domain.proofs.Fresh.{view_from, view_made}
use Rattle.domain_turns.specs.ViewTurns.{Shows}
use Rattle.domain_turns.specs.BaseTurns.{log_in}

-- ---- lines
-- a front with no entry
empty_is : (p : Layout) (f : FrontView) (b : ℕ) → f.base ≡ b → f.len ≡ 0 → log_in p f ≡ empty_log p b
empty_is p f b base len = by f.base f.len base len
  where
    by : (c n : ℕ) → c ≡ b → n ≡ 0 → log_in p (record f { base = c; len = n }) ≡ empty_log p b
    by c n e z = rw (e, z) refl

-- the empty fronts of the first base shards, and one more
pub line_more : (p : Layout) (bs : List ℕ) (i : ℕ) (was now : List FrontView) (f : FrontView) → i < length bs → map (log_in p) was ≡ map (empty_log p) (take i bs) → f.base ≡ slice_index_or bs i 0 → f.len ≡ 0 → now ≡ was ++ f ∷ []
    → map (log_in p) now ≡ map (empty_log p) (take (i + 1) bs)
line_more p bs i was now f lt before base len put =
    ap (map (log_in p)) put
    ∙ (map-append (log_in p) was (f ∷ [])
    ∙ (ap (λ l. l ++ log_in p f ∷ []) before
    ∙ (ap (λ z. map (empty_log p) (take i bs) ++ z ∷ []) (empty_is p f (slice_index_or bs i 0) base len) ∙ sym (map_more (empty_log p) bs i 0 lt))))

entries_none : (p : Layout) (bs : List ℕ) → entries_of (map (empty_log p) bs) ≡ replicate (length bs) []
entries_none p [] = refl
entries_none p (b ∷ bs) = ap (λ l. [] ∷ l) (entries_none p bs)

-- ---- cuts
lines_none : (p : Layout) → lines_of (replicate p.stages (empty_line p)) ≡ replicate p.stages (replicate (length (sources p)) [])
lines_none p = map_replicate entries_of p.stages (empty_line p) ∙ ap (replicate p.stages) (entries_none p (sources p))

lengths_none : (n m : ℕ) → lengths_of (replicate n (replicate m [])) ≡ replicate n (replicate m 0)
lengths_none n m = map_replicate (map length) n (replicate m []) ∙ ap (replicate n) (map_replicate length m [])

-- what is shown first is what a fresh view shard holds
pub shows_new : (p : Layout) (i j : ℕ) → Shows (new_view p (record { view = i; shard = j })) (first_of p i j)
shows_new p i j = record {
  view = refl;
  shard = refl;
  lengths = sym (ap lengths_of (lines_none p) ∙ lengths_none p.stages (length (sources p)));
  cut = sym (lines_none p);
  rows = λ k. refl;
  asked = refl;
}

pub if_shows : {E : Type 0} (p q : Layout) (i j : ℕ) (cut : List (List LogView)) (r : Result Domain E) → q ≡ p → cut ≡ replicate q.stages (empty_line q) → IfOk r (λ d. d ≡ view_from q (record { view = i; shard = j }) cut) → IfOk r (λ d. Shows d (first_of p i j))
if_shows p q i j cut (Ok d) same made is = subst (λ x. Shows x (first_of p i j)) (sym (view_made p q (record { view = i; shard = j }) cut d same made is)) (shows_new p i j)
if_shows p q i j cut (Err e) same made is = tt
