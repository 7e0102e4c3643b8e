-- What a front says of its log goes on to hold.
use Rattle.std.proofs.Common.{◌≡◌, ℕ, ◌+◌, ◌<◌, ◌≤◌, List, [], ◌++◌, length, refl, ap, sym, ◌∙◌, subst, arith, append_assoc, length-append, ◌⊎◌, inl, inr}
use Rattle.std.proofs.lemmas.List.{length-take-le}
use mathlib.Core.List.{IsPrefix}
use Rattle.plan.specs.Layouts.{Layout}
use Rattle.model.specs.Fronts.{LogView, IsLog, IsLonger, Agree, AllowsEntry}
use Rattle.model.specs.Histories.{Item, log_of}
use Rattle.model.specs.Legal.{IsLegal}
use Rattle.model.specs.Logs.{Change, fits}
use Rattle.model.specs.Places.{base_count, layout_of}
use Rattle.model.proofs.Beginnings.{begins, agree}
use Rattle.model.proofs.Growth.{log_grows, log_more}
use Rattle.model.proofs.LegalLogs.{all_take, legal_fits, legal_room}
use Rattle.book.specs.Fronts.{FrontView, entries, authors, MayAppend}

-- what a front says
abbrev pub log_at : Layout → FrontView → LogView
log_at p f = record { plan = p; base = f.base; entries = entries f }

logs_either : (b : ℕ) (v w : List Item) → IsPrefix v w ⊎ IsPrefix w v → IsPrefix (log_of b v) (log_of b w) ⊎ IsPrefix (log_of b w) (log_of b v)
logs_either b v w (inl pre) = inl (log_grows b v w pre)
logs_either b v w (inr pre) = inr (log_grows b w v pre)

pub fronts_agree : (f g : FrontView) → f.base ≡ g.base → IsPrefix f.seen g.seen ⊎ IsPrefix g.seen f.seen → f.len ≤ length (log_of f.base f.seen) → g.len ≤ length (log_of g.base g.seen) → Agree (entries f) (entries g)
fronts_agree f g same pre here there =
    let le : g.len ≤ length (log_of f.base g.seen) = rw same there in
    rw (← same) (agree f.len g.len (log_of f.base f.seen) (log_of f.base g.seen) (logs_either f.base f.seen g.seen pre) here le)

-- a longer front, which has all of what was seen
pub is_longer : (p : Layout) (f m g : FrontView) → f.len ≤ length (log_of f.base f.seen) → m.base ≡ f.base → m.len ≡ f.len → IsPrefix f.seen m.seen → m.len < length (log_of m.base m.seen) → g.base ≡ m.base → IsPrefix m.seen g.seen → g.len ≡ length (log_of g.base g.seen)
    → IsLonger (log_at p f) (log_at p g)
is_longer p f m g here base len (r, is) more same (t, on) whole =
    let b = f.base in
    let at : g.base ≡ b = same ∙ base in
    let all : g.len ≡ length (log_of b g.seen) = whole ∙ ap (λ x. length (log_of x g.seen)) at in
    let first : log_of b m.seen ≡ log_of b f.seen ++ log_of b r = ap (log_of b) (sym is) ∙ log_more b f.seen r in
    let second : log_of b g.seen ≡ log_of b m.seen ++ log_of b t = ap (log_of b) (sym on) ∙ log_more b m.seen t in
    let lt : f.len < length (log_of b m.seen) = subst (λ x. f.len < length (log_of x m.seen)) base (omega (arith, more, len)) in
    let n : length (log_of b g.seen) ≡ length (log_of b m.seen) + length (log_of b t) = ap length second ∙ length-append (log_of b m.seen) (log_of b t) in
    let pre : IsPrefix (log_of b f.seen) (log_of b g.seen) = (log_of b r ++ log_of b t, sym (append_assoc (log_of b f.seen) (log_of b r) (log_of b t)) ∙ (ap (λ l. l ++ log_of b t) (sym first) ∙ sym second)) in
    let x = length-take-le f.len (log_of b f.seen) here in
    let y = length-take-le g.len (log_of b g.seen) (omega (arith, all)) in
    record {
      plan = refl;
      base = at;
      begins = rw at (begins f.len g.len (log_of b f.seen) (log_of b g.seen) (inl pre) here (omega (arith, all)) (omega (arith, all, n, lt)));
      longer = rw at (omega (arith, x, y, all, n, lt));
    }

pub is_log : (p : Layout) (n : ℕ) (f : FrontView) → f.base < base_count p → IsLegal p n f.seen → f.len ≤ length (log_of f.base f.seen) → IsLog (log_at p f)
is_log p n f range legal here = record {
  range = range;
  fitting = all_take (fits (layout_of p f.base)) f.len (log_of f.base f.seen) (legal_fits p n f.base [] f.seen legal);
  room = omega (arith, legal_room p n f.base [] f.seen legal (omega arith), length-take-le f.len (log_of f.base f.seen) here, here);
}

-- the entry may come next at the front
pub may_append : (p : Layout) (f : FrontView) (s m : ℕ) (e : Change) → f.len ≤ length (log_of f.base f.seen) → AllowsEntry (log_at p f) (authors f) s m e → MayAppend p f s m e
may_append p f s m e here a = record {
  fits = a.fitting;
  shard = a.shard;
  lawful = a.lawful;
  room = let l = length-take-le f.len (log_of f.base f.seen) here in omega (arith, a.room, l);
  number = a.number;
}
