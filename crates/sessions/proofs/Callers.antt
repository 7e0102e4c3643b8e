-- Sessions that go on to a longer history.
use Rattle.std.proofs.Common.{◌≡◌, ◌≢◌, ◌⊎◌, ℕ, zero, suc, ◌+◌, ◌<◌, ◌≤◌, ◌==◌, Bool, true, false, List, [], ◌∷◌, ◌++◌, length, map, replicate, slice_get, slice_index_or, slice_set, Option, Some, None, refl, ap, sym, ◌∙◌, subst, arith, append_assoc, inl, inr}
use Rattle.std.proofs.lemmas.Bool.Decides.{eqb_tells}
use Rattle.std.proofs.lemmas.Option.{slice_get_within}
use Rattle.std.proofs.lemmas.List.{get_or-set_other, length-set, length-replicate}
use Rattle.std.proofs.lemmas.Grind.{get_or-set_at}
use mathlib.Core.List.{IsPrefix}
use Rattle.plan.specs.Layouts.{Layout, table_named}
use Rattle.model.specs.Refusals.{write_refusal}
use Rattle.model.specs.Logs.{Change}
use Rattle.model.specs.Places.{base_count, sources}
use Rattle.model.specs.Histories.{Item, write, Lengths, Floors, floor_at, log_of, authors_of}
use Rattle.model.specs.Cuts.{IsAtMost}
use Rattle.book.specs.Replies.{IsAfter}
use Rattle.model.proofs.Growth.{authors_grow, authors_push, log_grows}
use Rattle.model.proofs.Prefixes.{prefix_self, prefix_get, prefix_length}
use Rattle.book.proofs.Fronts.{length_authors}
use Rattle.model.proofs.Growth.{at_most_trans, at_most_none}
use Rattle.row.specs.declared.refused.Refused.{Refused}
use Rattle.shown.specs.Snapshots.{Snapshot}
use Rattle.calls.specs.Writes.{IsAnswer}
use Rattle.protocol.specs.WorldSteps.{base_for}
use Rattle.sessions.specs.Inserts.{first_of, stolen_refusal, call_refusal, IsTaken, IsUntaken, Declines, untaken}
use Rattle.sessions.specs.Callers.{Caller, IsWrote, accepted_at, whole_cut, IsCaller}

-- ---- what was written, in a longer history
pub wrote_later : (h w : List Item) (s b k : ℕ) → IsPrefix h w → IsWrote h s b k → IsWrote w s b k
wrote_later h w s b k p x = record { number = x.number; author = prefix_get (authors_of b h) (authors_of b w) k (record { session = s; number = x.number }) (authors_grow b h w p) x.author }

-- what was written has its place within the log
pub wrote_within : (h : List Item) (s b k : ℕ) → IsWrote h s b k → k < length (log_of b h)
wrote_within h s b k x = let l = slice_get_within (authors_of b h) k (record { session = s; number = x.number }) x.author in omega (arith, l, length_authors b h)

-- ---- the cut of a longer history
line_mono : (f g : ℕ → ℕ) (bs : List ℕ) → ((b : ℕ) → f b ≤ g b) → (j : ℕ) → slice_index_or (map f bs) j 0 ≤ slice_index_or (map g bs) j 0
line_mono f g [] le j = omega arith
line_mono f g (b ∷ bs) le zero = le b
line_mono f g (b ∷ bs) le (suc j) = line_mono f g bs le j

pub cut_mono : (n : ℕ) (xs ys : List ℕ) → ((j : ℕ) → slice_index_or xs j 0 ≤ slice_index_or ys j 0) → IsAtMost (replicate n xs) (replicate n ys)
cut_mono zero xs ys le s j = omega arith
cut_mono (suc n) xs ys le zero j = le j
cut_mono (suc n) xs ys le (suc s) j = cut_mono n xs ys le s j

pub whole_later : (p : Layout) (h w : List Item) → IsPrefix h w → IsAtMost (whole_cut p h) (whole_cut p w)
whole_later p h w pre = cut_mono p.stages _ _ (line_mono (λ b. length (log_of b h)) (λ b. length (log_of b w)) (sources p) (λ b. prefix_length (log_of b h) (log_of b w) (log_grows b h w pre)))

-- ---- an item after a part
pub after_grows : (a : List Item) (i : Item) (b k : ℕ) (h : List Item) → IsAfter a i b k h → IsPrefix a h
after_grows a i b k h x = (x.between ++ i ∷ x.rest, sym (x.stands ∙ append_assoc a x.between (i ∷ x.rest)))

get_last : {A : Type 0} (xs : List A) (x : A) (n : ℕ) → length xs ≡ n → slice_get (xs ++ x ∷ []) n ≡ Some x
get_last [] x zero e = refl
get_last [] x (suc n) e = absurd (omega (arith, e))
get_last (y ∷ xs) x zero e = absurd (omega (arith, e))
get_last (y ∷ xs) x (suc n) e = get_last xs x n (omega (arith, e))

pub after_wrote : (a : List Item) (s m b k : ℕ) (e : Change) (h : List Item) → IsAfter a (write s m b e) b k h → IsWrote h s b k
after_wrote a s m b k e h x =
    let front = a ++ x.between in
    let place : length (authors_of b front) ≡ k = length_authors b front ∙ x.place in
    let at : slice_get (authors_of b (front ++ write s m b e ∷ [])) k ≡ Some (record { session = s; number = m }) = ap (λ l. slice_get l k) (authors_push b front s m e) ∙ get_last (authors_of b front) (record { session = s; number = m }) k place in
    let grown : IsPrefix (front ++ write s m b e ∷ []) h = (x.rest, append_assoc front (write s m b e ∷ []) x.rest ∙ sym x.stands) in
    record { number = m; author = prefix_get (authors_of b (front ++ write s m b e ∷ [])) (authors_of b h) k (record { session = s; number = m }) (authors_grow b (front ++ write s m b e ∷ []) h grown) at }

-- its place is beyond what the part has
pub after_beyond : (a : List Item) (i : Item) (b k n : ℕ) (h : List Item) → IsAfter a i b k h → n < length (log_of b a) → n < k
after_beyond a i b k n h x lt =
    let grown : IsPrefix a (a ++ x.between) = (x.between, refl) in
    omega (arith, lt, x.place, prefix_length (log_of b a) (log_of b (a ++ x.between)) (log_grows b a (a ++ x.between) grown))

-- ---- the session afterwards
pub caller_later : {counted : ℕ} → (p : Layout) (c : Caller) (m : ℕ) (t : Bool) (h : List Item) (v : List Snapshot) → IsCaller p c → IsPrefix c.seen h → IsCaller p (record { session = c.session; number = m; answered = counted; stolen = t; seen = h; accepted = c.accepted; floors = c.floors; shown = v })
caller_later p c m t h v x grown = record {
  width = x.width;
  own = λ b k is. wrote_later c.seen h c.session b k grown (x.own b k is);
  floors = λ i j lv lj. at_most_trans (floor_at c.floors i j) (whole_cut p c.seen) (whole_cut p h) (x.floors i j lv lj) (whole_later p c.seen h grown);
}

pub caller_taken : {counted : ℕ} → (p : Layout) (c : Caller) (m b k : ℕ) (e : Change) (h : List Item) → IsCaller p c → b < base_count p → IsAfter c.seen (write c.session c.number b e) b k h
    → IsCaller p (record { session = c.session; number = m; answered = counted; stolen = c.stolen; seen = h; accepted = slice_set c.accepted b (Some k); floors = c.floors; shown = c.shown })
caller_taken p c m b k e h x lt after =
    let grown = after_grows c.seen (write c.session c.number b e) b k h after in
    let later = caller_later {counted = 0} p c m c.stolen h c.shown x grown in
    record {
      width = length-set c.accepted b (Some k) ∙ x.width;
      own = λ d i is. step d i is (eqb_tells d b);
      floors = later.floors;
    }
  where
    step : (d i : ℕ) → accepted_at (slice_set c.accepted b (Some k)) d ≡ Some i → (((d == b) ≡ true) × (d ≡ b)) ⊎ (((d == b) ≡ false) × (d ≢ b)) → IsWrote h c.session d i
    step d i is (inl t) =
        let new : accepted_at (slice_set c.accepted b (Some k)) d ≡ Some k = get_or-set_at c.accepted b d (Some k) None t.1 (omega (arith, lt, x.width)) in
        let same : k ≡ i = cc (is, new) in
        subst (λ (n : ℕ). IsWrote h c.session d n) same (subst (λ (n : ℕ). IsWrote h c.session n k) (sym t.1) (after_wrote c.seen c.session c.number b k e h after))
    step d i is (inr f) =
        let grown = after_grows c.seen (write c.session c.number b e) b k h after in
        wrote_later c.seen h c.session d i grown (x.own d i (sym (get_or-set_other c.accepted b d (Some k) None f.1) ∙ is))

pub taken : (p : Layout) (c : Caller) (b k : ℕ) (e : Change) (h : List Item) → IsCaller p c → IsAfter c.seen (write c.session c.number b e) b k h
    → IsTaken c (record { session = c.session; number = c.number + 1; answered = c.answered; stolen = c.stolen; seen = h; accepted = slice_set c.accepted b (Some k); floors = c.floors; shown = c.shown }) b e k
taken p c b k e h x after = record {
  item = after;
  greatest = λ i is. after_beyond c.seen (write c.session c.number b e) b k i h after (wrote_within c.seen c.session b i (x.own b i is));
  after = refl;
}

pub answer_grows : (p : Layout) (seen : List Item) (s m b : ℕ) (e : Change) (r : Refused) (now : List Item) → IsAnswer p seen s m b e r now → IsPrefix seen now
answer_grows p seen s m b e r now (inl x) = subst (λ (h : List Item). IsPrefix seen h) (sym x.1) (prefix_self seen)
answer_grows p seen s m b e r now (inr x) = x.grown

pub untaken_write : (p : Layout) (old new : Caller) (name : List ℕ) (e : Change) (t b : ℕ) (r : Refused) → stolen_refusal old ≡ None → write_refusal p (table_named p name) e ≡ None → table_named p name ≡ Some t → b ≡ base_for p t e → IsUntaken p old new b e r → Declines p old new name e r
untaken_write p old new name e t b r fresh free named is x =
    let none : call_refusal p old name e ≡ None = ap (λ o. first_of o (write_refusal p (table_named p name) e)) fresh ∙ free in
    untaken none t named (subst (λ (n : ℕ). IsUntaken p old new n e r) is x)

none_at : (n b : ℕ) → accepted_at (replicate n None) b ≡ None
none_at zero b = refl
none_at (suc n) zero = refl
none_at (suc n) (suc b) = none_at n b

-- a session that has made no call
pub caller_new : {counted : ℕ} → (p : Layout) (s : ℕ) (h : List Item) (accepted : List (Option ℕ)) (floors : Floors) (shown : List Snapshot) → accepted ≡ replicate (base_count p) None → ((v j : ℕ) → floor_at floors v j ≡ []) → IsCaller p (record { session = s; number = 0; answered = counted; stolen = false; seen = h; accepted = accepted; floors = floors; shown = shown })
caller_new p s h accepted floors shown is zeros = record {
  width = ap length is ∙ length-replicate (base_count p) None;
  own = λ b k at. absurd (cc (sym (none_at (base_count p) b) ∙ (ap (λ l. accepted_at l b) (sym is) ∙ at)));
  floors = λ v j lv lj. subst (λ (d : Lengths). IsAtMost d (whole_cut p h)) (sym (zeros v j)) (at_most_none (whole_cut p h));
}
