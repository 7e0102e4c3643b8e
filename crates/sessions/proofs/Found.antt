-- What one look finds, and the sessions that a call leaves so.
use Rattle.std.proofs.Common.{◌≡◌, ◌⊎◌, ℕ, zero, suc, ◌<◌, Bool, IsFalse, IsTrue as IsYes, List, [], ◌∷◌, map, length, get_or, slice_get, slice_set, position, Option, Some, None, Result, Ok, Err, IfOk, IfErr, IfSome, IfNone, OnOk, refl, ap, sym, ◌∙◌, subst, arith, inl, inr}
use Rattle.std.proofs.lemmas.List.{length-map}
use Rattle.row.specs.Cells.{Cells, Datum, datum_of}
use Rattle.row.specs.declared.refused.Refused.{Refused}
use Rattle.row.specs.declared.refused.Refused.TheVariants.{NoMemory, Stopped, Busy, Behind}
use Rattle.row.specs.declared.value.Value.{Value}
use Rattle.plan.specs.Layouts.{Layout, view_at}
use Rattle.model.specs.Histories.{view_shard}
use Rattle.model.specs.Queries.{answer}
use Rattle.model.proofs.Prefixes.{prefix_self}
use Rattle.book.specs.Sessions.{CutView, fronts}
use Rattle.packet.specs.Readers.{Reader, is_reader, readers}
use Rattle.packet.specs.declared.reader.Reader.{Reader as Code}
use Rattle.schedule.specs.Codes.{reader_in}
use Rattle.protocol.proofs.Spots.{is_found, reader_passes, reader_in as reader_is_in}
use Rattle.shown.specs.Looks.{IsHit}
use Rattle.shown.specs.Snapshots.{Snapshot, IsLater, IsTrue, shown_at}
use Rattle.sessions.specs.Callers.{Caller, AreLater, IsSight, reader_of}
use Rattle.sessions.specs.Reads.{HasLooked, IsHidden, IsUnanswered, IsUndone, IsUnread}
use Rattle.sessions.specs.Fences.{IsUnfenced}
use Rattle.sessions.specs.Sights.{Finds, FindsOver, IsCutAt}
use Rattle.sessions.proofs.Later.{all_readers, all_self, all_set, reader_same, sight_of, sight_within}
use Rattle.sessions.proofs.Looks.{looked_again, looked_undone}
use Rattle.protocol.proofs.Lists.{set_at}

-- ---- places
pub got_at : {X : Type 0} (xs : List X) (i : ℕ) (x : X) → i < length xs → x ≡ get_or xs i x → slice_get xs i ≡ Some x
got_at [] i x lt e = absurd (omega (arith, lt))
got_at (y ∷ xs) zero x lt e = ap Some (sym e)
got_at (y ∷ xs) (suc i) x lt e = got_at xs i x (omega (arith, lt)) e

got_code : (xs : List Code) (n : ℕ) (r : Reader) → slice_get (map reader_in xs) n ≡ Some r → (c : Code) × (slice_get xs n ≡ Some c) × (reader_in c ≡ r)
got_code [] n r at = cc
got_code (x ∷ xs) zero r at = (x, refl, cc)
got_code (x ∷ xs) (suc n) r at = got_code xs n r at

pub place_there : (p : Layout) (xs : List Code) (i j : ℕ) → map reader_in xs ≡ readers p → i < length p.views → j < (view_at p i).shards → (n : ℕ) × (position (λ r. is_reader i j (reader_in r)) xs ≡ Some n)
place_there p xs i j are lt lj =
    let r = reader_is_in p i j lt lj in
    let c = got_code xs r.0 (record { view = i; shard = j }) (ap (λ rs. slice_get rs r.0) are ∙ r.1) in
    is_found (λ r. is_reader i j (reader_in r)) xs r.0 c.0 c.1 (ap (is_reader i j) c.2 ∙ reader_passes i j)

pub not_none : (o : Option ℕ) (n : ℕ) → o ≡ None → o ≡ Some n → ⊥
not_none o n a b = cc (sym a ∙ b)

-- ---- one look
-- what is looked at afterwards
pub record HasLookedAt (p : Layout) (shown : List Snapshot) (n v j : ℕ) (y : Snapshot) : Type 0 where
  pub later : AreLater shown (slice_set shown n y)
  pub shards : map reader_of (slice_set shown n y) ≡ readers p
  pub sight : IsSight (slice_set shown n y) v j y

module _ (p : Layout) (shown : List Snapshot) (n v j : ℕ) (x y : Snapshot) where
  pub look_later : slice_get shown n ≡ Some x → IsLater x y → AreLater shown (slice_set shown n y)
  look_later there later = all_set shown n x y there later

  pub look_are : map reader_of shown ≡ readers p → slice_get shown n ≡ Some x → IsLater x y → map reader_of (slice_set shown n y) ≡ readers p
  look_are are there later = all_readers shown (slice_set shown n y) (look_later there later) ∙ are

  pub look_sight : map reader_of shown ≡ readers p → slice_get (readers p) n ≡ Some (record { view = v; shard = j }) → slice_get shown n ≡ Some x → IsLater x y → IsSight (slice_set shown n y) v j y
  look_sight are at there later = record {
    place = n;
    there = set_at shown n y x there;
    of = reader_same x y later ∙ sight_of p shown are n v j x there at;
  }

  pub looked_at : map reader_of shown ≡ readers p → slice_get (readers p) n ≡ Some (record { view = v; shard = j }) → x ≡ get_or shown n x → IsLater x y → HasLookedAt p shown n v j y
  looked_at are at is later =
      let there = got_at shown n x (sight_within p shown are n _ at) is in
      record { later = look_later there later; shards = look_are are there later; sight = look_sight are at there later }

module _ (p : Layout) (shown : List Snapshot) (v : ℕ) (key : Value) (y : Snapshot) where
  truth_at : (rows : List Cells) → IsTrue p y → reader_of y ≡ record { view = v; shard = view_shard p v (datum_of key) } → shown_at y.rows (datum_of key) ≡ Some rows → rows ≡ answer p y.cut v (datum_of key)
  truth_at rows t of at =
      let ev : y.view ≡ v = ap (λ (r : Reader). r.view) of in
      let ej : y.shard ≡ view_shard p v (datum_of key) = ap (λ (r : Reader). r.shard) of in
      let e : view_shard p y.view (datum_of key) ≡ y.shard = ap (λ m. view_shard p m (datum_of key)) ev ∙ sym ej in
      subst (λ (o : Option (List Cells)). IfSome o (λ rs. rs ≡ answer p y.cut y.view (datum_of key))) at (t.rows key e) ∙ ap (λ m. answer p y.cut m (datum_of key)) ev

  pub finds : (r : Result Bool Refused) (rows : List Cells) (cut : Option CutView) → IsSight shown v (view_shard p v (datum_of key)) y → IfOk r (λ _. IsTrue p y)
      → IfOk r (λ hit. IsYes hit → IsHit p y (datum_of key) rows cut) → IfOk r (λ hit. IsYes hit → FindsOver p shown v (datum_of key) rows cut)
  finds (Ok hit) rows cut is t h = λ yes. let f = h yes in record { over = f.over; there = f.there; finds = record { sight = y; is = is; rows = f.rows; answers = truth_at rows t is.of f.rows; cut = f.lengths; fronts = f.fronts } }
  finds (Err e) rows cut is t h = tt

  pub hides : (r : Result Bool Refused) → IsSight shown v (view_shard p v (datum_of key)) y → IfOk r (λ hit. IsFalse hit → shown_at y.rows (datum_of key) ≡ None) → IfOk r (λ hit. IsFalse hit → IsHidden p shown v (datum_of key))
  hides (Ok hit) is h = λ no. record { sight = y; is = is; none = h no }
  hides (Err e) is h = tt

-- the cut that is there is that over which the key is shown
pub found_over : (p : Layout) (shown : List Snapshot) (v : ℕ) (k : Datum) (rs : List Cells) (o : Option CutView) (c : CutView) → FindsOver p shown v k rs o → o ≡ Some c → Finds p shown v k rs c
found_over p shown v k rs o c f is =
    let e : f.over ≡ c = cc (f.there, is) in
    subst (λ x. Finds p shown v k rs x) e f.finds

-- ---- the session as it was
pub same_looked : (c : Caller) → HasLooked c c
same_looked c = record { looked = all_self c.shown; after = refl }

undone : {p : Layout} (P : Refused → Type 0) (c : Caller) (e : Refused) → P e → IsUndone p P c c e
undone P c e m = record { after = refl; looked = all_self c.shown; number = inl refl; grown = prefix_self c.seen; why = inl (m, refl, refl) }

pub unread : {p : Layout} (c : Caller) (e : Refused) → e ≡ NoMemory → IsUnread p c c e
unread c e m = undone (λ e. e ≡ NoMemory) c e m

pub quiet : {p : Layout} (c : Caller) (e : Refused) → (e ≡ NoMemory) ⊎ (e ≡ Stopped) → IsUnanswered p c c e
quiet c e (inl m) = inl (unread c e m)
quiet c e (inr s) = inr (inl s, same_looked c)

pub looked_unanswered : (p : Layout) (old mid new : Caller) (e : Refused) → HasLooked old mid → IsUnanswered p mid new e → IsUnanswered p old new e
looked_unanswered p old mid new e x (inl u) = inl (looked_undone p old mid new x e u)
looked_unanswered p old mid new e x (inr r) = inr (r.0, looked_again p old mid new x r.1)

pub within : (p : Layout) (xs : List Code) (shown : List Snapshot) (n : ℕ) → map reader_in xs ≡ readers p → map reader_of shown ≡ readers p → n < length xs → n < length shown
within p xs shown n a b lt = omega (arith, lt, length-map xs reader_in, length-map shown reader_of, ap length a, ap length b)

pub busy : {p : Layout} (c : Caller) (e : Refused) → e ≡ Busy → IsUnanswered p c c e
busy c e b = inr (inr b, same_looked c)

pub err_to : {A : Type 0} (P Q : Refused → Type 0) (r : Result A Refused) → ((e : Refused) → P e → Q e) → IfErr r P → IfErr r Q
err_to P Q (Ok a) g h = tt
err_to P Q (Err e) g h = g e h

-- the cut of the snapshot at a place
pub cut_there : (p : Layout) (shown : List Snapshot) (n : ℕ) (x y : Snapshot) → slice_get shown n ≡ Some x → IsLater x y → (r : Result CutView Refused) → IfOk r (λ c. (c.lengths ≡ y.lengths) × (fronts p c ≡ y.cut)) → IfOk r (λ c. IsCutAt shown (slice_set shown n y) n c)
cut_there p shown n x y there later (Ok c) h = record { was = x; is = y; there = there; later = later; set = refl; cut = h.0 }
cut_there p shown n x y there later (Err e) h = tt

-- ---- fences
pub unfenced : {p : Layout} (c : Caller) (e : Refused) → e ≡ NoMemory → IsUnfenced p c c e
unfenced c e m = undone (λ r. (r ≡ NoMemory) ⊎ (r ≡ Stopped) ⊎ (r ≡ Behind)) c e (inl m)

pub unsent : (e : Refused) → (e ≡ NoMemory) ⊎ (e ≡ Stopped) → (e ≡ NoMemory) ⊎ (e ≡ Stopped) ⊎ (e ≡ Behind)
unsent e (inl a) = inl a
unsent e (inr a) = inr (inl a)

pub ok_to : {A : Type 0} (P Q : Type 0) (r : Result A Refused) → (P → Q) → OnOk r P → OnOk r Q
ok_to P Q (Ok a) g h = g h
ok_to P Q (Err e) g h = tt
