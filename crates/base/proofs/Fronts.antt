-- What an entry does to rows in order, and at a front.
use Rattle.std.proofs.Common.{◌≡◌, ℕ, ◌+◌, not, cond, List, [], ◌∷◌, ◌++◌, length, length-append, refl, ap, sym, ◌∙◌, arith}
use Rattle.row.specs.Cells.{Cells, cell_at, has, row_cmp}
use Rattle.row.specs.CellOrder.{row_total, row_same}
use Rattle.row.specs.Bags.{sorted, IsAlike}
use Rattle.row.proofs.BagLemmas.{times-append}
use Rattle.row.proofs.Alike.{filter_alike, sorted_alike}
use Rattle.model.specs.Logs.{Change, inserts, deletes, updates, changed, rows_of}
use Rattle.model.specs.Refusals.{refusal, refusal_over}
use Rattle.model.proofs.LogLaws.{rows_of-push}
use Rattle.base.specs.Shards.{Shard, IsAt}
use Rattle.base.proofs.Orders.{any_sorted, sorted_self, map_alike}

-- one bag before, one bag after
pub changed_alike : (key : ℕ) (e : Change) (xs ys : List Cells) → IsAlike row_cmp xs ys → IsAlike row_cmp (changed key xs e) (changed key ys e)
changed_alike key (inserts r) xs ys h = record { each = λ z. omega (arith, times-append row_cmp z xs (r ∷ []), times-append row_cmp z ys (r ∷ []), h.each z) }
changed_alike key (deletes k) xs ys h = filter_alike row_cmp row_total row_same (λ x. not (has key k x)) xs ys h
changed_alike key (updates r) xs ys h = map_alike row_cmp row_total row_same (λ x. cond (has key (cell_at r key) x) r x) xs ys h

-- an entry may be applied before the rows are put in order or after it
pub changed_sorted : (key : ℕ) (e : Change) (rows : List Cells) → sorted row_cmp (changed key (sorted row_cmp rows) e) ≡ sorted row_cmp (changed key rows e)
changed_sorted key e rows = sorted_alike row_cmp row_total row_same _ _ (changed_alike key e (sorted row_cmp rows) rows (sorted_self row_cmp rows))

-- the order of the rows decides nothing of a refusal
pub refusal_sorted : (key limit length : ℕ) (e : Change) (rows : List Cells) → refusal_over key limit (sorted row_cmp rows) length e ≡ refusal_over key limit rows length e
refusal_sorted key limit length (inserts r) rows = rw (any_sorted row_cmp (has key (cell_at r key)) rows) refl
refusal_sorted key limit length (deletes k) rows = rw (any_sorted row_cmp (has key k) rows) refl
refusal_sorted key limit length (updates r) rows = rw (any_sorted row_cmp (has key (cell_at r key)) rows) refl

-- what is refused over the rows of a shard is refused at its front
pub refusal_at : (s : Shard) (front : List Change) (e : Change) → IsAt s front → refusal_over s.key s.limit s.rows s.length e ≡ refusal s.key s.limit front e
refusal_at s front e at = rw (at.rows, at.counts) (refusal_sorted s.key s.limit (length front) e (rows_of s.key front))

-- an entry takes a shard from a front to the longer one
pub at_next : (old new : Shard) (front : List Change) (e : Change) → new.key ≡ old.key → new.length ≡ old.length + 1 → new.rows ≡ sorted row_cmp (changed old.key old.rows e) → IsAt old front → IsAt new (front ++ e ∷ [])
at_next old new front e key count rows at = record {
  rows = rows ∙ (ap (λ t. sorted row_cmp (changed old.key t e)) at.rows
      ∙ (changed_sorted old.key e (rows_of old.key front)
      ∙ (ap (sorted row_cmp) (sym (rows_of-push old.key front e)) ∙ ap (λ k. sorted row_cmp (rows_of k (front ++ e ∷ []))) (sym key))));
  counts = omega (arith, length-append front (e ∷ []), at.counts, count);
}

-- shards of one content refuse the same
pub same_refusal : (a b : Shard) (e f : Change) → a.key ≡ b.key → a.limit ≡ b.limit → a.rows ≡ b.rows → a.length ≡ b.length → e ≡ f → refusal_over a.key a.limit a.rows a.length e ≡ refusal_over b.key b.limit b.rows b.length f
same_refusal a b e f key most rows len is = cc
