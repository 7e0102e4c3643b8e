-- View shards are of views of the plan.
use Rattle.std.proofs.Common.{◌≡◌, ℕ, zero, suc, ◌<◌, List, [], ◌∷◌, map, length, Some, slice_get, slice_index_or, ap, sym, ◌∙◌, arith}
use Rattle.plan.specs.Layouts.{Layout}
use Rattle.packet.specs.Readers.{Reader, readers}
use Rattle.packet.specs.declared.reader.Reader.{Reader as Code}
use Rattle.protocol.proofs.Lists.{each_at, map_get}
use Rattle.schedule.specs.Codes.{reader_in}
use Rattle.view_domain.proofs.Readers.{readers_there}

pub reader_at : (p : Layout) (xs : List Code) (i : ℕ) (x : Code) → map reader_in xs ≡ readers p → slice_get xs i ≡ Some x → slice_get (readers p) i ≡ Some (reader_in x)
reader_at p xs i x are at = ap (λ rs. slice_get rs i) (sym are) ∙ map_get reader_in xs i x at

pub reader_there : (p : Layout) (xs : List Code) (i : ℕ) (x : Code) → map reader_in xs ≡ readers p → slice_get xs i ≡ Some x → x.view < length p.views
reader_there p xs i x are at = each_at (λ (r : Reader). r.view < length p.views) (readers p) i (reader_in x) (reader_at p xs i x are at) (readers_there p)

pub stands : {X : Type 0} (xs : List X) (i : ℕ) (x : X) → i < length xs → x ≡ slice_index_or xs i x → slice_get xs i ≡ Some x
stands [] i x lt is = absurd (omega (arith, lt))
stands (y ∷ xs) zero x lt is = ap Some (sym is)
stands (y ∷ xs) (suc i) x lt is = stands xs i x (omega (arith, lt)) is
