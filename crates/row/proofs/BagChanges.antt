-- A bag after records: how often each row is there, and that the rows are in order.
use Rattle.std.proofs.Common.{◌≡◌, ◌+◌, ◌<◌, List, [], ◌∷◌, refl, arith}
use Rattle.row.specs.Cells.{Cells, row_cmp}
use Rattle.row.specs.CellOrder.{row_total, row_same}
use Rattle.row.specs.Bags.{one, times, IsAscending}
use Rattle.row.specs.BagChanges.{plus_applied, minus_applied, with_gains, with_losses, with_records, LossesFit}
use Rattle.row.specs.Changes.{if_plus, if_minus, gains, losses, IsCovered}
use Rattle.row.specs.declared.record.Record.{Record}
use Rattle.row.specs.declared.record.Sign.{Sign}
use Rattle.row.specs.declared.record.Sign.TheVariants.{Plus, Minus}
use Rattle.row.proofs.BagLemmas.{times-inserted, times-removed, IsAscending-inserted, IsAscending-removed, one_itself}

times-plus_applied : (z : Cells) (s : Sign) (row : Cells) (rows : List Cells) → times row_cmp z (plus_applied s row rows) ≡ times row_cmp z rows + if_plus s (one row_cmp z row)
times-plus_applied z Plus row rows = omega (arith, times-inserted row_cmp z row rows)
times-plus_applied z Minus row rows = omega arith

pub times-with_gains : (z : Cells) (rows : List Cells) (rs : List Record) → times row_cmp z (with_gains rows rs) ≡ times row_cmp z rows + gains z rs
times-with_gains z rows [] = omega arith
times-with_gains z rows (r ∷ rs) = omega (arith, times-plus_applied z r.sign r.row rows, times-with_gains z (plus_applied r.sign r.row rows) rs)

-- the first of the losses is there
pub first_there : (s : Sign) (row : Cells) (rows : List Cells) (rs : List Record) → s ≡ Minus → LossesFit rows (record { row = row; sign = s } ∷ rs) → 0 < times row_cmp row rows
first_there Plus row rows rs h fit = cc
first_there Minus row rows rs h fit = omega (arith, fit.enough row, one_itself row_cmp row_total row)

times-minus_applied : (z : Cells) (s : Sign) (row : Cells) (rows : List Cells) (rs : List Record) → LossesFit rows (record { row = row; sign = s } ∷ rs)
    → times row_cmp z (minus_applied s row rows) + if_minus s (one row_cmp z row) ≡ times row_cmp z rows
times-minus_applied z Plus row rows rs fit = omega arith
times-minus_applied z Minus row rows rs fit = omega (arith, times-removed row_cmp row_total row_same z row rows (first_there Minus row rows rs refl fit))

pub LossesFit-rest : (r : Record) (rows : List Cells) (rs : List Record) → LossesFit rows (r ∷ rs) → LossesFit (minus_applied r.sign r.row rows) rs
LossesFit-rest r rows rs fit = record { enough = λ z. omega (arith, fit.enough z, times-minus_applied z r.sign r.row rows rs fit) }

pub times-with_losses : (z : Cells) (rows : List Cells) (rs : List Record) → LossesFit rows rs → times row_cmp z (with_losses rows rs) + losses z rs ≡ times row_cmp z rows
times-with_losses z rows [] fit = omega arith
times-with_losses z rows (r ∷ rs) fit =
    omega (arith, times-minus_applied z r.sign r.row rows rs fit, times-with_losses z (minus_applied r.sign r.row rows) rs (LossesFit-rest r rows rs fit))

pub LossesFit-with_gains : (rows : List Cells) (rs : List Record) → IsCovered rows rs → LossesFit (with_gains rows rs) rs
LossesFit-with_gains rows rs fit = record { enough = λ z. omega (arith, fit.enough z, times-with_gains z rows rs) }

-- changes, by counts
pub times-with_records : (z : Cells) (rows : List Cells) (rs : List Record) → IsCovered rows rs
    → times row_cmp z (with_records rows rs) + losses z rs ≡ times row_cmp z rows + gains z rs
times-with_records z rows rs fit = omega (arith, times-with_gains z rows rs, times-with_losses z (with_gains rows rs) rs (LossesFit-with_gains rows rs fit))

pub IsAscending-plus : (s : Sign) (row : Cells) (rows : List Cells) → IsAscending row_cmp rows → IsAscending row_cmp (plus_applied s row rows)
IsAscending-plus Plus row rows h = IsAscending-inserted row_cmp row_total row rows h
IsAscending-plus Minus row rows h = h

IsAscending-minus : (s : Sign) (row : Cells) (rows : List Cells) → IsAscending row_cmp rows → IsAscending row_cmp (minus_applied s row rows)
IsAscending-minus Plus row rows h = h
IsAscending-minus Minus row rows h = IsAscending-removed row_cmp row rows h

IsAscending-with_gains : (rows : List Cells) (rs : List Record) → IsAscending row_cmp rows → IsAscending row_cmp (with_gains rows rs)
IsAscending-with_gains rows [] h = h
IsAscending-with_gains rows (r ∷ rs) h = IsAscending-with_gains (plus_applied r.sign r.row rows) rs (IsAscending-plus r.sign r.row rows h)

IsAscending-with_losses : (rows : List Cells) (rs : List Record) → IsAscending row_cmp rows → IsAscending row_cmp (with_losses rows rs)
IsAscending-with_losses rows [] h = h
IsAscending-with_losses rows (r ∷ rs) h = IsAscending-with_losses (minus_applied r.sign r.row rows) rs (IsAscending-minus r.sign r.row rows h)

pub IsAscending-with_records : (rows : List Cells) (rs : List Record) → IsAscending row_cmp rows → IsAscending row_cmp (with_records rows rs)
IsAscending-with_records rows rs h = IsAscending-with_losses (with_gains rows rs) rs (IsAscending-with_gains rows rs h)
