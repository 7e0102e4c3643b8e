-- Cells of a table's row are what values of the program are.
use Rattle.std.proofs.Common.{◌≡◌, ℕ, zero, suc, ◌<◌, ◌≤◌, true, List, [], ◌∷◌, length, refl, arith}
use Rattle.std.specs.Prelude.{nat_le}
use Rattle.std.specs.Global.{Global}
use Rattle.std.specs.List.{list_all}
use Rattle.std.specs.Str.{IsAscii}
use Rattle.std.proofs.lemmas.Str.{IsUtf8-from_ascii}
use Rattle.std.proofs.lemmas.Bool.Decides.{nat_tests}
use denote.RawPtr.Ptr.{null_ptr}
use Rattle.row.specs.Cells.{Datum, int, text}
use Rattle.row.specs.declared.value.Value.TheVariants as code
use Rattle.plan.proofs.Both.{and_left, and_right}
use Rattle.plan.specs.Kinds.{is_cell, is_plain, is_printed}
use Rattle.plan.specs.declared.kinds.Kind.{Kind}
use Rattle.plan.specs.declared.kinds.Kind.TheVariants as kind
use Rattle.stage_sides.specs.Sides.{IsNamed}

printed_small : (b : ℕ) → is_printed b ≡ true → b < 128
printed_small b h = let r : nat_le b 126 ≡ true = and_right (nat_le 32 b) (nat_le b 126) h in grind (arith, nat_tests)

printed_ascii : (bytes : List ℕ) → list_all is_printed bytes ≡ true → IsAscii bytes
printed_ascii [] h i = omega arith
printed_ascii (b ∷ bs) h zero = printed_small b (and_left (is_printed b) (list_all is_printed bs) h)
printed_ascii (b ∷ bs) h (suc i) = printed_ascii bs (and_right (is_printed b) (list_all is_printed bs) h) i

plain_short : (bytes : List ℕ) → is_plain bytes ≡ true → length bytes ≤ 255
plain_short bytes h = let r : nat_le (length bytes) 255 ≡ true = and_left (nat_le (length bytes) 255) (list_all is_printed bytes) h in grind (arith, nat_tests)

module _ (alloc : Global) where
  pub cell_named : (k : Kind) (d : Datum) → is_cell k d ≡ true → IsNamed d
  cell_named k (int n) h = record { value = code.Int n; is = refl }
  cell_named kind.Int (text bytes) h = absurd cc
  cell_named kind.Text (text bytes) h =
      let u = IsUtf8-from_ascii bytes (printed_ascii bytes (and_right (nat_le (length bytes) 255) (list_all is_printed bytes) h)) in
      record {
        value = code.Text (record { text = record { ptr = null_ptr; value = record { bytes = record { ptr = null_ptr; len = length bytes; cap = length bytes; alloc = alloc; items = bytes; ok = (refl, omega arith); small = let s = plain_short bytes h in omega (arith, s) }; ok = ∣ u ∣₁ } } });
        is = refl;
      }
