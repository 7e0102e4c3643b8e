-- The packets of an accepted entry.
use Rattle.std.proofs.Common.{◌≡◌, ℕ, zero, suc, ◌+◌, ◌<◌, List, [], ◌∷◌, ◌++◌, map, length, Option, Some, None, refl, ap, sym, ◌∙◌, subst, arith}
use Rattle.std.specs.List.{range_with_len}
use Rattle.std.specs.Option.{option_map}
use Rattle.std.proofs.lemmas.List.FromFn.{length-map-range_with_len, get_or-map-range_with_len}
use Rattle.row.specs.Changes.{Turns}
use Rattle.row.specs.declared.record.Record.{Record}
use Rattle.plan.specs.Layouts.{SideLayout}
use Rattle.model.specs.Logs.{Change, rows_of}
use Rattle.model.specs.Places.{layout_of}
use Rattle.model.specs.Fronts.{LogView}
use Rattle.base.specs.Records.{records_of}
use Rattle.packet.specs.Messages.{none_of}
use Rattle.packet.specs.Readers.{side_of}
use Rattle.packet.specs.Codes.{packet_of}
use Rattle.packet.specs.Split.{parts_by}
use Rattle.packet.specs.Truth.{IsTrueBase, records_for}
use Rattle.protocol.specs.Bases.{Base}
use Rattle.protocol.specs.BaseSteps.{entry_packet, to_stages}
use Rattle.base_domain.specs.Told.{part_packet, told}
use Rattle.base_domain.proofs.Sent.{entry_true, entry_is}

same_range : {X : Type 0} (f g : ℕ → X) (a n : ℕ) → ((j : ℕ) → j < a + n → f j ≡ g j) → map f (range_with_len a n) ≡ map g (range_with_len a n)
same_range f g a zero h = refl
same_range f g a (suc n) h = rw (h a (omega arith), same_range f g (a + 1) n (λ j lt. h j (omega (arith, lt)))) refl

-- the records are split where there is a side
pub split_by : (so : Option SideLayout) (recs : List Record) (n : ℕ) (v : List (List Record)) → Some v ≡ option_map (λ (side : SideLayout). parts_by side.key n recs) so → (side : SideLayout) × (so ≡ Some side) × (v ≡ parts_by side.key n recs)
split_by None recs n v is = absurd cc
split_by (Some side) recs n v is = let same : v ≡ parts_by side.key n recs = cc in (side, refl, same)

pub split_count : (column n : ℕ) (recs : List Record) (parts : List (List Record)) → parts ≡ parts_by column n recs → length parts ≡ n
split_count column n recs parts is = ap length is ∙ length-map-range_with_len (λ j. records_for column n j recs) 0 n

-- an entry e of base shard b, at the front to, with its records
module _ (b : Base) (e : Change) (to : LogView) (from n : ℕ) (recs : List Record) where
  abbrev pub key : ℕ
  key = (layout_of b.plan b.base).key

  pub record IsNextOf : Type 0 where
    pub plan : to.plan ≡ b.plan
    pub base : to.base ≡ b.base
    pub entries : to.entries ≡ b.entries ++ e ∷ []
    pub starts : from ≡ length b.entries
    pub stages : n ≡ b.plan.stages
    pub records : recs ≡ records_of key (rows_of key b.entries) e

  pub part_entry : IsNextOf → (side : SideLayout) (j : ℕ) → j < n → part_packet to from (parts_by side.key n recs) j ≡ entry_packet b e side j
  part_entry h side j lt =
      ap (λ rs. packet_of j from to rs None None) (get_or-map-range_with_len (λ i. records_for side.key n i recs) 0 n j j [] lt (omega arith)
      ∙ (ap (λ k. records_for side.key k j recs) h.stages ∙ ap (records_for side.key b.plan.stages j) h.records))
      ∙ entry_is b e side j from to h.plan h.base h.entries h.starts

  pub part_is_true : IsNextOf → (side : SideLayout) (parts : List (List Record)) (j : ℕ) → j < n → parts ≡ parts_by side.key n recs → side_of b.plan b.base ≡ Some side
      → Turns (rows_of key b.entries) (records_of key (rows_of key b.entries) e) (rows_of key (b.entries ++ e ∷ [])) → IsTrueBase (part_packet to from parts j)
  part_is_true h side parts j lt is of turns = subst IsTrueBase (sym (ap (λ ps. part_packet to from ps j) is ∙ part_entry h side j lt)) (entry_true b e side j of turns)

  pub told_entry : n ≡ b.plan.stages → (so : Option SideLayout) → ((side : SideLayout) → so ≡ Some side → IsNextOf) → told to from (option_map (λ (side : SideLayout). parts_by side.key n recs) so) n ≡ to_stages b.plan so (entry_packet b e)
  told_entry count None h = ap (λ k. none_of (range_with_len 0 k)) count
  told_entry count (Some side) h = same_range (λ j. part_packet to from (parts_by side.key n recs) j ∷ []) (λ j. entry_packet b e side j ∷ []) 0 n (λ j lt. ap (λ x. x ∷ []) (part_entry (h side refl) side j (omega (arith, lt)))) ∙ ap (λ k. map (λ j. entry_packet b e side j ∷ []) (range_with_len 0 k)) count
