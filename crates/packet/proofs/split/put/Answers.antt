use Rattle.std.proofs.Common.{◌≡◌, ◌∷◌, ◌++◌, [], length, sym, ◌∙◌, ap, refl, subst, ◌<◌}
use Rattle.std.specs.Option.{option_map}
use Rattle.row.specs.Cells.{shard}
use Rattle.row.specs.Packed.{datum_in}
use Rattle.packet.proofs.Splits.{put_there, part_is}
use Rattle.packet.proofs.split.put.Goals as goal

pub returns : goal.returns
returns c = λ rs before.
    let n = length c.args.parts.now.items in
    let part = c.shard_of-part.result in
    let there = sym c.get.ensures ∙ ap (option_map datum_in) c.in-Some.is in
    let n_is = c.len.ensures ∙ c.args.parts.now.ok.0 in
    let below = subst (λ k. part < k) n_is c.shard_of-part.ensures.below in
    let owns = subst (λ k. part ≡ shard (datum_in c.in-Some.cell) k) n_is (c.shard_of-part.ensures.shard ∙ ap (λ d. shard d c.len.result) c.value.ensures) in
    let was = part_is (λ w. w.items) c.args.parts.now.items c.args.column n part rs c.index_mut.result.now below refl before in
    put_there (λ w. w.items) c.args.parts.now.items c.args.column n part rs c.args.signed (datum_in c.in-Some.cell) c.push.new.self there owns below before
    (c.in_ok-push.ensures.items ∙ ap (λ l. l ++ c.args.signed ∷ []) (ap (λ w. w.items) c.index_mut.ensures.value ∙ was))
