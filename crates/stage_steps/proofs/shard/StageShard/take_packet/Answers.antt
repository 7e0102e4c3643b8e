use Rattle.std.proofs.Common.{◌≡◌, false, Option, Some, None, refl, ap, sym, ◌∙◌}
use Rattle.std.specs.Option.{is_some, option_map}
use Rattle.std.proofs.lemmas.Result.{on_ok_weaker}
use Rattle.packet.specs.Codes.{mark_in, mark_of}
use Rattle.stage_steps.proofs.Joined.{put_other}
use Rattle.stage_steps.proofs.shard.StageShard.take_packet.Goals as goal

none_mapped : {A B : Type 0} (f : A → B) (o : Option A) → is_some o ≡ false → is_some (option_map f o) ≡ false
none_mapped f None e = refl
none_mapped f (Some a) e = cc

pub returns-in-Some-clause-done : goal.returns-in-Some-clause-done
returns-in-Some-clause-done g c d put =
    let same = sym c.marker.ensures ∙ ap mark_in c.in-Some.is in
    let none = none_mapped _ c.piece.result (sym c.is_some.ensures ∙ c.if-is_some.false) in
    on_ok_weaker c.take_marker.result
    (λ done. put_other d c.args.source c.args.packet c.take_marker.new.out c.take_marker.new.self _ (Some (mark_of c.in-Some.marker)) c.piece.ensures none same done) (c.take_marker.ensures.done d put)
