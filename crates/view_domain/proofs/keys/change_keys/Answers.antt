use Rattle.std.proofs.Common.{◌≡◌, ◌∙◌, sym}
use Rattle.packet.proofs.GroupChanges.{next_fits, walk_goes, walk_starts}
use Rattle.view_domain.proofs.keys.change_keys.Goals as goal

pub loop-key-init : goal.loop-key-init
loop-key-init c =
    let e : c.args.groups ≡ c.into_iter-key-iterator.result = sym (c.into_iter-key-iterator.ensures.into_iter_gives ∙ c.into_iter-key-items.ensures.rest) in
    record {
      walked = walk_starts c.args.source c.args.kept.now c.args.groups _ e c.into_iter-key-items.ensures.distinct c.requires;
      shown = λ first h. h;
    }

pub change_key-requires : goal.change_key-requires
change_key-requires c = next_fits c.args.source c.args.kept.now c.args.groups c.loop-key.kept c.in-Some.key c.in-Some.records _ c.next.new.self c.in-Some.ensures.steps c.loop-key.invariant.walked

pub loop-key-preserved : goal.loop-key-preserved
loop-key-preserved c =
    let e = c.in_ok-change_key.ensures in
    record {
      walked = walk_goes c.args.source c.args.kept.now c.args.groups c.loop-key.kept c.in-Some.key c.in-Some.records _ c.next.new.self c.in-Some.ensures.steps c.loop-key.invariant.walked c.change_key.new.kept e.others e.sources e.stands e.state;
      shown = λ first h. e.shown first (c.loop-key.invariant.shown first h);
    }
