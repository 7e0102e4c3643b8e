use Rattle.std.proofs.Common.{◌≡◌, ◌∙◌, sym, subst}
use Rattle.row.specs.Bags.{Each}
use Rattle.packet.proofs.GroupChanges.{next_fits, walk_goes, walk_starts}
use Rattle.right_rows.proofs.Taken.{OwnGroup, all_owned, one_taken}
use Rattle.right_rows.proofs.pieces.change_groups.Goals as goal

pub loop-key-init : goal.loop-key-init
loop-key-init c =
    let e : c.args.groups ≡ c.into_iter-key-iterator.result = sym (c.into_iter-key-iterator.ensures.into_iter_gives ∙ c.into_iter-key-items.ensures.rest) in
    record {
      walked = walk_starts c.args.source c.args.kept.now c.args.groups _ e c.into_iter-key-items.ensures.distinct c.requires;
      owned = λ column aggregate own. all_owned column aggregate c.args.groups _ e c.into_iter-key-items.ensures.distinct own;
      keyed = λ column aggregate own keyed. keyed;
    }

pub apply_at-requires : goal.apply_at-requires
apply_at-requires c = next_fits c.args.source c.args.kept.now c.args.groups c.loop-key.kept c.in-Some.key c.in-Some.records _ c.next.new.self c.in-Some.ensures.steps c.loop-key.invariant.walked

pub loop-key-preserved : goal.loop-key-preserved
loop-key-preserved c =
    let e = c.apply_at.ensures in
    record {
      walked = walk_goes c.args.source c.args.kept.now c.args.groups c.loop-key.kept c.in-Some.key c.in-Some.records _ c.next.new.self c.in-Some.ensures.steps c.loop-key.invariant.walked c.apply_at.new.kept e.others e.sources e.stands c.in_ok-apply_at.ensures.state;
      owned = λ column aggregate own. (subst (Each (OwnGroup column aggregate)) c.in-Some.ensures.steps (c.loop-key.invariant.owned column aggregate own)).1;
      keyed = λ column aggregate own keyed. one_taken column aggregate c.args.source c.in-Some.records c.loop-key.kept c.apply_at.new.kept c.in-Some.key c.apply_at.result e.others e.state e.err
          (subst (Each (OwnGroup column aggregate)) c.in-Some.ensures.steps (c.loop-key.invariant.owned column aggregate own)).0 (c.loop-key.invariant.keyed column aggregate own keyed);
    }
