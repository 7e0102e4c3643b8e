use Rattle.std.proofs.Common.{◌∙◌}
use Rattle.view_domain.proofs.EvictSteps.{up_less, drops_less, evicted_less, asks_less}
use Rattle.view_domain.proofs.keys.evict_keys.Goals as goal

pub loop-key-preserved : goal.loop-key-preserved
loop-key-preserved c =
    let s = c.args.source in
    let mid = c.loop-key.kept in
    let new = c.evict_key.new.kept in
    let rest = c.loop-key.key-iterator.rest.items in
    let left = c.next.new.self.rest.items in
    let turn = c.in-Some.ensures.steps.0 in
    record {
      up = up_less s mid new rest left c.in-Some.key turn c.loop-key.invariant.up;
      sources = c.in_ok-evict_key.ensures.sources ∙ c.loop-key.invariant.sources;
      stands = drops_less s mid new rest left c.in-Some.key turn _ c.in_ok-evict_key.ensures.stands c.loop-key.invariant.stands;
      state = evicted_less s mid new rest left c.in-Some.key turn _ c.in_ok-evict_key.ensures.state c.loop-key.invariant.state;
      shown = λ first h. c.in_ok-evict_key.ensures.shown first (c.loop-key.invariant.shown first h);
      asks = asks_less s mid new rest left c.in-Some.key turn _ _ _ c.loop-key.invariant.up c.in_ok-evict_key.ensures.stands c.in_ok-evict_key.ensures.asks c.loop-key.invariant.asks;
    }
