use Rattle.std.proofs.Common.{[], map, take, refl, ap, sym, ◌∙◌, subst, arith}
use Rattle.std.proofs.lemmas.List.{take_all}
use Rattle.row.specs.Cells.{datum_of}
use Rattle.protocol.specs.Stages.{Done}
use Rattle.protocol.specs.StageSteps.{asks, quiet}
use Rattle.stage_sides.specs.Held.{Held}
use Rattle.stage_steps.specs.Outboxes.{AreEdges}
use Rattle.stage_steps.specs.Shards.{IsPut, Shard}
use Rattle.stage_steps.proofs.Begins.{asks_next, no_keys_asked, some_more}
use Rattle.stage_steps.proofs.Puts.{after, put_quiet}
use Rattle.stage_steps.proofs.shard.StageShard.ask_for.Goals as goal

pub loop-key-init : goal.loop-key-init
loop-key-init g c = record {
  whole = c.requires.whole;
  edges = c.requires.edges;
  others = refl;
  lefts = refl;
  put = λ d put. put_quiet d (asks d.stage []) c.args.out.now c.args.self.now c.args.self.now put c.requires.edges refl refl (no_keys_asked d.stage ∙ ap quiet (sym put.stage));
}

pub loop-key-preserved : goal.loop-key-preserved
loop-key-preserved g c =
    let i = c.loop-key.invariant in
    let e = c.in_ok-ask_one.ensures in
    let plan = ap (λ (x : Shard). x.plan) i.others in
    record {
      whole = e.whole;
      edges = subst (λ p. AreEdges p c.ask_one.new.out) plan c.ask_one.ensures.edges;
      others = c.ask_one.ensures.others ∙ ap (λ (x : Shard). record x { rows = c.ask_one.new.self.rows }) i.others;
      lefts = c.ask_one.ensures.lefts ∙ ap (λ (rows : Held). record rows { right = c.ask_one.new.self.rows.right }) i.lefts;
      put = λ d put.
          let xs = map datum_of (take c.loop-key.key-index c.args.keys.now) in
          let one = e.done (after d (asks d.stage xs)) (i.put d put) in
          subst (λ ys. IsPut (after d (asks d.stage ys)) c.ask_one.new.out c.ask_one.new.self) (sym (some_more c.args.keys.now c.loop-key.key-index c.key-item.result c.loop-key-test.true c.key-item.is))
          (subst (λ (d : Done). IsPut d c.ask_one.new.out c.ask_one.new.self) (asks_next d xs (datum_of c.key-item.result)) one);
    }

pub returns-clause-done : goal.returns-clause-done
returns-clause-done g c d put =
    subst (λ ks. IsPut (after d (asks d.stage (map datum_of ks))) c.loop-key.out c.loop-key.self) (take_all c.loop-key.key-index c.args.keys.now (omega (arith, c.loop-key-test.false, c.loop-key.auto.key-index-end))) (c.loop-key.invariant.put d put)
