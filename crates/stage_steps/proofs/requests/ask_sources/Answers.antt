use Rattle.std.proofs.Common.{◌≡◌, ◌<◌, ◌≤◌, length, map, ◌∙◌, refl, arith, subst}
use Rattle.std.specs.List.{range_with_len}
use Rattle.row.specs.Cells.{datum_of}
use Rattle.model.specs.Places.{side_count, sources}
use Rattle.packet.specs.Outboxes.{packets_on}
use Rattle.protocol.specs.StageSteps.{append_each}
use Rattle.stage_steps.proofs.Asks.{asked_of, lefts_asked, asked_more, lefts_small, lefts_are, request_is}
use Rattle.stage_steps.proofs.requests.ask_sources.Goals as goal

pub loop-source-init : goal.loop-source-init
loop-source-init g c =
    let p = c.args.plan.now in
    let n : c.shards-lefts.result ≡ side_count p p.left = lefts_are p c.table-2.result.now c.table.result c.shards-lefts.result c.shards-lefts.ensures c.table-2.ensures.table c.left.result.now c.table.ensures c.left.ensures in
    let le : c.shards-lefts.result ≤ length c.args.out.now.requests = omega (arith, n, lefts_small p, c.requires.edges.sources) in
    record {
      packets = refl;
      sources = refl;
      low = omega (arith, n);
      high = le;
      asked = lefts_asked p (datum_of c.args.key.now) c.shards-lefts.result c.args.out.now.requests n le;
    }

pub loop-source-preserved : goal.loop-source-preserved
loop-source-preserved g c =
    let i = c.loop-source.invariant in
    let lt : c.loop-source.source < length c.args.out.now.requests = omega (arith, c.loop-source-test.true, c.sources-source-end.ensures) in
    record {
      packets = c.ask.ensures.packets ∙ i.packets;
      sources = c.ask.ensures.sources ∙ i.sources;
      low = omega (arith, i.low);
      high = omega (arith, lt);
      asked = asked_more c.args.plan.now (datum_of c.args.key.now) c.args.out.now.requests c.loop-source.out.requests c.ask.new.self.requests c.loop-source.source c.new-request.result i.low (omega (arith, lt, i.sources)) i.sources
          (request_is c.new-request.result (datum_of c.in_ok-try_clone.field-0) (datum_of c.args.key.now) c.new-request.ensures c.in_ok-try_clone.ensures) i.asked c.in_ok-ask.ensures.asked;
    }

pub returns-clause-asked : goal.returns-clause-asked
returns-clause-asked g c =
    let i = c.loop-source.invariant in
    let all : c.loop-source.source ≡ length (sources c.args.plan.now) = omega (arith, c.loop-source-test.false, c.sources-source-end.ensures, i.high, c.requires.edges.sources) in
    subst (λ n. packets_on c.loop-source.out.requests ≡ append_each (packets_on c.args.out.now.requests) (map (asked_of c.args.plan.now (datum_of c.args.key.now)) (range_with_len 0 n))) all i.asked
