use Rattle.std.proofs.Common.{◌∙◌, map, filter, sym, ap, arith}
use Rattle.std.proofs.lemmas.List.{take_all}
use Rattle.row.specs.Cells.{datum_of}
use Rattle.stage_steps.proofs.Words.{told_are, keyed_by, told_by}
use Rattle.stage_steps.proofs.keyed.keyed_for.Goals as goal

pub returns : goal.returns
returns c =
    let e = map datum_of c.args.evicts.now in
    let f = keyed_by c.args.column c.args.shards c.args.shard e in
    let t = told_by c.args.column c.args.shards c.args.shard e in
    c.loop-record.invariant ∙ (ap (λ rs. map f (filter t rs)) (take_all c.loop-record.record-index c.args.records.now (omega (arith, c.loop-record-test.false))) ∙ sym (told_are c.args.column c.args.shards c.args.shard e c.args.records.now))
