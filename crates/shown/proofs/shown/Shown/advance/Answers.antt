use Rattle.std.proofs.Common.{◌≡◌, ◌<◌, ◌≤◌, Some, [], length, slice_get, slice_index_or, refl, ap, sym, ◌∙◌, subst, arith}
use Rattle.book.specs.Fronts.{entries}
use Rattle.book.specs.Sessions.{fronts}
use Rattle.model.specs.Histories.{log_of}
use Rattle.model.specs.Places.{sources}
use Rattle.packet.specs.Lines.{entries_of, lengths_of}
use Rattle.shown.proofs.Placed.{none_placed, one_placed, all_placed, count_fronts, count_map, count_of, count_take, wide_fronts, base_at_of, entries_at, length_at, one_snapshot}
use Rattle.shown.proofs.shown.Shown.advance.Goals as goal

pub loop-source-init : goal.loop-source-init
loop-source-init g c =
    let p = g.J.Naming.plan in
    let cut = c.self.inside.cut in
    let stage = c.moved.inside.stage in
    let line = c.moved.inside.line in
    let within = c.lengths-lengths.ensures.within in
    let small : stage < length cut.lengths = subst (λ n. stage < n) (sym within.stages) c.moved.invariant.0 in
    let whole = within.lines stage c.moved.invariant.0 in
    let count = count_of p (sources p) line c.moved.invariant.1 in
    rw (← c.self.view_is, ← c.moved.view_is) (record {
      small = small;
      wide = whole ∙ count;
      few = subst (λ n. stage < n) (sym (count_fronts p cut.seen cut.lengths)) small;
      broad = wide_fronts p cut.seen cut.lengths stage small whole ∙ count;
      lengths = sym (none_placed cut.lengths stage (lengths_of line));
      cut = sym (none_placed (fronts p cut) stage (entries_of line));
      view = refl;
      shard = refl;
      rows = refl;
      asked = refl;
    })

pub advance-requires-clause-source : goal.advance-requires-clause-source
advance-requires-clause-source g c =
    let p = g.J.Naming.plan in
    omega (arith, c.loop-source-test.true, c.sources-source-end.ensures, count_of p (sources p) c.moved.inside.line c.moved.invariant.1)

pub advance-requires-clause-base : goal.advance-requires-clause-base
advance-requires-clause-base g c =
    let p = g.J.Naming.plan in
    base_at_of p (sources p) c.moved.inside.line c.loop-source.source _ c.moved.invariant.1 c.front-front.ensures

pub loop-source-preserved : goal.loop-source-preserved
loop-source-preserved g c =
    let p = g.J.Naming.plan in
    let cut = c.self.inside.cut in
    let now = c.loop-source.self-inside.cut in
    let stage = c.moved.inside.stage in
    let line = c.moved.inside.line in
    let source = c.loop-source.source in
    let front = c.front-front.result.now in
    let inv = (let i = c.loop-source.invariant in rw (← c.self.view_is, ← c.moved.view_is) at i) in
    let len : slice_get (lengths_of line) source ≡ Some front.len = length_at line source _ c.front-front.ensures ∙ ap Some (count_take front.len (log_of front.base front.seen) c.len-entries.ensures.within) in
    let wide : source < length (slice_index_or cut.lengths stage []) = omega (arith, c.loop-source-test.true, c.sources-source-end.ensures, inv.wide) in
    let broad : source < length (slice_index_or (fronts p cut) stage []) = omega (arith, c.loop-source-test.true, c.sources-source-end.ensures, inv.broad) in
    rw (← c.self.view_is, ← c.moved.view_is) (record {
      small = inv.small;
      wide = inv.wide;
      few = inv.few;
      broad = inv.broad;
      lengths = c.advance.ensures.lengths ∙ one_placed cut.lengths stage (lengths_of line) source front.len now.lengths inv.small wide len inv.lengths;
      cut = c.advance.ensures.fronts ∙ one_placed (fronts p cut) stage (entries_of line) source (entries front) (fronts p now) inv.few broad (entries_at line source _ c.front-front.ensures) inv.cut;
      view = inv.view;
      shard = inv.shard;
      rows = inv.rows;
      asked = inv.asked;
    })

pub returns : goal.returns
returns g c =
    let p = g.J.Naming.plan in
    let cut = c.self.inside.cut in
    let stage = c.moved.inside.stage in
    let line = c.moved.inside.line in
    let inv = (let i = c.loop-source.invariant in rw (← c.self.view_is, ← c.moved.view_is) at i) in
    let done : length line ≤ c.loop-source.source = omega (arith, c.loop-source-test.false, c.sources-source-end.ensures) in
    rw (← c.self.view_is, ← c.moved.view_is) (one_snapshot _ _ inv.view inv.shard
    (inv.lengths ∙ all_placed cut.lengths stage (lengths_of line) c.loop-source.source (inv.wide ∙ sym (count_map _ line)) (subst (λ n. n ≤ c.loop-source.source) (sym (count_map _ line)) done))
    (inv.cut ∙ all_placed (fronts p cut) stage (entries_of line) c.loop-source.source (inv.broad ∙ sym (count_map _ line)) (subst (λ n. n ≤ c.loop-source.source) (sym (count_map _ line)) done))
    inv.rows inv.asked)
