use Rattle.std.proofs.Common.{◌≡◌, ◌+◌, ◌-◌, ◌<◌, ◌≤◌, ℕ, suc, refl, ap, sym, ◌∙◌, subst, arith}
use Rattle.protocol.specs.Events.{settled, unsettled}
use Rattle.protocol.specs.WorldSteps.{rounds, most_rounds}
use Rattle.machine.specs.Held.{IsDone, world_of}
use Rattle.machine.specs.Machines.{held}
use Rattle.world.proofs.Rounded.{rounds_go, rounds_end}
use Rattle.world.proofs.settles.settle.Goals as goal

before_all : (at : ℕ) → at < 1000 → at + suc (999 - at) ≡ most_rounds
before_all at lt = omega (arith, lt)

all_gone : (at : ℕ) → at ≤ 1000 → 1000 ≤ at → at + 0 ≡ most_rounds
all_gone at le ge = omega (arith, le, ge)

first : (n : ℕ) → 0 + n ≡ most_rounds → n ≡ most_rounds
first n e = omega (arith, e)

more : (at n : ℕ) → at + 1 + n ≡ most_rounds → at + suc n ≡ most_rounds
more at n e = omega (arith, e)

pub loop-at-init : goal.loop-at-init
loop-at-init g c =
    let w = world_of g.F.Fronts.log g.F.Fronts.authors (held c.args.machine.now) in
    record { whole = c.requires.whole; rounds = λ n e. ap (λ k. rounds k w c.new-ended.result.items) (first n e) ∙ ap (λ es. rounds most_rounds w es) c.new-ended.ensures.items }

pub loop-at-preserved : goal.loop-at-preserved
loop-at-preserved g c =
    let r = c.in_ok-moved.ensures.done in
    record {
      whole = r.whole;
      rounds = λ n e. sym (rounds_go g.F.Fronts.log g.F.Fronts.authors (held c.loop-at.machine) (held c.go_round.new.machine) c.loop-at.ended.items c.go_round.new.ended.items c.in_ok-moved.moved r c.if-not-moved.false n) ∙ c.loop-at.invariant.rounds (suc n) (more c.loop-at.at n e);
    }

pub returns-then-not-moved : goal.returns-then-not-moved
returns-then-not-moved g c =
    let n = 999 - c.loop-at.at in
    let r = c.in_ok-moved.ensures.done in
    record {
      done = subst (λ d. IsDone g.F.Fronts.log g.F.Fronts.authors d (settled c.go_round.new.ended.items) (held c.go_round.new.machine)) (c.loop-at.invariant.rounds (suc n) (before_all c.loop-at.at c.loop-at-test.true))
          (rounds_end g.F.Fronts.log g.F.Fronts.authors (held c.loop-at.machine) (held c.go_round.new.machine) c.loop-at.ended.items c.go_round.new.ended.items c.in_ok-moved.moved r c.if-not-moved.true n);
    }

pub returns : goal.returns
returns g c = record {
  done = subst (λ d. IsDone g.F.Fronts.log g.F.Fronts.authors d (unsettled c.loop-at.ended.items) (held c.loop-at.machine)) (c.loop-at.invariant.rounds 0 (all_gone c.loop-at.at c.loop-at.auto.at-end c.loop-at-test.false))
      (record { world = refl; reply = refl; placed = c.loop-at.invariant.whole.placed });
}

pub go_round-requires : goal.go_round-requires
go_round-requires g c = record { agree = c.requires.agree; whole = c.loop-at.invariant.whole }
