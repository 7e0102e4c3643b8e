use Rattle.std.proofs.Common.{◌≡◌, ◌<◌, None, length, sym, ◌∙◌, arith}
use Rattle.domain_turns.specs.Waits.{waiting_on}
use Rattle.domain_turns.proofs.Stepped.{changed, ended, kept_length, stayed}
use Rattle.domain_turns.proofs.waits.Waits.ring.Goals.{in-Some, in_default}
use Rattle.domain_turns.proofs.waits.Waits.ring.Goals as goal

pub filled-requires : goal.filled-requires
filled-requires g c =
    let f = waiting_on c.args.domain.now.kept in
    let same : length c.loop-session.self ≡ length c.args.self.now = kept_length f c.loop-session.session c.args.self.now c.loop-session.self c.loop-session.invariant in
    record { place = omega (arith, same, c.loop-session-test.true, c.sessions-session-end.ensures) }

pub clear-requires : goal.clear-requires
clear-requires g c =
    let same : length c.loop-session.self ≡ length c.args.self.now = kept_length (waiting_on c.args.domain.now.kept) c.loop-session.session c.args.self.now c.loop-session.self c.loop-session.invariant in
    omega (arith, same, c.loop-session-test.true, c.sessions-session-end.ensures)

pub loop-session-preserved : goal.loop-session-preserved
loop-session-preserved g c =
    let f = waiting_on c.args.domain.now.kept in
    let i = c.loop-session.session in
    let old = c.args.self.now in
    let lt : i < length old = omega (arith, c.loop-session-test.true, c.sessions-session-end.ensures) in
    elim c.match-filled.branch [
      | in-Some w ↦ changed f i old c.loop-session.self c.match-filled.self None None c.loop-session.invariant lt (sym w.in-Some.ensures.filled) (w.self-is ∙ w.clear.ensures.gone)
      | in_default w ↦ w.self-is ∙ stayed f i old c.loop-session.self None c.loop-session.invariant lt w.in_default.ensures.not
    ]

pub returns : goal.returns
returns g c =
    let end : c.loop-session.session ≡ length c.args.self.now = omega (arith, c.loop-session.auto.session-end, c.loop-session-test.false, c.sessions-session-end.ensures) in
    ended (waiting_on c.args.domain.now.kept) c.loop-session.session c.args.self.now c.loop-session.self c.loop-session.invariant end
