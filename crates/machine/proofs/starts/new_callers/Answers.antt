use Rattle.std.proofs.Common.{◌≡◌, replicate, subst, arith}
use Rattle.machine.specs.Started.{new_session}
use Rattle.packet.proofs.Copies.{same_more}
use Rattle.machine.proofs.Starting.{session_made}
use Rattle.machine.proofs.starts.new_callers.Goals as goal

pub loop-preserved : goal.loop-preserved
loop-preserved c =
    same_more c.loop.counter (new_session c.args.places.now) c.in_ok-new.field-0 c.loop.callers.items c.push.new.self.items c.loop.invariant
    (session_made c.args.places.now c.args.bases c.in_ok-new.field-0 c.requires c.in_ok-new.ensures) c.in_ok-push.ensures.items

pub returns : goal.returns
returns c =
    let all : c.loop.counter ≡ 16 = omega (arith, c.loop-test.false, c.loop.auto.counter-end) in
    subst (λ n. c.loop.callers.items ≡ replicate n (new_session c.args.places.now)) all c.loop.invariant
