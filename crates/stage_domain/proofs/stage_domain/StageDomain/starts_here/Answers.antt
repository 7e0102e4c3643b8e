use Rattle.std.proofs.Common.{◌≡◌, ◌<◌, Some, length, get_or, slice_get, sym, subst}
use Rattle.model.specs.Fronts.{Agree}
use Rattle.model.specs.Places.{sources}
use Rattle.packet.specs.Lines.{no_log}
use Rattle.stage_domain.specs.Domains.{Domain, log_of}
use Rattle.stage_steps.proofs.Starting.{line_size}
use Rattle.stage_domain.proofs.Starts.{got, log_is, running_whole, starts_at}
use Rattle.stage_domain.proofs.stage_domain.StageDomain.starts_here.Goals as goal

pub front-held-requires : goal.front-held-requires
front-held-requires g c =
    let x = c.self.inside.shard in
    let whole = c.self.invariant (running_whole c.self.inside.mode (subst (λ (d : Domain). d.mode ≡ _) (sym c.self.view_is) c.requires.running)) in
    let small = subst (λ n. c.args.source < n) (sym (line_size x.plan (sources x.plan) x.line whole.whole.of)) (subst (λ (d : Domain). c.args.source < length (sources d.plan)) (sym c.self.view_is) c.requires.meets.0.source) in
    subst (λ l. c.args.source < length l) (sym c.line.ensures) small

pub meet-requires : goal.meet-requires
meet-requires g c =
    let held = got c.line.result.now c.args.source (g.F.Fronts.log c.front-held.result.now) c.front-held.ensures in
    let own = subst (λ (d : Domain). g.F.Fronts.are_one (get_or d.line c.args.source no_log) (log_of c.args.next.now)) (sym c.self.view_is) c.requires.meets.1 in
    let one = subst (λ l. g.F.Fronts.are_one (get_or l c.args.source no_log) (log_of c.args.next.now)) (sym c.line.ensures) own in
    subst (λ l. g.F.Fronts.are_one (g.F.Fronts.log c.front-held.result.now) l) (sym (log_is c.args.next.now (g.F.Fronts.log c.to-to.result.now) c.to-to.ensures)) (subst (λ l. g.F.Fronts.are_one l (log_of c.args.next.now)) held one)

pub returns : goal.returns
returns g c =
    let here = subst (λ l. slice_get l c.args.source ≡ Some (g.F.Fronts.log c.front-held.result.now)) c.line.ensures c.front-held.ensures in
    let at = subst (λ (d : Domain). slice_get d.line c.args.source ≡ Some (g.F.Fronts.log c.front-held.result.now)) c.self.view_is here in
    let agree = subst (λ es. Agree (g.F.Fronts.log c.front-held.result.now).entries es) c.to-to.ensures.entries c.meet.ensures in
    starts_at c.args.self.now.line c.args.source (g.F.Fronts.log c.front-held.result.now) c.args.next.now.from c.args.next.now.to c.len.result c.from.result at agree c.is_true.ensures.grows c.len.ensures c.from.ensures
