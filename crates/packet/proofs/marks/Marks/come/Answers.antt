use Rattle.std.proofs.Common.{ap, sym, ◌∙◌, subst}
use Rattle.row.specs.Bags.{Each}
use Rattle.packet.specs.Codes.{mark_of}
use Rattle.packet.specs.Marks.{MarksView, IsWaiting, come, complete, partly}
use Rattle.packet.proofs.Arrivals.{others_there, one_complete, one_left, partly_waits}
use Rattle.packet.proofs.marks.Marks.come.Goals as goal

pub leave-requires : goal.leave-requires
leave-requires c = others_there c.self.inside.senders c.in_ok-at.at c.gather.new.waiting.items c.in_ok-at.ensures.place

pub invariant_of-self-2 : goal.invariant_of-self-2
invariant_of-self-2 c =
    let n = c.self.inside.senders in
    let gs = c.gather.new.waiting.items in
    subst (Each (IsWaiting n)) (sym (c.leave.ensures.rest ∙ one_left n c.in_ok-at.at gs c.in_ok-at.ensures.place)) (partly_waits n c.in_ok-at.at gs c.in_ok-at.ensures.place)

pub returns-clause-complete : goal.returns-clause-complete
returns-clause-complete c =
    let n = c.self.inside.senders in
    let gs = c.gather.new.waiting.items in
    c.leave.ensures.marker ∙ (sym (one_complete n c.in_ok-at.at gs c.in_ok-at.ensures.place)
    ∙ (ap complete c.in_ok-at.ensures.come ∙ ap (λ (v : MarksView). complete (come v.senders c.args.sender (mark_of c.args.marker) v.waiting)) c.self.view_is))

pub returns-clause-waiting : goal.returns-clause-waiting
returns-clause-waiting c =
    let n = c.self.inside.senders in
    let gs = c.gather.new.waiting.items in
    let waiting = c.leave.ensures.rest ∙ (one_left n c.in_ok-at.at gs c.in_ok-at.ensures.place ∙ ap partly c.in_ok-at.ensures.come) in
    ap (λ ws. record { senders = n; waiting = ws }) waiting ∙ ap (λ (v : MarksView). record v { waiting = partly (come v.senders c.args.sender (mark_of c.args.marker) v.waiting) }) c.self.view_is
