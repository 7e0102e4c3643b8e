use Rattle.std.proofs.Common.{◌≡◌, IfOk, ap, subst, sym, ◌∙◌}
use Rattle.protocol.specs.Worlds.{Fence}
use Rattle.protocol.specs.Events.{Reply}
use Rattle.schedule.specs.Codes.{reply_of}
use Rattle.schedule.specs.Sessions.{Session}
use Rattle.schedule.proofs.Tellings.{open_reply}
use Rattle.schedule.proofs.caller.Caller.acknowledge.Goals as goal

pub returns-clause-reply : goal.returns-clause-reply
returns-clause-reply c =
    let now = c.args.self.now in
    let whole = c.self.inside in
    let taken : Session = record { is = record { number = whole.number; floors = whole.floors.items; fence = c.take.new.self }; own = whole.own.items } in
    let same =
    open_reply c.args.places.now c.args.session taken now now.is.fence c.in-Some.fence c.acknowledge.new.self c.args.number c.args.reader c.args.cut (ap (λ (s : Session). s.own) c.self.view_is)
    (sym (c.in-Some.ensures.value ∙ ap (λ (s : Session). s.is.fence) c.self.view_is)) (sym (ap (λ (f : Fence). f.number) c.fence.view_is) ∙ c.if-fence-number.false) (ap (λ (f : Fence). f.acks) c.acknowledge.ensures)
    in
    subst (λ (x : Reply). IfOk c.tell.result (λ r. reply_of r ≡ x)) same c.tell.ensures.reply
