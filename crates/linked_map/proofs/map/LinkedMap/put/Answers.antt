use Rattle.std.proofs.Common.{◌∙◌, sym, ap, ap₂, length}
use Rattle.indexmap.specs.Layout.{set_value_at, length-set_value_at}
use Rattle.indexmap.specs.IndexMap.{insert_entry}
use Rattle.indexmap.proofs.CallerLemmas.{insert_entry-new}
use Rattle.indexmap.proofs.MapLemmas.{Missing-position}
use Rattle.linked_map.specs.Orders.{entries_at}
use Rattle.linked_map.proofs.Entries.{missed, found}
use Rattle.linked_map.proofs.Maps.{put_hit, put_miss, kept_len}
use Rattle.linked_map.proofs.map.LinkedMap.put.Goals as goal

pub invariant_of-self : goal.invariant_of-self
invariant_of-self g c =
    let es = c.self.inside.map.entries in
    ap length c.to_front.ensures ∙ kept_len es c.self.inside.ring c.len-len.ensures.order c.self.invariant c.in-Some.place c.in-Some.ensures.within ∙ sym (length-set_value_at es c.in-Some.place c.args.value)

pub returns-in-Some-clause-entries : goal.returns-in-Some-clause-entries
returns-in-Some-clause-entries g c =
    let es = c.self.inside.map.entries in
    let f = found g.met.K.Eq.laws c.args.key es c.in-Some.place c.get_index_of.ensures.unique (sym c.in-Some.ensures.index) in
    rw (← c.self.view_is) (ap (entries_at (set_value_at es c.in-Some.place c.args.value)) c.to_front.ensures
    ∙ put_hit es c.self.inside.ring c.len-len.ensures.order c.self.invariant g.K.PartialEq.eq c.args.key c.in-Some.place f.0 f.1 c.args.value)

pub returns-clause-entries : goal.returns-clause-entries
returns-clause-entries g c =
    let m = c.self.inside.map in
    let eq = g.K.PartialEq.eq in
    let gone = sym c.get_index_of.ensures.index ∙ c.in_default.is in
    let put = rw c.unwrap.ensures at c.insert.ensures.entries in
    rw (← c.self.view_is) (ap₂ entries_at (put ∙ ap (λ l. insert_entry eq l c.args.key c.args.value) c.in_ok-reserve_one.ensures.entries
    ∙ insert_entry-new eq m c.args.key c.args.value (Missing-position (eq c.args.key) m.entries gone).value) c.in_ok-push.ensures.pushed
    ∙ put_miss m.entries c.self.inside.ring c.len-len.ensures.order c.self.invariant eq c.args.key (missed (eq c.args.key) m.entries gone) c.args.value)
