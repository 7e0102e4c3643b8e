use mathlib.Core.List.{IsPrefix}
use Rattle.book.specs.Pages.{history_of}
use Rattle.model.proofs.Prefixes.{prefix_either, prefix_trans}
use Rattle.book.proofs.Steps.{seen_more}
use Rattle.book.proofs.Replies.{longer_within}
use Rattle.book.proofs.part.Part.meet.Goals as goal

pub returns-clause-one : goal.returns-clause-one
returns-clause-one g c =
    let h = history_of c.learn-2.new.seen.log in
    let grown = seen_more _ _ (prefix_trans _ c.learn.new.seen.log _ c.learn.ensures.grown c.learn-2.ensures.grown) in
    let this : IsPrefix c.args.self.now h = prefix_trans _ (history_of c.whole-seen.result.log) _ c.whole-seen.ensures.seen grown in
    let first = seen_more c.other.inside.first.log c.learn-2.new.seen.log (prefix_trans _ c.learn.new.seen.log _ c.learn.ensures.others c.learn-2.ensures.grown) in
    let second = seen_more c.other.inside.second.log c.learn-2.new.seen.log c.learn-2.ensures.others in
    let that : IsPrefix c.args.other.now h = rw (← c.other.view_is) (longer_within (history_of c.other.inside.first.log) (history_of c.other.inside.second.log) h first second) in
    prefix_either c.args.self.now c.args.other.now h this that
