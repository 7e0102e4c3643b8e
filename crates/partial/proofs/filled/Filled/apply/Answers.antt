use Rattle.std.proofs.Common.{◌∙◌, ◌≡◌, sym, ap, subst, reverse, refl, cond, Some, None}
use Rattle.std.specs.Option.{IsSome, option_map}
use Rattle.std.specs.Map.{lookup, keys_of}
use Rattle.std.proofs.lemmas.Map.Steps.{set_value_same}
use Rattle.std.proofs.lemmas.Result.{on_err_weaker}
use Rattle.partial.proofs.Reversed.{changed_lookup, changed_order, lookup-reverse, on_ok_from, on_ok_always}
use Rattle.partial.proofs.filled.Filled.apply.Goals as goal
use Rattle.partial.proofs.filled.Filled.apply.Goals.{in-Some, in-None}

pub apply-requires : goal.apply-requires
apply-requires g c =
    c.requires c.in-Some.entry.now (ap (λ l. lookup (g.K.PartialEq.eq c.args.key.now) l) (sym c.self.view_is)
    ∙ lookup-reverse g.met.K.Eq.laws c.args.key.now c.self.inside.latest c.len.ensures.unique ∙ sym c.in-Some.ensures.value)

pub returns-clause-order : goal.returns-clause-order
returns-clause-order g c = rw (← c.self.view_is) (elim c.match-peek_mut.branch [
  | in-Some w ↦ ap (λ x. keys_of (reverse x.latest)) w.self-inside-is ∙ changed_order (g.K.PartialEq.eq c.args.key.now) c.self.inside.latest w.apply.new.self
  | in-None w ↦ ap (λ x. keys_of (reverse x.latest)) w.self-inside-is
])

pub returns-clause-others : goal.returns-clause-others
returns-clause-others g c = rw (← c.self.view_is) (λ k h. elim c.match-peek_mut.branch [
  | in-Some w ↦ ap (λ x. lookup (g.K.PartialEq.eq k) (reverse x.latest)) w.self-inside-is
      ∙ changed_lookup g.met.K.Eq.laws c.args.key.now k c.self.inside.latest w.apply.new.self c.len.ensures.unique (subst IsSome w.in-Some.ensures.value refl)
      ∙ ap (λ b. cond b (Some w.apply.new.self) (lookup (g.K.PartialEq.eq k) (reverse c.self.inside.latest))) h
  | in-None w ↦ ap (λ x. lookup (g.K.PartialEq.eq k) (reverse x.latest)) w.self-inside-is
])

pub returns-clause-applied : goal.returns-clause-applied
returns-clause-applied g c = rw (← c.self.view_is) (elim c.match-peek_mut.branch [
  | in-Some w ↦ on_ok_from w.apply.result c.match-peek_mut.result w.result-is (λ p.
      ap (λ x. lookup (g.K.PartialEq.eq c.args.key.now) (reverse x.latest)) w.self-inside-is
      ∙ changed_lookup g.met.K.Eq.laws c.args.key.now c.args.key.now c.self.inside.latest w.apply.new.self c.len.ensures.unique (subst IsSome w.in-Some.ensures.value refl)
      ∙ ap (λ b. cond b (Some w.apply.new.self) (lookup (g.K.PartialEq.eq c.args.key.now) (reverse c.self.inside.latest))) (g.met.K.Eq.laws.refl c.args.key.now)
      ∙ ap Some p
      ∙ ap (option_map (λ e. g.E.Gather.plus e c.args.change.now)) (w.in-Some.ensures.value ∙ sym (lookup-reverse g.met.K.Eq.laws c.args.key.now c.self.inside.latest c.len.ensures.unique))) w.apply.ensures.applied
  | in-None w ↦ on_ok_always c.match-peek_mut.result (
      let none : lookup (g.K.PartialEq.eq c.args.key.now) (reverse c.self.inside.latest) ≡ None =
      lookup-reverse g.met.K.Eq.laws c.args.key.now c.self.inside.latest c.len.ensures.unique ∙ sym w.in-None.ensures.value in
      ap (λ x. lookup (g.K.PartialEq.eq c.args.key.now) (reverse x.latest)) w.self-inside-is ∙ none ∙ ap (option_map (λ e. g.E.Gather.plus e c.args.change.now)) (sym none))
])

pub returns-clause-err : goal.returns-clause-err
returns-clause-err g c = rw (← c.self.view_is) (elim c.match-peek_mut.branch [
  | in-Some w ↦ rw (w.result-is) (on_err_weaker w.apply.result (λ p. ap (λ x. reverse x.latest) w.self-inside-is
      ∙ ap reverse (set_value_same (g.K.PartialEq.eq c.args.key.now) c.self.inside.latest w.apply.new.self (sym w.in-Some.ensures.value ∙ ap Some (sym p)))) w.apply.ensures.err)
  | in-None w ↦ rw (w.result-is) tt
])
