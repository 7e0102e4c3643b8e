-- Keys go one after the other, until no more are filled than the cap.
use Rattle.std.proofs.Common.{◌≡◌, ℕ, zero, suc, ◌-◌, List, [], ◌∷◌, length, Option, Some, None, refl, ap, sym, ◌∙◌, subst, arith, ◌<◌}
use Rattle.packet.specs.Keys.{Keys}
use Rattle.packet.specs.Messages.{Ask}
use Rattle.protocol.specs.Stages.{Done, Stage}
use Rattle.protocol.specs.StageSteps.{cap_kept, caps, excess, oldest_goes, quiet, shrink}
use Rattle.right_rows.specs.Rights.{keys_in}
use Rattle.stage_sides.specs.Sides.{are_filled}
use Rattle.stage_steps.specs.Outboxes.{AreEdges, OutboxView}
use Rattle.stage_steps.specs.Shards.{IsPut, Shard, stage_of}
use Rattle.stage_steps.proofs.Begins.{after_assoc}
use Rattle.stage_steps.proofs.Puts.{after, put_quiet}

abbrev one_less : Done → Done
one_less d = after d (oldest_goes d.stage d.stage.right)

-- so many are gone
abbrev pub shrunk : ℕ → Done → Done
shrunk zero d = d
shrunk (suc n) d = one_less (shrunk n d)

shrunk_first : (n : ℕ) (d : Done) → shrunk (suc n) d ≡ shrunk n (one_less d)
shrunk_first zero d = refl
shrunk_first (suc n) d = ap one_less (shrunk_first n d)

put_shrunk : (n : ℕ) (d : Done) (out : OutboxView) (y : Shard) → AreEdges y.plan out → IsPut (shrunk n d) out y → IsPut (after d (shrink n d.stage)) out y
put_shrunk zero d out y edges put = put_quiet d (quiet d.stage) out y y put edges refl refl (ap quiet (sym put.stage))
put_shrunk (suc n) d out y edges put =
    let e = oldest_goes d.stage d.stage.right in
    let later = put_shrunk n (one_less d) out y edges (subst (λ (d : Done). IsPut d out y) (shrunk_first n d) put) in
    subst (λ (d : Done). IsPut d out y) (after_assoc d e (shrink n e.stage)) later

caps_waiting : (s : Stage) (pending : List Ask) (n : ℕ) → n ≡ length pending → 0 < n → cap_kept s pending ≡ quiet s
caps_waiting s [] n is some = absurd (omega (arith, is, some))
caps_waiting s (a ∷ pending) n is some = refl

excess_is : (cap : ℕ) (o : Option Keys) → length (are_filled o) - cap ≡ excess cap o
excess_is cap None = omega arith
excess_is cap (Some keys) = refl

caps_free : (s : Stage) (pending : List Ask) → length pending ≡ 0 → cap_kept s pending ≡ shrink (excess s.plan.cap s.right) s
caps_free s [] none = refl
caps_free s (a ∷ pending) none = absurd (omega (arith, none))

module _ (x y : Shard) (d : Done) (out new : OutboxView) (put : IsPut d out x) where
  pub put_waiting : AreEdges x.plan out → 0 < length x.pending → IsPut (after d (caps d.stage)) out x
  put_waiting edges some =
      put_quiet d (caps d.stage) out x x put edges refl refl
      (ap caps (sym put.stage) ∙ caps_waiting (stage_of x) x.pending (length x.pending) refl some)

  pub put_kept : (n : ℕ) → n ≡ length (are_filled (keys_in x.rows.right)) - x.plan.cap → length x.pending ≡ 0 → AreEdges y.plan new → IsPut (shrunk n d) new y → IsPut (after d (caps d.stage)) new y
  put_kept n is none edges shrunk_put =
      let stage = put.stage in
      let kept : caps d.stage ≡ shrink n d.stage = ap caps (sym stage) ∙ (caps_free (stage_of x) x.pending none ∙ (ap (λ m. shrink m (stage_of x)) (sym (is ∙ excess_is x.plan.cap (keys_in x.rows.right))) ∙ ap (shrink n) stage)) in
      subst (λ (e : Done). IsPut (after d e) new y) (sym kept) (put_shrunk n d new y edges shrunk_put)
