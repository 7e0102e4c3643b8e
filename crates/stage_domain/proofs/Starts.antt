-- Where a packet starts.
use Rattle.std.proofs.Common.{◌≡◌, ◌≢◌, ℕ, zero, suc, ◌≤◌, List, [], ◌∷◌, length, take, Some, get_or, slice_get, IsTrue, ap, sym, ◌∙◌, arith}
use Rattle.std.specs.Prelude.{nat_eq}
use Rattle.std.proofs.lemmas.Bool.Decides.{nat_tests}
use mathlib.Core.List.{IsPrefix}
use Rattle.plan.specs.Layouts.{Layout}
use Rattle.model.specs.Fronts.{LogView, Agree}
use Rattle.model.specs.Logs.{Change}
use Rattle.model.proofs.Prefixes.{prefix_length}
use Rattle.packet.specs.Codes.{EndsAt}
use Rattle.packet.specs.Lines.{entries_of, no_log}
use Rattle.packet.specs.Messages.{BasePacketView}
use Rattle.packet.specs.declared.mode.Mode.{Mode}
use Rattle.packet.specs.declared.mode.Mode.TheVariants as mode
use Rattle.stage_domain.specs.Domains.{log_of}
use Rattle.protocol.proofs.Within.{prefix_take}

-- what runs is not broken
pub running_whole : (m : Mode) → m ≡ mode.Running → m ≢ mode.Broken
running_whole m is e = let no : mode.Running ≡ mode.Broken = sym is ∙ e in cc

pub log_is : (k : BasePacketView) (l : LogView) → EndsAt k l → l ≡ log_of k
log_is k l e =
    ap (λ (p : Layout). record { plan = p; base = l.base; entries = l.entries }) e.plan
    ∙ (ap (λ (b : ℕ). record { plan = k.plan; base = b; entries = l.entries }) e.base ∙ ap (λ (es : List Change). record { plan = k.plan; base = k.base; entries = es }) e.entries)

pub got : (line : List LogView) (j : ℕ) (l : LogView) → slice_get line j ≡ Some l → get_or line j no_log ≡ l
got [] j l at = cc
got (x ∷ line) zero l at = cc
got (x ∷ line) (suc j) l at = got line j l at

entries_at : (line : List LogView) (j : ℕ) (l : LogView) → slice_get line j ≡ Some l → slice_get (entries_of line) j ≡ Some l.entries
entries_at [] j l at = cc
entries_at (x ∷ line) zero l at = let e : x ≡ l = cc in ap (λ (l : LogView). Some l.entries) e
entries_at (x ∷ line) (suc j) l at = entries_at line j l at

-- fronts of one log that have as many entries are one
pub starts_at : (line : List LogView) (j : ℕ) (l : LogView) (from to : List Change) (n m : ℕ) → slice_get line j ≡ Some l → Agree l.entries to → IsPrefix from to → n ≡ length l.entries → m ≡ length from
    → (IsTrue (nat_eq n m) → slice_get (entries_of line) j ≡ Some from) × (slice_get (entries_of line) j ≡ Some from → IsTrue (nat_eq n m))
starts_at line j l from to n m at agree grows is_n is_m = (
  (λ same.
      let e : n ≡ m = grind (arith, nat_tests) in
      let count : length l.entries ≡ length from = sym is_n ∙ (e ∙ is_m) in
      let small : length l.entries ≤ length to = let le = prefix_length from to grows in omega (arith, count, le) in
      let held : l.entries ≡ from = sym (agree.first small) ∙ (ap (λ k. take k to) count ∙ prefix_take from to grows) in
      entries_at line j l at ∙ ap Some held),
  (λ next.
      let both : Some l.entries ≡ Some from = sym (entries_at line j l at) ∙ next in
      let held : l.entries ≡ from = cc in
      let e : n ≡ m = is_n ∙ (ap length held ∙ sym is_m) in
      grind (arith, nat_tests)),
)
