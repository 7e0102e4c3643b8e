use Rattle.std.proofs.Common.{◌≡◌, Option, Some, None, Bool, true, List, sym}
use Rattle.std.specs.Option.{option_map, IfSome}
use Rattle.std.specs.Map.{lookup_key}
use Rattle.std.proofs.lemmas.Map.Made.{lookup_key_passes}
use Rattle.partial.proofs.waiting.take_whole.Goals as goal

stored_passes : {K X : Type 0} (test : K → Bool) (es : List (K × X)) (r : Option (K × X)) → option_map (λ p. p.0) r ≡ lookup_key test es → IfSome r (λ p. test p.0 ≡ true)
stored_passes test es None h = tt
stored_passes test es (Some p) h = lookup_key_passes test es p.0 (sym h)

pub returns-then-put_piece-clause-stored : goal.returns-then-put_piece-clause-stored
returns-then-put_piece-clause-stored g c = stored_passes (g.K.PartialEq.eq c.args.key.now) c.put_piece.new.waiting.entries c.remove_entry.result c.remove_entry.ensures.key
