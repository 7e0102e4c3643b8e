use Rattle.std.proofs.Common.{◌≡◌, map, drop}
use Rattle.document.specs.Words.{is_one_of}
use Rattle.document.proofs.names.is_one_of.Given as goal

abbrev pub invariant-loop-field : goal.invariant-loop-field
invariant-loop-field l = is_one_of (map (λ f. f.now) l.fields) l.name ≡ is_one_of (map (λ f. f.now) (drop l.field-index l.fields)) l.name
