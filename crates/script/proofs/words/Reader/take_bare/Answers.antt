use Rattle.std.proofs.Common.{◌≡◌, ◌<◌, ◌++◌, ◌∷◌, [], map, take, drop, refl, ap, ◌∙◌, arith}
use Rattle.std.proofs.lemmas.List.{map-append}
use Rattle.std.specs.Cow.{cow_str_bytes}
use Rattle.script.specs.Words.{IsCut}
use Rattle.script.specs.Machine.{gives}
use Rattle.script.specs.declared.words.Reader.{Reader}
use Rattle.script.proofs.Scan.{bare_taken}
use Rattle.script.proofs.words.Reader.take_bare.Goals as goal

pub returns-clause-rest : goal.returns-clause-rest
returns-clause-rest c =
    let n = c.plain_length-length.result in
    let bs = c.args.bytes.now in
    let old = c.args.self.now in
    let new : Reader = record { place = old.place; word = old.word; words = c.push.new.self } in
    let some : 0 < n = omega (arith, c.if-length-eq0.false) in
    let text = c.text_of.ensures ∙ c.split_at.ensures.front in
    let back = c.split_at.ensures.back in
    let cut : IsCut (drop n bs) = rw back at (c.if-not-is_cut.ensures.0 refl) in
    let words : map cow_str_bytes c.push.new.self.items ≡ map cow_str_bytes old.words.items ++ (take n bs ∷ []) =
    ap (map cow_str_bytes) c.in_ok-push.ensures.items ∙ (map-append cow_str_bytes old.words.items _ ∙ ap (λ t. map cow_str_bytes old.words.items ++ (t ∷ [])) text) in
    ap (gives new) back
    ∙ bare_taken n bs old new some c.plain_length-length.ensures.within c.plain_length-length.ensures.plain cut (c.if-not-is_between.ensures.0 refl) refl refl words
