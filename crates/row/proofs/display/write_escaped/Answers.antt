use Rattle.std.proofs.Common.{rules, ◌≡◌, true, false}
use Rattle.std.proofs.Output.{has_written_append, has_written_of_eq}
use lib.Utf8.{encode}
use Rattle.row.specs.Printed.{is_escaped}
use Rattle.row.proofs.Printing.{escaped_marked, escaped_bare}
use Rattle.row.proofs.display.write_escaped.Goals as goal
use Rattle.row.proofs.display.write_escaped.Goals.{then-is_escaped+in_ok-write_char, else-is_escaped}

pub returns : goal.returns
unfolding encode
returns g c = λ plain done.
    elim c.if-is_escaped.branch [
      | then-is_escaped+in_ok-write_char w ↦
          let marked : is_escaped c.args.c ≡ true = cc in
          let first = w.in_ok-write_char.ensures.writes plain (search rules) in
          let second = c.write_char-2.ensures.writes (rw w.f-is first.plain) done in
          has_written_of_eq _ _ _ _ _ (escaped_marked c.args.c marked) (has_written_append _ _ _ _ _ _ first (rw w.f-is at second))
      | else-is_escaped w ↦
          let bare : is_escaped c.args.c ≡ false = cc in
          has_written_of_eq _ _ _ _ _ (escaped_bare c.args.c bare) (rw w.f-is at (c.write_char-2.ensures.writes (rw w.f-is plain) done))
    ]
