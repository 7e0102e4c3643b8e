use Rattle.base_domain.specs.Codes.{write_of}
use Rattle.base_domain.proofs.Stays.{written_stays}
use Rattle.base_domain.proofs.base_domain.BaseDomain.receive.Goals as goal

pub returns-in-Write-clause-place : goal.returns-in-Write-clause-place
returns-in-Write-clause-place g c =
    written_stays g.F.Fronts.log g.F.Fronts.authors c.args.self.now c.write.new.self (write_of c.in-Write.write) c.write.new.out c.write.result c.write.ensures.done c.write.ensures.refused
