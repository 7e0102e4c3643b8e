use Rattle.std.proofs.Common.{◌≡◌, map, take}
use Rattle.row.specs.Bags.{Each}
use Rattle.book.specs.Fronts.{FrontView}
use Rattle.sessions.specs.Sights.{IsCovering}
use Rattle.sessions.proofs.session.Session.look_at_sources.Given as goal

abbrev pub invariant-loop-base : goal.invariant-loop-base
invariant-loop-base g l = record {
  bases : map (λ (f : FrontView). f.base) l.fronts.items ≡ take l.base-index l.base-items;
  all : Each (IsCovering l.fn.self.seen) l.fronts.items;
}
