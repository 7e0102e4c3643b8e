-- Lists in blocks that copies share.
use Rattle.std.specs.Prelude.{List, ◌++◌, map}
use Rattle.std.specs.List.{flat_map}
use Rattle.std.specs.declared.alloc.Global.{Global}
use Rattle.std.specs.declared.rc.Rc.{Rc}
use Rattle.std.specs.declared.vec.Vec.{Vec}

-- what the pointers point to
abbrev pub values_of : {T : Type 0} → List (Rc T Global) → List T
values_of {T} pointers = map (λ (p : Rc T Global). p.value) pointers

-- the items of the full blocks, and then those of the last one
abbrev pub held_in : {T : Type 0} → List (Rc (Vec (Rc T Global) Global) Global) → List (Rc T Global) → List T
held_in {T} full last = flat_map (λ (b : Vec (Rc T Global) Global). values_of b.items) (values_of full) ++ values_of last
