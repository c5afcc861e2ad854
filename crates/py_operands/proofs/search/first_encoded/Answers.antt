use Rattle.std.proofs.Common.{◌+◌, length, arith}
use Rattle.memchr.specs.Find.{NoneBefore, Nowhere, OccursAt}
use Rattle.py_operands.specs.Search.{encoded}
use Rattle.py_operands.proofs.Searching.{found, missed}
use Rattle.py_operands.proofs.search.first_encoded.Goals as goal

pub returns-in-Some : goal.returns-in-Some
returns-in-Some c t p e g =
    let told : (NoneBefore (OccursAt (encoded t) (encoded p)) 0 (length (encoded t) + 1) c.in-Some.at) × OccursAt (encoded t) (encoded p) c.in-Some.at
    = rw (e, g) at c.in-Some.ensures in
    found p t c.in-Some.at (λ j l o. told.0.before j (omega arith) l o) told.1

pub returns-in-None : goal.returns-in-None
returns-in-None c t p e g =
    let told : Nowhere (OccursAt (encoded t) (encoded p)) 0 (length (encoded t) + 1) = rw (e, g) at c.in-None.ensures in
    missed p t (λ j l o. told j (omega arith) l o)
