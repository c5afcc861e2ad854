-- The numbers of a range (Python library reference, ranges).
use Rattle.std.specs.Prelude.{ℕ, zero, suc, ℤ, ◌+ℤ◌, List, [], ◌∷◌}
use Rattle.py_values.specs.declared.range.RangeObj.{RangeObj}

-- so many numbers from one on, by a step
abbrev pub progression : ℤ → ℤ → ℕ → List ℤ
progression z d zero = []
progression z d (suc n) = z ∷ progression (z +ℤ d) d n

abbrev pub range_items : RangeObj → List ℤ
range_items r = progression r.start r.step r.length
