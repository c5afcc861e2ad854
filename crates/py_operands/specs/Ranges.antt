-- The numbers of ranges (Python library reference, ranges).
use Rattle.std.specs.Prelude.{ℕ, ℤ, pos, ◌+ℤ◌, ◌*ℤ◌}
use Rattle.py_values.specs.declared.end.Effect.{Effect}
use Rattle.py_values.specs.declared.range.RangeObj.{RangeObj}
use Rattle.py_operands.specs.Numbers.{bounded_number}

-- the number of a range at a place
abbrev pub nth_of : RangeObj → ℕ → ℤ
nth_of r i = r.start +ℤ r.step *ℤ pos i

abbrev pub range_number : RangeObj → ℕ → Effect
range_number r i = bounded_number (nth_of r i)
