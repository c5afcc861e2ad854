-- What `bind` answers.
use Rattle.std.specs.Prelude.{◌≡◌, List, Option, Some, None, Result, Ok, Err}
use Rattle.std.specs.declared.vec.Vec.{Vec}
use Rattle.std.proofs.Common.{Global}
use Rattle.py_values.specs.declared.value.Value.{Value}
use Rattle.py_bind.specs.declared.fault.BindFault.{BindFault}
use Rattle.py_bind.specs.declared.fault.BindFault.TheVariants.{Wrong, OutOfMemory}

-- the values, or that there are none, unless memory ran out
abbrev pub AnswersBound : Result (Vec Value Global) BindFault → Option (List Value) → Type 0
AnswersBound (Ok values) found = found ≡ Some values.items
AnswersBound (Err Wrong) found = found ≡ None
AnswersBound (Err OutOfMemory) found = Unit {0}
