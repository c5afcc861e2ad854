-- What the answer of `bind` says.
use Rattle.std.proofs.Common.{List, Result, Ok, Err, Vec, Global}
use Rattle.std.specs.Prelude.{IfOk, IsErrOf}
use Rattle.py_values.specs.declared.value.Value.{Value}
use Rattle.py_bind.specs.declared.fault.BindFault.{BindFault}
use Rattle.py_bind.specs.declared.fault.BindFault.TheVariants.{Wrong, OutOfMemory}
use Rattle.py_bind.specs.Binding.{Formal, Named, bound, IsWrong, IsBound}
use Rattle.py_bind.specs.Answers.{AnswersBound}
use Rattle.py_bind.proofs.Bindings.{right_by, wrong_by}

pub right_answer : (params : List Formal) (args : List Value) (named : List Named) (r : Result (Vec Value Global) BindFault) → AnswersBound r (bound params args named) → IfOk r (λ values. IsBound params args named values.items)
right_answer params args named (Ok values) h = right_by params args named values.items h
right_answer params args named (Err e) h = tt

pub wrong_answer : (params : List Formal) (args : List Value) (named : List Named) (r : Result (Vec Value Global) BindFault) → AnswersBound r (bound params args named) → IsErrOf r Wrong → IsWrong params args named
wrong_answer params args named (Ok values) h e = absurd (cc)
wrong_answer params args named (Err Wrong) h e = wrong_by params args named h
wrong_answer params args named (Err OutOfMemory) h e = absurd (cc)
