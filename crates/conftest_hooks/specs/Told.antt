-- What the code's answers tell.
use Rattle.std.specs.Prelude.{List, Result, Ok, Err}
use Rattle.std.proofs.Common.{Global}
use Rattle.std.specs.declared.vec.Vec.{Vec}
use Rattle.conftest_hooks.specs.declared.looking.FoundHook.{FoundHook}
use Rattle.conftest_hooks.specs.declared.looking.HookFault.{HookFault}

abbrev pub hooks_told : Result (Vec FoundHook Global) HookFault → Result (List FoundHook) HookFault
hooks_told (Ok hooks) = Ok hooks.items
hooks_told (Err fault) = Err fault
