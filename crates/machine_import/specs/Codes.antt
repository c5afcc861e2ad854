-- The body of a source's code.
use Rattle.std.specs.Prelude.{◌≡◌, Option, Some, None}
use Rattle.std.specs.declared.alloc.Global.{Global}
use Rattle.std.specs.declared.rc.Rc.{Rc}
use Rattle.py_core.specs.declared.stmt.Core.{Core}
use Rattle.py_core.specs.declared.stmt.CoreBlock.{CoreBlock}

abbrev pub IsCodeOf : Option (Rc CoreBlock Global) → Option Core → Type 0
IsCodeOf (Some body) (Some core) = body.value ≡ core.body.value
IsCodeOf None None = Unit {0}
IsCodeOf _ _ = ⊥
