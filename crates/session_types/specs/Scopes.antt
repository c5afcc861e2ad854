-- The order of scopes (pytest's fixture guide, "Scope: sharing fixtures across classes, modules, packages or session").
use Rattle.std.specs.Prelude.{ℕ, suc}
use Rattle.session_types.specs.declared.scope.Scope.{Scope}
use Rattle.session_types.specs.declared.scope.Scope.TheVariants.{Session, Module, Class, Function}

-- the place of a scope from broad to narrow
abbrev pub rank : Scope → ℕ
rank Session = 0
rank Module = 1
rank Class = 2
rank Function = 3

-- how many scopes there are: that of a function is the narrowest
abbrev pub scope_count : ℕ
scope_count = suc (rank Function)
