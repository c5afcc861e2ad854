-- Where a statement stands, as the definition says it.
use Rattle.py_grammar.specs.Context as c
use Rattle.py_context.specs.declared.statements.Scope.{Scope}
use Rattle.py_context.specs.declared.statements.Scope.TheVariants as s
use Rattle.py_context.specs.declared.statements.StatementContext.{StatementContext}

abbrev pub scope_of : Scope → c.Scope
scope_of s.Module = c.OfModule
scope_of s.Class = c.OfClass
scope_of s.Function = c.OfFunction

abbrev pub where_of : StatementContext → c.StatementContext
where_of w = record { scope = scope_of w.scope; in_loop = w.in_loop; may_yield = w.may_yield }
