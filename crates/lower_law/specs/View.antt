-- THE VIEW of a world of core code: the world of the sources that its code carries. And which worlds are sound.
use Rattle.std.specs.Prelude.{List, map, drop, Option, Some, None}
use Rattle.core_meaning.specs.py_core.Blocks.{explains_in, other_in, last_in, handlers_source}
use Rattle.py_tree.specs.Statements.{handlers, takers}
use Rattle.core_meaning.specs.py_core.declared.stmt.Core.{Core}
use Rattle.core_meaning.specs.py_core.declared.stmt.CoreFn.{CoreFn}
use Rattle.core_meaning.specs.py_core.declared.stmt.CoreUse.{CoreUse}
use Rattle.core_meaning.specs.py_core.declared.stmt.CoreUse.TheVariants as taken
use Rattle.source_meaning.specs.Requests as s
use Rattle.source_meaning.specs.Requests.{source_kinds, Script, Function}
use Rattle.source_meaning.specs.Meaning.{SourceWorld}
use Rattle.core_meaning.specs.Requests as c
use Rattle.core_meaning.specs.Requests.{core_kinds}
use Rattle.core_meaning.specs.Meaning.{CoreWorld}
use Rattle.source_meaning.specs.py_world.World.{CodedSource, CodeOrFault, Code, Fault, FunctionCode, Frozen}
use Rattle.source_meaning.specs.py_world.Runs.{Told}
use Rattle.source_meaning.specs.py_world.Resuming.{ToldBegun}
use Rattle.lower_law.specs.Law.{LoweredWorld}
use Rattle.lower_law.specs.Sourced.{source_of, module_of, sources_in}

abbrev pub stored_view : FunctionCode CoreFn → FunctionCode Function
stored_view c = record { path = c.path; home = c.home; code = source_of c.code }

abbrev pub coded_view : CodeOrFault Core → CodeOrFault Script
coded_view (Code m) = Code (module_of m)
coded_view (Fault f) = Fault f

abbrev pub file_view : CodedSource Core → CodedSource Script
file_view x = record { path = x.path; bytes = x.bytes; code = coded_view x.code }

-- the use of what a `yield` is given
abbrev pub use_view : CoreUse → s.Use
use_view taken.NoUse = s.NoUse
use_view (taken.Targets source xs) = s.Targets (takers source.value.items)
use_view taken.Return = s.ReturnIt

-- what remains of a block, what guards one, and what a `yield` is given
abbrev pub layer_view : c.Layer → s.SourceLayer
layer_view (c.Statements b at) = s.Statements (explains_in b) (drop at (sources_in b))
layer_view (c.Guard g line) = s.Guard (explains_in (other_in g)) line (handlers (handlers_source g)) (sources_in (other_in g)) (sources_in (last_in g))
layer_view (c.Receives u) = s.Receives (use_view u)

abbrev pub frozen_view : Option (Frozen (List c.Layer)) → Option (Frozen (List s.SourceLayer))
frozen_view (Some f) = Some (record { rest = map layer_view f.rest; site = f.site; locals = f.locals })
frozen_view None = None

-- the core side is forgotten
abbrev pub source_view : CoreWorld → SourceWorld
source_view w = record { sources = map file_view w.sources; modules = w.modules; heap = w.heap; codes = map stored_view w.codes; printed = w.printed; frozen = map frozen_view w.frozen; traces = w.traces }

abbrev pub view_told : Told core_kinds → Told source_kinds
view_told t = (t.0, source_view t.1)

abbrev pub view_begun : ToldBegun core_kinds → ToldBegun source_kinds
view_begun t = (t.0, source_view t.1)

-- each code is a core code of the source that it carries
abbrev pub Sound : CoreWorld → Type 0
Sound w = ∥ LoweredWorld (source_view w) w ∥₁
