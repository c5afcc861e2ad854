use Rattle.std.proofs.Common.{map}
use Rattle.std.specs.Prelude.{string_bytes}
use Rattle.py_bind.proofs.Places.{named_at, none_at}
use Rattle.py_bind.proofs.modules.find_module.Goals as goal

pub returns-clause-named : goal.returns-clause-named
returns-clause-named c = named_at (map string_bytes c.args.paths.now) c.as_bytes.result.now c.args.importer.now c.args.dotted.now c.module_place.result c.module_place.ensures c.as_bytes.ensures.value

pub returns-clause-none : goal.returns-clause-none
returns-clause-none c = none_at (map string_bytes c.args.paths.now) c.as_bytes.result.now c.args.importer.now c.args.dotted.now c.module_place.result c.module_place.ensures c.as_bytes.ensures.value
