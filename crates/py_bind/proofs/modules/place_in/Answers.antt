use Rattle.std.proofs.Common.{map}
use Rattle.std.specs.Prelude.{string_bytes, codes}
use Rattle.py_bind.specs.Modules.{module_path, place_of}
use Rattle.py_bind.proofs.Places.{or_some, or_none}
use Rattle.py_bind.proofs.modules.place_in.Goals as goal

pub returns-in-Some : goal.returns-in-Some
returns-in-Some c = or_some (place_of (map string_bytes c.args.paths.now) (module_path c.args.folder.now c.args.dotted.now (codes "/__init__.py"))) (place_of (map string_bytes c.args.paths.now) (module_path c.args.folder.now c.args.dotted.now (codes ".py"))) c.in-Some.at c.in-Some.ensures

pub returns-in-None : goal.returns-in-None
returns-in-None c = or_none (place_of (map string_bytes c.args.paths.now) (module_path c.args.folder.now c.args.dotted.now (codes "/__init__.py"))) (place_of (map string_bytes c.args.paths.now) (module_path c.args.folder.now c.args.dotted.now (codes ".py"))) c.place_of-in-None.result c.in-None.ensures c.place_of-in-None.ensures
