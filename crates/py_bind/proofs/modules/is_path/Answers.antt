use Rattle.std.proofs.Common.{◌∙◌}
use Rattle.py_bind.proofs.Paths.{path_is, path_not_dotted, path_not_in}
use Rattle.py_bind.proofs.modules.is_path.Goals as goal

pub returns-in-Some-behind_dotted : goal.returns-in-Some-behind_dotted
returns-in-Some-behind_dotted c = c.eq.ensures ∙ path_is c.args.folder.now c.args.dotted.now c.args.end.now c.args.path.now c.in-Some.rest.now c.in-Some-behind_dotted.rest.now c.in-Some.ensures c.in-Some-behind_dotted.ensures

pub returns-in-None-behind_dotted : goal.returns-in-None-behind_dotted
returns-in-None-behind_dotted c = path_not_dotted c.args.folder.now c.args.dotted.now c.args.end.now c.args.path.now c.in-Some.rest.now c.in-Some.ensures c.in-None-behind_dotted.ensures

pub returns-in-None : goal.returns-in-None
returns-in-None c = path_not_in c.args.folder.now c.args.dotted.now c.args.end.now c.args.path.now c.in-None.ensures
