use Rattle.py_load.proofs.Readings.{some_list}
use Rattle.py_load.proofs.laws.has_reading.Goals as goal

pub returns : goal.returns
returns c = some_list c.has_source.ensures
