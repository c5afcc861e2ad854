use Rattle.py_load.proofs.Readings.{one_list}
use Rattle.py_load.proofs.laws.one_reading.Goals as goal

pub returns : goal.returns
returns c = one_list c.one_source.ensures
