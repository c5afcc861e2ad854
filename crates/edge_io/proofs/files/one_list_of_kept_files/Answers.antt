use Rattle.edge_io.proofs.OneList.{one_list}
use Rattle.edge_io.proofs.files.one_list_of_kept_files.Goals as goal

pub returns : goal.returns
returns c = one_list
