use Rattle.std.proofs.Common.{◌∙◌}
use Rattle.edge_io.specs.Files.{files_of}
use Rattle.generated_tree.proofs.Made.{whole, whole_fits, whole_in_order, whole_kept}
use Rattle.generated_tree.proofs.tree.generated_tree.Goals as goal

pub from_vec-requires : goal.from_vec-requires
from_vec-requires c =
    whole_in_order c.args.seed c.args.count (files_of c.push_tests.new.pairs.items) c.requires.2
    (whole c.args.seed c.args.count (files_of c.push_conftest.new.pairs.items) (files_of c.push_tests.new.pairs.items) c.in_ok-push_conftest.ensures c.in_ok-push_tests.ensures)

pub returns-clause-order : goal.returns-clause-order
returns-clause-order c =
    whole_in_order c.args.seed c.args.count c.from_vec.result c.requires.2
    (c.from_vec.ensures ∙ whole c.args.seed c.args.count (files_of c.push_conftest.new.pairs.items) (files_of c.push_tests.new.pairs.items) c.in_ok-push_conftest.ensures c.in_ok-push_tests.ensures)

pub returns-clause-kept : goal.returns-clause-kept
returns-clause-kept c =
    whole_kept c.args.seed c.args.count c.from_vec.result c.requires.2
    (c.from_vec.ensures ∙ whole c.args.seed c.args.count (files_of c.push_conftest.new.pairs.items) (files_of c.push_tests.new.pairs.items) c.in_ok-push_conftest.ensures c.in_ok-push_tests.ensures)

pub returns-clause-fits : goal.returns-clause-fits
returns-clause-fits c =
    whole_fits c.args.seed c.args.count c.from_vec.result c.requires.2
    (c.from_vec.ensures ∙ whole c.args.seed c.args.count (files_of c.push_conftest.new.pairs.items) (files_of c.push_tests.new.pairs.items) c.in_ok-push_conftest.ensures c.in_ok-push_tests.ensures)
