use Rattle.std.proofs.Common.{ap, sym}
use Rattle.frame_stacks.specs.Stacked.{first_of}
use Rattle.frame_stacks.proofs.Listed.{in_use, is_empty, is_first, no_values, read}
use Rattle.frame_stacks.proofs.lists.first.Goals as goal

pub get-requires : goal.get-requires
get-requires g c = in_use c.args.cells.now c.args.head c.in-Some.id (is_first c.args.cells.now c.args.head c.in-Some.id c.first.result c.requires c.first.ensures c.in-Some.is)

pub returns-in-Some : goal.returns-in-Some
returns-in-Some g c = read c.args.cells.now c.args.head c.in-Some.id c.get.result.now (is_first c.args.cells.now c.args.head c.in-Some.id c.first.result c.requires c.first.ensures c.in-Some.is) c.get.ensures

pub returns-in-None : goal.returns-in-None
returns-in-None g c = sym (ap first_of (no_values c.args.cells.now c.args.head (is_empty c.args.cells.now c.args.head c.first.result c.requires c.first.ensures c.in-None.is)))
