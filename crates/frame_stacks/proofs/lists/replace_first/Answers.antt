use Rattle.std.proofs.Common.{ap, sym, ◌∙◌}
use Rattle.frame_stacks.specs.Stacked.{first_of, with_first}
use Rattle.frame_stacks.proofs.Listed.{in_use, is_empty, is_first, no_values, swapped}
use Rattle.frame_stacks.proofs.lists.replace_first.Goals as goal

pub replace-requires : goal.replace-requires
replace-requires g c = in_use c.args.cells.now c.args.head c.in-Some.id (is_first c.args.cells.now c.args.head c.in-Some.id c.first.result c.requires c.first.ensures c.in-Some.is)

pub returns-in-Some-clause-used : goal.returns-in-Some-clause-used
returns-in-Some-clause-used g c = (swapped c.args.cells.now c.replace.new.self c.args.head c.in-Some.id c.replace.result c.args.value (is_first c.args.cells.now c.args.head c.in-Some.id c.first.result c.requires c.first.ensures c.in-Some.is) c.replace.ensures).used

pub returns-in-Some-clause-before : goal.returns-in-Some-clause-before
returns-in-Some-clause-before g c = (swapped c.args.cells.now c.replace.new.self c.args.head c.in-Some.id c.replace.result c.args.value (is_first c.args.cells.now c.args.head c.in-Some.id c.first.result c.requires c.first.ensures c.in-Some.is) c.replace.ensures).before

pub returns-in-Some-clause-replaced : goal.returns-in-Some-clause-replaced
returns-in-Some-clause-replaced g c = (swapped c.args.cells.now c.replace.new.self c.args.head c.in-Some.id c.replace.result c.args.value (is_first c.args.cells.now c.args.head c.in-Some.id c.first.result c.requires c.first.ensures c.in-Some.is) c.replace.ensures).values

pub returns-in-Some-clause-others : goal.returns-in-Some-clause-others
returns-in-Some-clause-others g c = (swapped c.args.cells.now c.replace.new.self c.args.head c.in-Some.id c.replace.result c.args.value (is_first c.args.cells.now c.args.head c.in-Some.id c.first.result c.requires c.first.ensures c.in-Some.is) c.replace.ensures).others

pub returns-in-None-clause-before : goal.returns-in-None-clause-before
returns-in-None-clause-before g c = sym (ap first_of (no_values c.args.cells.now c.args.head (is_empty c.args.cells.now c.args.head c.first.result c.requires c.first.ensures c.in-None.is)))

pub returns-in-None-clause-replaced : goal.returns-in-None-clause-replaced
returns-in-None-clause-replaced g c =
    let none = no_values c.args.cells.now c.args.head (is_empty c.args.cells.now c.args.head c.first.result c.requires c.first.ensures c.in-None.is) in
    none ∙ sym (ap (with_first c.args.value) none)
