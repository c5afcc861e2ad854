use Rattle.std.proofs.Common.{List, ap, ap₂, ◌∙◌}
use Rattle.collect_items.specs.Reads.{files_read}
use Rattle.collection_nodes.specs.declared.test_file.TestFile.{TestFile}
use Rattle.py_values.specs.declared.object.Obj.{Obj}
use Rattle.collect_tree.proofs.Finds.{asked_found, asked_loaded, is_found}
use Rattle.collect_tree.specs.Collection.{ends_with_printed}
use Rattle.collect_tree.specs.Told.{loaded_told}
use Rattle.collect_tree.proofs.found.found_asked.Goals as goal

pub returns-clause-found : goal.returns-clause-found
returns-clause-found c =
    let f = c.in_ok-found.ensures in
    is_found c.args.walk.now c.in_ok-found.found _ _
    (asked_found c.args.limit c.args.hooks.now c.args.walk.now c.args.above.now (loaded_told c.args.loaded c.args.world.now) c.in_ok-basis.field-0 _ c.asked_files.new.world _ _
    (c.in_ok-basis.ensures ∙ ap₂ (λ (heap : List Obj) (files : List TestFile). files_read heap c.args.walk.now c.args.above.now files) c.heap.ensures c.deref.ensures.value) c.in_ok-asked.ensures
    c.in_ok-came.ensures c.heap-2.ensures)
    f.suite f.places f.keys f.nodes f.faults

pub returns-clause-loaded : goal.returns-clause-loaded
returns-clause-loaded c =
    asked_loaded c.args.limit c.args.hooks.now c.args.walk.now c.args.above.now (loaded_told c.args.loaded c.args.world.now) c.in_ok-basis.field-0 _ c.asked_files.new.world _
    (c.in_ok-basis.ensures ∙ ap₂ (λ (heap : List Obj) (files : List TestFile). files_read heap c.args.walk.now c.args.above.now files) c.heap.ensures c.deref.ensures.value) c.in_ok-asked.ensures
    (c.in_ok-ends.ensures ∙ ap (ends_with_printed c.args.loaded.ends.items) c.items.ensures)
