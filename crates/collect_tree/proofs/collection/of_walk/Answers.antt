use Rattle.std.proofs.Common.{Ok, sym, ap, ◌∙◌}
use Rattle.collect_words.specs.Words.{named_words}
use Rattle.collect_tree.specs.Collection.{of_words}
use Rattle.collect_tree.proofs.Ends.{is_same, refused_given}
use Rattle.collect_tree.proofs.collection.of_walk.Goals as goal

pub returns-in-Ok-clause-told : goal.returns-in-Ok-clause-told
returns-in-Ok-clause-told c =
    let t = c.of_sources.ensures.told in
    (t.0, t.1, is_same _ _ _ t.2 (ap (of_words c.args.options.now t.0 c.args.walk.now) (ap Ok c.items-in-Ok.ensures ∙ (sym c.in-Ok.ensures.ok ∙ ap (named_words c.args.walk.now) c.items.ensures))))

pub returns-in-Err-clause-told : goal.returns-in-Err-clause-told
returns-in-Err-clause-told c =
    let r = c.has_reading.ensures c.args.files.now in
    (r.0, r.1, refused_given c.args.options.now r.0 c.args.walk.now _ _ _ _ _ c.word_fault.ensures c.in-Err.ensures.refused (ap (named_words c.args.walk.now) c.items.ensures))
