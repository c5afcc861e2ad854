use Rattle.collect_tree.proofs.collection.of_sources.Goals as goal

pub returns-in_default-clause-told : goal.returns-in_default-clause-told
returns-in_default-clause-told c = let r = c.has_reading.ensures c.args.files.now in (r.0, r.1, tt)
