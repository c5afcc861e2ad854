use Rattle.test_session.proofs.collecting.collect.Goals as goal

pub returns-in-Err-clause-refused : goal.returns-in-Err-clause-refused
returns-in-Err-clause-refused c = let r = c.has_reading.ensures c.args.files.now in (r.0, r.1, tt)
