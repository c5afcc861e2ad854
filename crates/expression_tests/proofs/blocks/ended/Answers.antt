use Rattle.expression_tests.proofs.blocks.ended.Goals as goal

pub returns : goal.returns
returns c = (c.args.tokens.items, record { pos = record { line = c.args.line; column = 1 }; offset = 0 }, c.in_ok-push.ensures.items)
