use Rattle.match_pattern.proofs.Meaning.{decided}
use Rattle.match_pattern.proofs.searching.found.Goals as goal

pub returns-clause-matches : goal.returns-clause-matches
returns-clause-matches c = decided c.args.pattern.now c.args.text.now c.is_found.result c.is_found.ensures
