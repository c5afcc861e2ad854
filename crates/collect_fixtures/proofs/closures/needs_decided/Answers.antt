use Rattle.collect_fixtures.proofs.Needs.{needs_closure, needs_fault}
use Rattle.collect_fixtures.proofs.closures.needs_decided.Goals as goal

pub returns : goal.returns
returns c = record {
  closure = λ table item bound uses args closure is. needs_closure table item bound uses args closure is;
  fault = λ table item bound uses args why is. needs_fault table item bound uses args why is;
}
