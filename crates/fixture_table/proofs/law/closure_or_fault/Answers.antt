use Rattle.fixture_table.proofs.Deciding as deciding
use Rattle.fixture_table.proofs.law.closure_or_fault.Goals as goal

pub returns : goal.returns
returns c = record {
  some = λ nodes defs item bound uses args. deciding.closure_or_fault nodes defs item bound uses args;
  not_both = λ nodes defs item bound uses args closure fault a b. deciding.not_both nodes defs item bound uses args closure fault a b;
  one_closure = λ nodes defs item bound uses args a b c d. deciding.one_closure nodes defs item bound uses args a b c d;
  one_fault = λ nodes defs item bound uses args a b f g. deciding.one_fault nodes defs item bound uses args a b f g;
}
