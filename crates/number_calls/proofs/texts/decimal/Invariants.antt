use Rattle.std.proofs.Common.{◌≡◌, ◌≤◌, ◌^◌, drop}
use Rattle.number_calls.specs.Texts.{decimal}
use Rattle.number_calls.proofs.texts.decimal.Given as goal

abbrev pub invariant-loop-digit : goal.invariant-loop-digit
invariant-loop-digit l = record {
  rest : decimal 0 l.digits ≡ decimal l.n (drop l.digit-index l.digits);
  small : l.n ≤ 2 ^ 127;
}
