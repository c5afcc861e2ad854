use Rattle.std.proofs.Common.{List, ℕ, sym, ap, ◌∙◌}
use Rattle.std.specs.Prelude.{encode_utf8_all}
use Rattle.py_bind.specs.Modules.{rest_after}
use Rattle.py_bind.proofs.Paths.{char_step, char_stop, none_given}
use Rattle.py_bind.proofs.modules.behind_name.Goals as goal

pub returns-in_err-rest : goal.returns-in_err-rest
returns-in_err-rest c = none_given c.from_residual.result (encode_utf8_all c.args.name.now) c.args.text.now c.from_residual.ensures
    (ap (λ (cs : List ℕ). rest_after (encode_utf8_all cs) c.args.text.now) (sym c.chars-chars.ensures) ∙ (sym c.loop-c.invariant ∙ char_stop c.chars-chars.result.now c.loop-c.c-index c.c-item.result c.loop-c.rest.now c.loop-c-test.true c.c-item.is c.in_err-rest.ensures))

pub loop-c-preserved : goal.loop-c-preserved
loop-c-preserved c = char_step c.chars-chars.result.now c.loop-c.c-index c.c-item.result c.loop-c.rest.now c.in_ok-rest.rest.now c.loop-c-test.true c.c-item.is c.in_ok-rest.ensures ∙ c.loop-c.invariant
