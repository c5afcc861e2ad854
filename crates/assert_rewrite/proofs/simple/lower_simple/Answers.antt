use Rattle.assert_rewrite.proofs.SimpleForms.{return_form, raise_form}
use Rattle.assert_rewrite.proofs.simple.lower_simple.Goals as goal

pub returns-in_ok-lower_some-in-Return : goal.returns-in_ok-lower_some-in-Return
returns-in_ok-lower_some-in-Return c = return_form c.args.explains c.args.stmt.now.at c.args.stmt.now.kind c.in-Return.value c.in_ok-lower_some-in-Return.field-0 c.in-Return.is c.in_ok-lower_some-in-Return.ensures

pub returns-in_ok-lower_some-in-Raise : goal.returns-in_ok-lower_some-in-Raise
returns-in_ok-lower_some-in-Raise c = raise_form c.args.explains c.args.stmt.now.at c.args.stmt.now.kind c.in-Raise.value c.in_ok-lower_some-in-Raise.field-0 c.in-Raise.is c.in_ok-lower_some-in-Raise.ensures
