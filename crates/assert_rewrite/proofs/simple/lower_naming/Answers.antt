use Rattle.std.proofs.Common.{rules, ◌≡◌}
use Rattle.assert_rewrite.proofs.SimpleForms.{global_form, import_form, from_form}
use Rattle.assert_rewrite.proofs.simple.lower_naming.Goals as goal

pub returns-in_ok-clone-in-Global : goal.returns-in_ok-clone-in-Global
returns-in_ok-clone-in-Global c =
    let same : c.in_ok-clone-in-Global.field-0.value ≡ c.in-Global.names.value = search rules in
    global_form c.args.explains c.args.stmt.now.at c.args.stmt.now.kind c.in-Global.names c.in_ok-clone-in-Global.field-0 c.in-Global.is same

pub returns-in_ok-clone-in-Import : goal.returns-in_ok-clone-in-Import
returns-in_ok-clone-in-Import c =
    let same : c.in_ok-clone-in-Import.field-0.value ≡ c.in-Import.names.value = search rules in
    import_form c.args.explains c.args.stmt.now.at c.args.stmt.now.kind c.in-Import.names c.in_ok-clone-in-Import.field-0 c.in-Import.alias c.in_ok-alias-in-Import.alias c.in-Import.is same c.in_ok-alias-in-Import.ensures

pub returns-in_ok-clone-in-ImportFrom : goal.returns-in_ok-clone-in-ImportFrom
returns-in_ok-clone-in-ImportFrom c =
    let same : c.in_ok-clone-in-ImportFrom.field-0.value ≡ c.in-ImportFrom.names.value = search rules in
    let are : c.in_ok-all-in-ImportFrom.all.value ≡ c.in-ImportFrom.all.value = search rules in
    from_form c.args.explains c.args.stmt.now.at c.args.stmt.now.kind c.in-ImportFrom.names c.in_ok-clone-in-ImportFrom.field-0 c.in-ImportFrom.all c.in_ok-all-in-ImportFrom.all c.in-ImportFrom.is same are
