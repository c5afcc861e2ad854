use Rattle.std.proofs.Common.{◌++◌, ◌<◌, ◌≤◌, length, take, ap, sym, subst, ◌∙◌, refl, arith}
use Rattle.std.proofs.lemmas.Bool.Decides.{nat_tests}
use Rattle.std.proofs.lemmas.List.{take_rest, length-drop}
use Rattle.param_rows.specs.Grouping.{grouped, same_key, keys_of, are_neighbours}
use Rattle.param_rows.proofs.Groups.{pass_more}
use Rattle.param_rows.proofs.grouping.pass.Goals as goal

pub loop-rest-preserved : goal.loop-rest-preserved
loop-rest-preserved c =
    let rest = c.loop-rest.rest.now in
    let many = c.run_len-many.result in
    let some : 0 < length rest = grind (arith, nat_tests) in
    let behind = take_rest rest many in (
      subst (λ xs. length xs ≤ length c.args.order.now) (sym behind) (omega (arith, length-drop many rest, c.loop-rest.invariant.0)),
      pass_more (are_neighbours c.args.scope c.args.items.now) (grouped (same_key (keys_of c.args.scope c.args.items.now))) c.loop-rest.new.items c.push_grouped.new.new.items rest _ _ many many
          some c.run_len-many.ensures.value refl
          (c.in_ok-push_grouped.ensures ∙ ap (λ keys. c.loop-rest.new.items ++ grouped (same_key keys) (take many rest)) (c.deref.ensures.value ∙ c.in_ok-keys.ensures))
          behind c.loop-rest.invariant.1,
    )
