use Rattle.std.proofs.Common.{◌≡◌, ℕ, List, length, ap, sym, subst, ◌∙◌, Vec, Global}
use Rattle.std.specs.Prelude.{IsPermutation}
use Rattle.std.specs.List.{range_with_len}
use Rattle.std.proofs.lemmas.Result.{IfOk-weaker}
use Rattle.session_types.specs.declared.scope.Scope.TheVariants.{Session, Module, Class}
use Rattle.param_rows.specs.Grouping.{pass, regrouped}
use Rattle.param_rows.proofs.Regrouped.{regrouped_permutes}
use Rattle.param_rows.proofs.grouping.regroup.Goals as goal

pub returns : goal.returns
returns c =
    let items = c.args.items.now in
    let one = c.deref.ensures.value ∙ c.in_ok-order.ensures in
    let two = c.deref-2.ensures.value ∙ c.in_ok-order-2.ensures ∙ ap (pass Session items) one in
    let three = c.deref-3.ensures.value ∙ c.in_ok-order-3.ensures ∙ ap (pass Module items) two in
    let done : pass Class items c.deref-3.result.now ≡ regrouped items = ap (pass Class items) three in
    record {
      order = IfOk-weaker c.pass-3.result (λ (new : Vec ℕ Global). new.items ≡ pass Class items c.deref-3.result.now) (λ new. new.items ≡ regrouped items) (λ new e. e ∙ done) c.pass-3.ensures;
      permutation = IfOk-weaker c.pass-3.result (λ (new : Vec ℕ Global). new.items ≡ pass Class items c.deref-3.result.now) (λ new. IsPermutation (range_with_len 0 (length items)) new.items)
          (λ new e. subst (λ (xs : List ℕ). IsPermutation (range_with_len 0 (length items)) xs) (sym (e ∙ done)) (regrouped_permutes items)) c.pass-3.ensures;
    }
