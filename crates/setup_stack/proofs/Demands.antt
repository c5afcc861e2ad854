-- What a demand for an item answers, and what it notes: the calls of the code, put together.
use Rattle.std.proofs.Common.{◌≡◌, ℕ, List, [], ◌∷◌, ◌++◌, refl, sym, ap, ◌∙◌, Ok}
use Rattle.setup_stack.specs.declared.answers.Answer.{Answer as CodeAnswer}
use Rattle.setup_stack.specs.declared.answers.Answer.TheVariants as told
use Rattle.setup_stack.specs.declared.answers.Grant.{Grant as CodeGrant}
use Rattle.setup_stack.specs.declared.stack.SetupStack.{SetupStack}
use Rattle.setup_stack.specs.SetUps.{IsDemanded}
use Rattle.setup_stack.specs.Views.{answer_in, grant_of, grants_of, stack_state}
use Rattle.session_rules.specs.Demand.{Given, Reply, demand, reply}
use Rattle.session_rules.specs.Session.{demand_closure, demand_next, with_grant}
use Rattle.session_rules.specs.Teardown.{Grant, SessionState, session_step}
use Rattle.session_rules.specs.World.{Item, Language, Rules}
use Rattle.setup_stack.proofs.Turns.{grants_push}

pub given_noted : {L : Language} (rules : Rules L) (a : CodeAnswer L.Value L.Thrown) (g : CodeGrant L.Value) (w : L.World) (s : SetupStack L.Value L.Thrown L.Rest) (given : List (CodeGrant L.Value)) (r : Reply L)
    → r ≡ reply (answer_in rules a) (stack_state rules w s)
    → a ≡ told.Given g
    → given ≡ s.given ++ g ∷ []
    → IsDemanded rules (Ok g.value) r (stack_state rules w (record s { given = given }))
given_noted {L} rules a g w s given r er ea eg =
    let e : r ≡ reply (Given (grant_of rules g)) (stack_state rules w s) = er ∙ ap (λ (x : CodeAnswer L.Value L.Thrown). reply (answer_in rules x) (stack_state rules w s)) ea in
    let more : grants_of rules given ≡ grants_of rules s.given ++ grant_of rules g ∷ [] = ap (λ (l : List (CodeGrant L.Value)). grants_of rules l) eg ∙ grants_push rules s.given g in (
      grant_of rules g,
      ap (λ (x : Reply L). x.answer) e,
      refl,
      ap (λ (l : List (Grant L)). record (stack_state rules w s) { given = l }) more ∙ ap (λ (x : Reply L). with_grant (grant_of rules g) x.state) (sym e),
    )

-- one definition more of a closure
module _ {L : Language} (rules : Rules L) (item : Item) (d : ℕ) (ds : List ℕ) (s : SessionState L) (a : CodeAnswer L.Value L.Thrown) (w : L.World) (t : SetupStack L.Value L.Thrown L.Rest) (e : demand rules item rules.depth d s ≡ reply (answer_in rules a) (stack_state rules w t)) where
  next_of_closure : demand_closure rules item (d ∷ ds) s ≡ demand_next (demand_closure rules item ds) (answer_in rules a) (stack_state rules w t)
  next_of_closure = ap (λ (r : Reply L). demand_next (demand_closure rules item ds) r.answer r.state) e

  pub closure_goes : (g : CodeGrant L.Value) (given : List (CodeGrant L.Value)) → a ≡ told.Given g → given ≡ t.given ++ g ∷ [] → demand_closure rules item (d ∷ ds) s ≡ demand_closure rules item ds (stack_state rules w (record t { given = given }))
  closure_goes g given ea eg =
      next_of_closure
      ∙ (ap (λ (x : CodeAnswer L.Value L.Thrown). demand_next (demand_closure rules item ds) (answer_in rules x) (stack_state rules w t)) ea
      ∙ (ap (λ (l : List (Grant L)). demand_closure rules item ds (record (stack_state rules w t) { given = l })) (sym (grants_push rules t.given g))
      ∙ ap (λ (l : List (CodeGrant L.Value)). demand_closure rules item ds (record (stack_state rules w t) { given = grants_of rules l })) (sym eg)))

  pub closure_ends : (es : List L.Thrown) → a ≡ told.Refused es → demand_closure rules item (d ∷ ds) s ≡ session_step es (stack_state rules w t)
  closure_ends es ea = next_of_closure ∙ ap (λ (x : CodeAnswer L.Value L.Thrown). demand_next (demand_closure rules item ds) (answer_in rules x) (stack_state rules w t)) ea
