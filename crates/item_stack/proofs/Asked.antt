-- The demands of an item.
use Rattle.std.proofs.Common.{◌≡◌, ℕ, List, [], ◌∷◌, refl, sym, ap, ◌∙◌, Option}
use Rattle.fixture_instances.specs.Items.{item_for_session}
use Rattle.fixture_instances.specs.declared.items.ItemRef.{ItemRef}
use Rattle.fixture_table.specs.Tables.{TableValue}
use Rattle.item_stack.proofs.Same.{holding, state_same}
use Rattle.item_stack.specs.States.{item_state}
use Rattle.item_stack.specs.declared.holding.ItemStack.{ItemStack}
use Rattle.session_rules.specs.Demand.{Answer, Given, Refused, Reply, demand}
use Rattle.session_rules.specs.Session.{demand_closure, demand_next, with_grant}
use Rattle.session_rules.specs.Teardown.{SessionState, Step, session_step}
use Rattle.session_rules.specs.World.{Item, Language, Rules}
use Rattle.setup_stack.proofs.Passing.{demand_alike, demand_over}
use Rattle.setup_stack.specs.Passing.{AreAsked, over, over_step}
use Rattle.setup_stack.specs.Views.{stack_state}

module _ {L : Language} (rules : Rules L) where
  -- demands of a closure pass over what they don't look at
  next_over : (h : SessionState L) (item : Item) (ds : List ℕ) → ((t : SessionState L) → demand_closure rules item ds (over h t) ≡ over_step h (demand_closure rules item ds t)) → (a : Answer L) (t : SessionState L) → demand_next (demand_closure rules item ds) a (over h t) ≡ over_step h (demand_next (demand_closure rules item ds) a t)
  next_over h item ds law (Given i) t = law (with_grant i t)
  next_over h item ds law (Refused es) t = refl

  pub closure_over : (h : SessionState L) (item : Item) (ds : List ℕ) (t : SessionState L) → demand_closure rules item ds (over h t) ≡ over_step h (demand_closure rules item ds t)
  closure_over h item [] t = refl
  closure_over h item (d ∷ ds) t =
      ap (λ (r : Reply L). demand_next (demand_closure rules item ds) r.answer r.state) (demand_over rules h item rules.depth d t)
      ∙ next_over h item ds (closure_over h item ds) (demand rules item rules.depth d t).answer (demand rules item rules.depth d t).state

  next_alike : (one other : Item) (ds : List ℕ) → ((t : SessionState L) → demand_closure rules one ds t ≡ demand_closure rules other ds t) → (a : Answer L) (t : SessionState L) → demand_next (demand_closure rules one ds) a t ≡ demand_next (demand_closure rules other ds) a t
  next_alike one other ds law (Given i) t = law (with_grant i t)
  next_alike one other ds law (Refused es) t = refl

  closure_alike : (one other : Item) → AreAsked one other → (ds : List ℕ) (t : SessionState L) → demand_closure rules one ds t ≡ demand_closure rules other ds t
  closure_alike one other same [] t = refl
  closure_alike one other same (d ∷ ds) t =
      ap (λ (r : Reply L). demand_next (demand_closure rules one ds) r.answer r.state) (demand_alike rules one other same rules.depth d t)
      ∙ next_alike one other ds (closure_alike one other same ds) (demand rules other rules.depth d t).answer (demand rules other rules.depth d t).state

  -- what the demands of a closure leave, in the state with the request
  pub closure_left : (item : Item) (table : TableValue) (at : ItemRef L.Value) (ds : List ℕ) (w w2 : L.World) (s s2 : ItemStack L.Value L.Thrown L.Rest) (raised : List L.Thrown)
      → AreAsked item (item_for_session table at)
      → at.own ≡ s.stack.own → s2.request ≡ s.request
      → session_step raised (stack_state rules w2 s2.stack) ≡ demand_closure rules (item_for_session table at) ds (stack_state rules w (record s.stack { own = at.own }))
      → session_step raised (item_state rules w2 s2) ≡ demand_closure rules item ds (item_state rules w s)
  closure_left item table at ds w w2 s s2 raised a own same e =
      let other = item_for_session table at in
      ap (λ (u : SessionState L). session_step raised u) (state_same rules w2 s2)
      ∙ (ap (λ (r : Option L.Value). over_step (holding w r) (session_step raised (stack_state rules w2 s2.stack))) same
      ∙ (ap (λ (x : Step L). over_step (holding w s.request) x) (e ∙ ap (λ (o : Option L.Value). demand_closure rules other ds (stack_state rules w (record s.stack { own = o }))) own)
      ∙ (sym (closure_over (holding w s.request) other ds (stack_state rules w s.stack))
      ∙ (ap (λ (u : SessionState L). demand_closure rules other ds u) (sym (state_same rules w s))
      ∙ sym (closure_alike item other a ds (item_state rules w s))))))
