-- A teardown behind a look at the functions of the codes.
use Rattle.std.proofs.Common.{◌≡◌, ℕ, List, [], Option, subst}
use Rattle.fixture_calls.specs.declared.failure.Failure.{Failure}
use Rattle.fixture_instances.specs.Views.{live_instances}
use Rattle.fixture_instances.specs.declared.items.ItemRef.{ItemRef}
use Rattle.py_values.specs.declared.object.Obj.{Obj}
use Rattle.py_values.specs.declared.value.Value.{Value}
use Rattle.run_items.specs.source_meaning.Meaning.{SourceWorld}
use Rattle.session_rules.specs.Teardown.{down_all, session_step}
use Rattle.session_types.specs.Live.{not_on}
use Rattle.setup_stack.specs.SetUps.{next_chain}
use Rattle.setup_stack.specs.Views.{stack_state}
use Rattle.setup_stack.specs.declared.stack.SetupStack as below
use Rattle.test_session.specs.Stacks.{looked_at, rules_of}
use Rattle.test_session.specs.declared.stack.SetupStack.{SetupStack}

abbrev Held : Type 0
Held = below.SetupStack Value Failure ℕ

module _ (heap : List Obj) (s t : SetupStack) (e : t ≡ looked_at heap s) (limit : ℕ) (next : Option (ItemRef Value)) where
  abbrev Left : List Failure → SourceWorld → SourceWorld → Held → SetupStack → Type 0
  Left raised w v k x =
      session_step raised (stack_state (rules_of limit [] 0 x) v k)
      ≡ down_all (rules_of limit [] 0 x) (not_on (next_chain x.plan.table next) (live_instances (rules_of limit [] 0 x) x.stand.stack.stack.live.live)) (stack_state (rules_of limit [] 0 x) w (record x.stand.stack.stack { given = [] }))

  pub left_there : (raised : List Failure) (w v : SourceWorld) (k : Held) → Left raised w v k t → Left raised w v k (looked_at heap s)
  left_there raised w v k l = subst (λ (x : SetupStack). Left raised w v k x) e l
