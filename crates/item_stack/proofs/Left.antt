-- What goes down, in the words of a session.
use Rattle.std.proofs.Common.{◌≡◌, ℕ, true, ◌&&◌, List, [], ◌∷◌, ◌++◌, inl, inr, refl, sym, ap, ap₂, ◌∙◌, eqb, eq-eqb, Option, None, Some}
use Rattle.std.specs.List.{filter}
use Rattle.fixture_table.specs.Tables.{TableValue}
use Rattle.item_stack.proofs.Same.{holding, live_same, state_same}
use Rattle.item_stack.specs.Leaving.{chain_for, left_for}
use Rattle.item_stack.specs.Plain.{plain_next}
use Rattle.item_stack.specs.States.{item_state}
use Rattle.item_stack.specs.declared.holding.ItemStack.{ItemStack}
use Rattle.session_rules.specs.Session.{finalize_own, finalized}
use Rattle.session_rules.specs.Teardown.{Grant, SessionState, Step, TeardownEnd, also_raised, closed_request, down_all, finalize_all, session_step, torn}
use Rattle.session_rules.specs.World.{ClosedRequest, Language, LiveInstance, Rules}
use Rattle.session_types.proofs.Lists.{In-list_any, or_left}
use Rattle.session_types.specs.Live.{has_off, is_off, not_on, rests_on}
use Rattle.session_types.specs.Members.{IsMember}
use Rattle.session_types.specs.Numbers.{among}
use Rattle.setup_stack.proofs.Passing.{all_over}
use Rattle.setup_stack.specs.Passing.{over_step}
use Rattle.setup_stack.specs.SetUps.{next_chain}
use Rattle.fixture_instances.specs.Views.{closed_with, live_instances}
use Rattle.setup_stack.specs.Views.{stack_state}

-- the chain of the next item is that of its node
pub next_same : (V : Type 0) (table : TableValue) (next : Option ℕ) → next_chain {V = V} table (plain_next next) ≡ chain_for table next
next_same V table None = refl
next_same V table (Some node) = refl

filter_all : {A : Type 0} (p : A → _) (xs : List A) → ((x : A) → IsMember x xs → p x ≡ true) → filter p xs ≡ xs
filter_all p [] h = refl
filter_all {A} p (x ∷ xs) h = rw (h x (inl refl)) (ap (λ (l : List A). x ∷ l) (filter_all p xs (λ y m. h y (inr m))))

-- with no next item all that live go down
pub all_off : {L : Language} (live : List (LiveInstance L)) → not_on [] live ≡ live
all_off {L} live =
    filter_all (has_off live []) live
    (λ i m. In-list_any (λ (g : LiveInstance L). is_off [] g && rests_on g.order i) i live m (or_left (eqb i.order i.order) (among i.order i.bases) (eq-eqb i.order i.order refl)))

module _ {L : Language} (rules : Rules L) where
  -- the finalizers of the test's own request
  pub own_finalized : (w w1 w2 : L.World) (s : ItemStack L.Value L.Thrown L.Rest) (finalizers : List L.Value) (raised : List L.Thrown)
      → closed_with rules finalizers w1 ≡ closed_request rules s.request w → torn raised w2 ≡ finalize_all rules finalizers (torn [] w1)
      → session_step raised (item_state rules w2 (record s { request = None })) ≡ finalize_own rules (item_state rules w s)
  own_finalized w w1 w2 s finalizers raised e f =
      ap (λ (t : TeardownEnd L). session_step t.raised (record (item_state rules w s) { world = t.world; request = None })) f
      ∙ ap (λ (c : ClosedRequest L). finalized rules c (item_state rules w s)) e

  -- what isn't for these nodes goes down
  pub gone_down : (chain : List ℕ) (w w2 : L.World) (s s2 : ItemStack L.Value L.Thrown L.Rest) (raised : List L.Thrown) → s2.request ≡ s.request
      → session_step raised (stack_state rules w2 s2.stack) ≡ down_all rules (not_on chain (live_instances rules s.stack.live.live)) (stack_state rules w (record s.stack { given = [] }))
      → session_step raised (item_state rules w2 s2) ≡ down_all rules (not_on chain (item_state rules w s).live) (record (item_state rules w s) { given = [] })
  gone_down chain w w2 s s2 raised q e =
      let t = stack_state rules w (record s.stack { given = [] }) in
      ap (λ (u : SessionState L). session_step raised u) (state_same rules w2 s2)
      ∙ (ap (λ (r : Option L.Value). over_step (holding w r) (session_step raised (stack_state rules w2 s2.stack))) q
      ∙ (ap (λ (x : Step L). over_step (holding w s.request) x) e
      ∙ (sym (all_over rules (holding w s.request) (not_on chain (live_instances rules s.stack.live.live)) t)
      ∙ ap (λ (l : List (LiveInstance L)). down_all rules (not_on chain l) (record (item_state rules w s) { live = l; given = [] })) (sym (live_same rules s.stack.live.live)))))

  pub left_both : (chain : List ℕ) (s t u : SessionState L) (raised more all : List L.Thrown) → session_step raised t ≡ finalize_own rules s → session_step more u ≡ down_all rules (not_on chain t.live) (record t { given = [] }) → all ≡ raised ++ more
      → session_step all u ≡ left_for rules chain s
  left_both chain s t u raised more all e f q =
      ap (λ (l : List L.Thrown). session_step l u) q
      ∙ (ap (λ (r : Step L). also_raised raised r) f
      ∙ ap (λ (r : Step L). also_raised r.raised (down_all rules (not_on chain r.state.live) (record r.state { given = [] }))) e)

  -- where nothing is given, it is forgotten already
  pub down_same : (s : SessionState L) (raised : List L.Thrown) (t : SessionState L) → s.given ≡ [] → session_step raised t ≡ down_all rules (not_on [] s.live) (record s { given = [] }) → session_step raised t ≡ down_all rules s.live s
  down_same s raised t g e =
      e ∙ ap₂ (λ (l : List (LiveInstance L)) (given : List (Grant L)). down_all rules l (record s { given = given })) (all_off s.live) (sym g)
