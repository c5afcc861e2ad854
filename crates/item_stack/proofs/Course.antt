-- Demands and teardowns pass over what hooks leave in a state: the `item` objects, the values that were gathered, whether the teardown was
-- reached.
use Rattle.std.proofs.Common.{◌≡◌, ℕ, true, List, [], ap, sym, ◌∙◌, Option}
use Rattle.item_stack.proofs.Asked.{closure_over}
use Rattle.item_stack.specs.Leaving.{left_for}
use Rattle.session_rules.specs.Session.{chain_of, demand_closure, finalize_own, leave}
use Rattle.session_rules.specs.Teardown.{SessionState, Step, also_raised, down_all, session_step}
use Rattle.session_rules.specs.World.{Item, Language, LiveInstance, Rules}
use Rattle.session_types.specs.Live.{not_on}
use Rattle.setup_stack.proofs.Passing.{all_over}
use Rattle.setup_stack.specs.Passing.{over, over_step}

-- a state with these of another
abbrev pub in_course : {L : Language} → SessionState L → SessionState L → SessionState L
in_course h t = record t { objects = h.objects; values = h.values; left = h.left }

abbrev pub course_step : {L : Language} → SessionState L → Step L → Step L
course_step h r = session_step r.raised (in_course h r.state)

-- what passes over all that it does not look at
passes : {L : Language} (act : SessionState L → Step L) → ((s t : SessionState L) → act (over s t) ≡ over_step s (act t)) → (h t : SessionState L) → act (in_course h t) ≡ course_step h (act t)
passes {L} act law h t = law (in_course h t) t ∙ ap (λ (r : Step L). course_step h r) (sym (law t t))

module _ {L : Language} (rules : Rules L) (h : SessionState L) where
  down_passes : (set : List (LiveInstance L)) (t : SessionState L) → down_all rules set (in_course h t) ≡ course_step h (down_all rules set t)
  down_passes set t = passes (down_all rules set) (λ x u. all_over rules x set u) h t

  -- demands of a closure
  pub demanded_in_course : (item : Item) (ds : List ℕ) (raised : List L.Thrown) (s t : SessionState L) → session_step raised t ≡ demand_closure rules item ds s → session_step raised (in_course h t) ≡ demand_closure rules item ds (in_course h s)
  demanded_in_course item ds raised s t e =
      ap (λ (r : Step L). course_step h r) e ∙ sym (passes (demand_closure rules item ds) (λ x u. closure_over rules x item ds u) h s)

  -- the teardown of all that live
  pub down_in_course : (raised : List L.Thrown) (s t : SessionState L) → session_step raised t ≡ down_all rules s.live s → session_step raised (in_course h t) ≡ down_all rules s.live (in_course h s)
  down_in_course raised s t e = ap (λ (r : Step L). course_step h r) e ∙ sym (down_passes s.live s)

-- the teardown of an item is reached
pub left_in_course : {L : Language} (rules : Rules L) (next : Option Item) (h : SessionState L) (raised : List L.Thrown) (s t : SessionState L) → session_step raised t ≡ left_for rules (chain_of next) s
    → session_step raised (in_course (record h { left = true }) t) ≡ leave rules next (in_course h s)
left_in_course {L} rules next h raised s t e =
    let u = finalize_own rules s in
    ap (λ (r : Step L). course_step (record h { left = true }) r) e
    ∙ ap (λ (r : Step L). also_raised u.raised r) (sym (down_passes rules (record h { left = true }) (not_on (chain_of next) u.state.live) (record u.state { given = [] })))
