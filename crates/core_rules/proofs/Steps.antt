-- The steps that are told are exact.
use Rattle.std.proofs.Common.{◌≡◌, ◌∙◌, ◌+◌, ◌-◌, ◌≤◌, ◌<◌, arith, ℕ, zero, suc, suc-add, zero-add, ◌⊎◌, inl, inr, List, Option, Some, None, refl, sym, ap, subst}
use Rattle.std.proofs.lemmas.Bool.{cases_lt}
use Rattle.run_tree.specs.Todo.{Todo, Done, Note, Spend, Ask, Freeze, Ending, Ended, Spent, Frozen, run}
use Rattle.run_tree.proofs.Runs.{run-Done, run-Note, run-Freeze}
use Rattle.py_values.specs.declared.value.Value.{Value}
use Rattle.py_values.specs.declared.value.Value.TheVariants as val
use Rattle.source_meaning.specs.py_world.declared.load.Load.{Load}
use Rattle.source_meaning.specs.py_world.declared.load.Load.TheVariants.{Running, Loaded, Failed}
use Rattle.source_meaning.specs.py_world.World.{Kinds, World, Frozen as Frame}
use Rattle.source_meaning.specs.py_world.Outcome.{Gave, Next, Returned, Broke, Continued, Raised, Outcome, Rest, Suspension}
use Rattle.source_meaning.specs.py_world.Calls.{Meaning, body_of}
use Rattle.source_meaning.specs.py_world.Runs.{Told, begun_by_runner, call_of, coded, ended_by, ended_value, load_at, loaded_by, loaded_first, loading, module_load, run_of, source_at, start, told_by}
use Rattle.source_meaning.specs.py_world.Resuming.{Sent, ToldBegun, abandon_of, begin_of, begun_by, begun_of, begun_over, begun_yielded, frozen_at, opened_by_runner, resume_of, resumed, resumed_by}
use Rattle.core_rules.specs.Steps.{IsBegunExact, IsBegunExhausted, IsExact, IsExhausted, StepsAreExact}

-- NUMBERS
le_same : (n : ℕ) → n ≤ n
le_same n = omega arith

minus_le : (n m : ℕ) → n - m ≤ n
minus_le n m = omega arith

minus_both : (n m k : ℕ) → (n + k) - (m + k) ≡ n - m
minus_both n m k = omega arith

-- RUNS under two budgets
module _ {N X R O F : Type 0} (body : R → (O → Todo N X R O F) → Todo N X R O F) where
  -- what is left is at most this
  abbrev LeftIn : ℕ → Ending N X R O F → Type 0
  LeftIn n (Ended o m) = m ≤ n
  LeftIn n (Spent x) = Unit {0}
  LeftIn n (Frozen f m) = m ≤ n

  -- and less than this
  abbrev LeftBelow : ℕ → Ending N X R O F → Type 0
  LeftBelow n (Ended o m) = m < n
  LeftBelow n (Spent x) = Unit {0}
  LeftBelow n (Frozen f m) = m < n

  left_more : (n : ℕ) (e : Ending N X R O F) → LeftIn n e → LeftIn (suc n) e
  left_more n (Ended o m) h = omega (arith, h)
  left_more n (Spent x) h = tt
  left_more n (Frozen f m) h = omega (arith, h)

  left_below : (n : ℕ) (e : Ending N X R O F) → LeftIn n e → LeftBelow (suc n) e
  left_below n (Ended o m) h = omega (arith, h)
  left_below n (Spent x) h = tt
  left_below n (Frozen f m) h = omega (arith, h)

  left_in : (n : ℕ) (t : Todo N X R O F) → LeftIn n (run body n t).1
  left_in zero (Done o) = le_same zero
  left_in zero (Note m t) = left_in zero t
  left_in zero (Spend x t) = tt
  left_in zero (Ask x r k) = tt
  left_in zero (Freeze f) = le_same zero
  left_in (suc n) (Done o) = le_same (suc n)
  left_in (suc n) (Note m t) = left_in (suc n) t
  left_in (suc n) (Spend x t) = left_more n (run body n t).1 (left_in n t)
  left_in (suc n) (Ask x r k) = left_more n (run body n (body r k)).1 (left_in n (body r k))
  left_in (suc n) (Freeze f) = le_same (suc n)

  -- the end under a budget that is longer by so many steps
  abbrev Longer : ℕ → Ending N X R O F → Ending N X R O F → Type 0
  Longer k (Ended o m) e = e ≡ Ended o (m + k)
  Longer k (Spent x) e = LeftBelow k e
  Longer k (Frozen f m) e = e ≡ Frozen f (m + k)

  below_spend : (k : ℕ) (x : X) (t : Todo N X R O F) → LeftBelow k (run body k (Spend x t)).1
  below_spend zero x t = tt
  below_spend (suc k) x t = left_below k (run body k t).1 (left_in k t)

  below_ask : (k : ℕ) (x : X) (r : R) (q : O → Todo N X R O F) → LeftBelow k (run body k (Ask x r q)).1
  below_ask zero x r q = tt
  below_ask (suc k) x r q = left_below k (run body k (body r q)).1 (left_in k (body r q))

  longer : (n k : ℕ) (t : Todo N X R O F) → Longer k (run body n t).1 (run body (n + k) t).1
  longer zero k (Done o) = ap (λ r. r.1) (run-Done body (zero + k) o)
  longer zero k (Note m t) = subst (λ (e : Ending N X R O F). Longer k (run body zero t).1 e) (sym (ap (λ r. r.1) (run-Note body (zero + k) m t))) (longer zero k t)
  longer zero k (Spend x t) = subst (λ (j : ℕ). LeftBelow k (run body j (Spend x t)).1) (sym (zero-add k)) (below_spend k x t)
  longer zero k (Ask x r q) = subst (λ (j : ℕ). LeftBelow k (run body j (Ask x r q)).1) (sym (zero-add k)) (below_ask k x r q)
  longer zero k (Freeze f) = ap (λ r. r.1) (run-Freeze body (zero + k) f)
  longer (suc n) k (Done o) = ap (λ r. r.1) (run-Done body (suc n + k) o)
  longer (suc n) k (Note m t) = subst (λ (e : Ending N X R O F). Longer k (run body (suc n) t).1 e) (sym (ap (λ r. r.1) (run-Note body (suc n + k) m t))) (longer (suc n) k t)
  longer (suc n) k (Spend x t) = subst (λ (j : ℕ). Longer k (run body n t).1 (run body j (Spend x t)).1) (sym (suc-add n k)) (longer n k t)
  longer (suc n) k (Ask x r q) = subst (λ (j : ℕ). Longer k (run body n (body r q)).1 (run body j (Ask x r q)).1) (sym (suc-add n k)) (longer n k (body r q))
  longer (suc n) k (Freeze f) = ap (λ r. r.1) (run-Freeze body (suc n + k) f)

  -- WHAT IS TOLD of a run
  module _ {T : Type 0} (steps : T → ℕ) (IsOut : T → Type 0) (tell : ℕ → Ending N X R O F → T) (ended : O → ℕ → T) (frozen : F → ℕ → T)
      (tells_end : (n m : ℕ) (o : O) → tell n (Ended o m) ≡ ended o (n - m)) (tells_stop : (n m : ℕ) (f : F) → tell n (Frozen f m) ≡ frozen f (n - m))
      (spent_steps : (n : ℕ) (x : X) → steps (tell n (Spent x)) ≡ n) (spent_out : (n : ℕ) (x : X) → IsOut (tell n (Spent x)))
      (end_steps : (o : O) (n : ℕ) → steps (ended o n) ≡ n) (stop_steps : (f : F) (n : ℕ) → steps (frozen f n) ≡ n) where
    steps_end : (n m : ℕ) (o : O) → steps (tell n (Ended o m)) ≡ n - m
    steps_end n m o = ap steps (tells_end n m o) ∙ end_steps o (n - m)

    steps_stop : (n m : ℕ) (f : F) → steps (tell n (Frozen f m)) ≡ n - m
    steps_stop n m f = ap steps (tells_stop n m f) ∙ stop_steps f (n - m)

    within : (n : ℕ) (e : Ending N X R O F) → steps (tell n e) ≤ n
    within n (Ended o m) = subst (λ (j : ℕ). j ≤ n) (sym (steps_end n m o)) (minus_le n m)
    within n (Spent x) = subst (λ (j : ℕ). j ≤ n) (sym (spent_steps n x)) (le_same n)
    within n (Frozen f m) = subst (λ (j : ℕ). j ≤ n) (sym (steps_stop n m f)) (minus_le n m)

    end_more : (n m k : ℕ) (o : O) (e : Ending N X R O F) → e ≡ Ended o (m + k) → tell (n + k) e ≡ tell n (Ended o m)
    end_more n m k o e h = ap (tell (n + k)) h ∙ tells_end (n + k) (m + k) o ∙ ap (ended o) (minus_both n m k) ∙ sym (tells_end n m o)

    stop_more : (n m k : ℕ) (f : F) (e : Ending N X R O F) → e ≡ Frozen f (m + k) → tell (n + k) e ≡ tell n (Frozen f m)
    stop_more n m k f e h = ap (tell (n + k)) h ∙ tells_stop (n + k) (m + k) f ∙ ap (frozen f) (minus_both n m k) ∙ sym (tells_stop n m f)

    up : (n k : ℕ) (a e : Ending N X R O F) → Longer k a e → (IsOut (tell n a) → ⊥) → tell (n + k) e ≡ tell n a
    up n k (Ended o m) e h over = end_more n m k o e h
    up n k (Spent x) e h over = absurd (over (spent_out n x))
    up n k (Frozen f m) e h over = stop_more n m k f e h

    too_many : (n m k j : ℕ) → j ≡ (n + k) - m → j ≤ n → m ≤ n + k → m < k → ⊥
    too_many n m k j is le within below = omega (arith, is, le, within, below)

    not_below : (n k : ℕ) (x : X) (e : Ending N X R O F) → LeftBelow k e → LeftIn (n + k) e → (IsOut (tell (n + k) e) → ⊥) → steps (tell (n + k) e) ≤ n → ⊥
    not_below n k x (Ended o m) h l over le = too_many n m k (steps (tell (n + k) (Ended o m))) (steps_end (n + k) m o) le l h
    not_below n k x (Spent y) h l over le = over (spent_out (n + k) y)
    not_below n k x (Frozen f m) h l over le = too_many n m k (steps (tell (n + k) (Frozen f m))) (steps_stop (n + k) m f) le l h

    down : (n k : ℕ) (a e : Ending N X R O F) → Longer k a e → LeftIn (n + k) e → (IsOut (tell (n + k) e) → ⊥) → steps (tell (n + k) e) ≤ n → tell n a ≡ tell (n + k) e
    down n k (Ended o m) e h l over le = sym (end_more n m k o e h)
    down n k (Spent x) e h l over le = absurd (not_below n k x e h l over le)
    down n k (Frozen f m) e h l over le = sym (stop_more n m k f e h)

    past : (n m j : ℕ) → j ≡ n - m → n < j → ⊥
    past n m j is lt = omega (arith, is, lt)

    runs_out : (n k : ℕ) (a e : Ending N X R O F) → Longer k a e → n < steps (tell (n + k) e) → IsOut (tell n a) × (steps (tell n a) ≡ n)
    runs_out n k (Ended o m) e h lt = absurd (past n m (steps (tell (n + k) e)) (ap steps (end_more n m k o e h) ∙ steps_end n m o) lt)
    runs_out n k (Spent x) e h lt = (spent_out n x, spent_steps n x)
    runs_out n k (Frozen f m) e h lt = absurd (past n m (steps (tell (n + k) e)) (ap steps (stop_more n m k f e h) ∙ steps_stop n m f) lt)

    abbrev told : Todo N X R O F → ℕ → T
    told t n = tell n (run body n t).1

    enough_above : (t : Todo N X R O F) (n k : ℕ) → (IsOut (told t n) → ⊥) → told t (n + k) ≡ told t n
    enough_above t n k over = up n k (run body n t).1 (run body (n + k) t).1 (longer n k t) over

    enough_below : (t : Todo N X R O F) (n k : ℕ) → (IsOut (told t (n + k)) → ⊥) → steps (told t (n + k)) ≤ n → told t n ≡ told t (n + k)
    enough_below t n k over le = down n k (run body n t).1 (run body (n + k) t).1 (longer n k t) (left_in (n + k) t) over le

    less_runs_out : (t : Todo N X R O F) (n k : ℕ) → n < steps (told t (n + k)) → IsOut (told t n) × (steps (told t n) ≡ n)
    less_runs_out t n k lt = runs_out n k (run body n t).1 (run body (n + k) t).1 (longer n k t) lt

    between : (n m : ℕ) → n ≤ m → m ≡ n + (m - n)
    between n m le = omega (arith, le)

    enough_at : (t : Todo N X R O F) (budget other : ℕ) → (other < budget) ⊎ (budget ≤ other) → (IsOut (told t budget) → ⊥) → steps (told t budget) ≤ other → told t other ≡ told t budget
    enough_at t budget other (inr le) over enough = ap (told t) (between budget other le) ∙ enough_above t budget (other - budget) over
    enough_at t budget other (inl lt) over enough =
        let le : other ≤ budget = omega (arith, lt) in
        subst (λ (n : ℕ). (IsOut (told t n) → ⊥) → steps (told t n) ≤ other → told t other ≡ told t n) (sym (between other budget le)) (enough_below t other (budget - other)) over enough

    fewer_at : (t : Todo N X R O F) (budget other : ℕ) → other < steps (told t budget) → IsOut (told t other) × (steps (told t other) ≡ other)
    fewer_at t budget other lt =
        let in_budget : steps (told t budget) ≤ budget = within budget (run body budget t).1 in
        let le : other ≤ budget = omega (arith, lt, in_budget) in
        subst (λ (n : ℕ). other < steps (told t n) → IsOut (told t other) × (steps (told t other) ≡ other)) (sym (between other budget le)) (less_runs_out t other (budget - other)) lt

    pub exact : (t : Todo N X R O F) (budget : ℕ) → StepsAreExact steps IsOut (told t) budget
    exact t budget = record {
      within = within budget (run body budget t).1;
      enough = λ over other le. enough_at t budget other (cases_lt other budget) over le;
      fewer = λ other lt. fewer_at t budget other lt;
    }

-- nothing runs
constant : {T : Type 0} (steps : T → ℕ) (IsOut : T → Type 0) (t : T) (budget : ℕ) → steps t ≡ 0 → StepsAreExact steps IsOut (λ n. t) budget
constant steps IsOut t budget is = record {
  within = subst (λ (j : ℕ). j ≤ budget) (sym is) (let le : 0 ≤ budget = omega arith in le);
  enough = λ over other le. refl;
  fewer = λ other lt. absurd (let no : other < 0 = subst (λ (j : ℕ). other < j) is lt in omega (arith, no));
}

-- OF CALLS, LOADS, BEGINS AND RESUMPTIONS
module _ {K : Kinds} where
  ended_steps : (o : Outcome K) (n : ℕ) → (ended_by o n).0.steps ≡ n
  ended_steps (Gave v s) n = refl
  ended_steps (Next s) n = refl
  ended_steps (Returned v s) n = refl
  ended_steps (Broke s) n = refl
  ended_steps (Continued s) n = refl
  ended_steps (Raised e trace s) n = refl

module _ {K : Kinds} (meaning : Meaning K) where
  run_exact : (t : Rest K) (budget : ℕ) → IsExact (λ n. run_of meaning n t) budget
  run_exact t budget =
      exact (body_of meaning) (λ (t : Told K). t.0.steps) (λ (t : Told K). IsExhausted t.0.out) told_by ended_by (λ (f : Suspension K) n. ended_value f.value n f.state.world) (λ n m o. refl) (λ n m f. refl) (λ n x. refl)
      (λ n x. tt) ended_steps (λ f n. refl) t budget

  begun_exact : (t : Rest K) (budget : ℕ) → IsBegunExact (λ n. begun_of meaning n t) budget
  begun_exact t budget =
      exact (body_of meaning) (λ (t : ToldBegun K). t.0.steps) (λ (t : ToldBegun K). IsBegunExhausted t.0.out) begun_by (λ o n. begun_over (ended_by o n)) begun_yielded (λ n m o. refl) (λ n m f. refl) (λ n x. refl)
      (λ n x. tt) ended_steps (λ f n. refl) t budget

  pub call_exact : (w : World K) (f : Value) (args : List Value) (budget : ℕ) → IsExact (λ n. call_of meaning f args n w) budget
  call_exact w f args budget = run_exact (begun_by_runner meaning f args (start w)) budget

  first_exact : (code : Option K.script) (path : List ℕ) (w : World K) (budget : ℕ) → IsExact (λ n. loaded_first meaning code path n w) budget
  first_exact None path w budget = constant _ _ (ended_value val.None 0 w) budget refl
  first_exact (Some code) path w budget = run_exact (loading meaning path code w) budget

  load_exact_by : (load : Option Load) (path : List ℕ) (w : World K) (budget : ℕ) → IsExact (λ n. loaded_by meaning load path n w) budget
  load_exact_by (Some (Running id)) path w budget = constant _ _ (loaded_by meaning (Some (Running id)) path budget w) budget refl
  load_exact_by (Some (Loaded id)) path w budget = constant _ _ (loaded_by meaning (Some (Loaded id)) path budget w) budget refl
  load_exact_by (Some (Failed exc trace)) path w budget = constant _ _ (loaded_by meaning (Some (Failed exc trace)) path budget w) budget refl
  load_exact_by None path w budget = first_exact (coded (source_at path w.sources)) path w budget

  pub load_exact : (w : World K) (path : List ℕ) (budget : ℕ) → IsExact (λ n. module_load meaning path n w) budget
  load_exact w path budget = load_exact_by (load_at path w.modules) path w budget

  pub begin_exact : (w : World K) (f : Value) (args : List Value) (budget : ℕ) → IsBegunExact (λ n. begin_of meaning f args n w) budget
  begin_exact w f args budget = begun_exact (opened_by_runner meaning f args (start w)) budget

  resume_exact_by : (found : Option (Frame K.rest)) (n : ℕ) (sent : Sent) (w : World K) (budget : ℕ) → IsBegunExact (λ more. resumed_by meaning found n sent more w) budget
  resume_exact_by None n sent w budget = constant _ _ (begun_over (ended_value val.None 0 w)) budget refl
  resume_exact_by (Some f) n sent w budget = begun_exact (resumed meaning f sent (abandon_of n w)) budget

  pub resume_exact : (w : World K) (n : ℕ) (sent : Sent) (budget : ℕ) → IsBegunExact (λ more. resume_of meaning n sent more w) budget
  resume_exact w n sent budget = resume_exact_by (frozen_at n w) n sent w budget
