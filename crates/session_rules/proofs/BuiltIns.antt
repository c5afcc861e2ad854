-- The built-in implementation of a phase has one turn in its hook call.
use Rattle.std.proofs.Common.{◌≡◌, ℕ, Bool, true, false, cond, List, [], ◌∷◌, ◌++◌, map, inl, inr, refl, sym, ap, ◌∙◌, subst, ◌⊎◌, Option, None, Some, eqb, eq-eqb}
use Rattle.std.specs.Prelude.{◌==◌}
use Rattle.std.specs.List.{filter}
use Rattle.std.specs.Option.{option_to_list}
use Rattle.std.proofs.lemmas.Bool.{ne_eqb}
use Rattle.hook_order.specs.declared.implementation.Impl.{Impl}
use Rattle.session_rules.specs.BuiltIns.{AreDifferent, BuiltInTurn, HasBuiltIns, HaveBuiltIns, IsCalledOnce, IsStopped, RaisedFirst, behind_values, is_runners_own, own_numbers, registered_number, wrapped_all}
use Rattle.session_rules.specs.Hooks.{AtYield, HookAnswer, HookBeginning, HookEnd, HookGave, HookInner, HookRaised, HookRunner, HookStep, InnerRaised, OpenRaised, around, around_all, each, each_next, hook_end, wrapped}
use Rattle.session_rules.specs.Session.{built_in, did_call, did_step, hook_arguments, hooked, implemented, in_hooks, opening_of, ready, runner_of}
use Rattle.session_rules.specs.Teardown.{SessionState, Step, session_step}
use Rattle.session_rules.specs.World.{Call, Exceptions, Frame, Item, Language, Phase, Rules, SetUp, Teardown}
use Rattle.session_types.proofs.Lists.{In-filter}
use Rattle.session_types.specs.Members.{IsMember}

number_In : (which : Impl) (impls : List Impl) → IsMember which impls → IsMember which.registered (map registered_number impls)
number_In which [] m = m
number_In which (x ∷ xs) m = elim m [ inl e ↦ inl (ap registered_number e) | inr t ↦ inr (number_In which xs t) ]

numbered_impl : (n : ℕ) (impls : List Impl) → IsMember n (map registered_number impls) → (which : Impl) × IsMember which impls × (which.registered ≡ n)
numbered_impl n [] m = absurd m
numbered_impl n (x ∷ xs) m = elim m [ inl e ↦ (x, inl refl, sym e) | inr t ↦ (let r = numbered_impl n xs t in (r.0, inr r.1, r.2)) ]

-- where one stands, with no other of its number
record Place (which : Impl) (impls : List Impl) : Type 0 where
  before : List Impl
  after : List Impl
  cut : impls ≡ before ++ which ∷ after
  first : (other : Impl) → IsMember other before → other.registered ≡ which.registered → ⊥
  last : (other : Impl) → IsMember other after → other.registered ≡ which.registered → ⊥

placed : (which : Impl) (impls : List Impl) → AreDifferent (map registered_number impls) → IsMember which impls → Place which impls
placed which [] d m = absurd m
placed which (x ∷ xs) d (inl e) =
    record {
      before = [];
      after = xs;
      cut = ap (λ (y : Impl). y ∷ xs) (sym e);
      first = λ other m same. m;
      last = λ other m same. d.0 (subst (λ (n : ℕ). IsMember n (map registered_number xs)) (same ∙ ap registered_number e) (number_In other xs m));
    }
placed which (x ∷ xs) d (inr t) =
    let p = placed which xs d.1 t in
    record {
      before = x ∷ p.before;
      after = p.after;
      cut = ap (λ (l : List Impl). x ∷ l) p.cut;
      first = λ other m same. elim m [
        | inl e ↦ d.0 (subst (λ (n : ℕ). IsMember n (map registered_number xs)) (sym same ∙ ap registered_number e) (number_In which xs t))
        | inr r ↦ p.first other r same
      ];
      last = p.last;
    }

module _ {L : Language} (rules : Rules L) (phase : Phase) (item : Item) (next : Option ℕ) where
  abbrev run_by : (SessionState L → Step L) → HookRunner (SessionState L) L.Value (Exceptions L) (Frame L)
  run_by built = runner_of rules phase item next built

  -- any built-in, where it doesn't count
  abbrev idle_one : SessionState L → Step L
  idle_one s = session_step [] s

  abbrev End : Type 0
  End = HookEnd (SessionState L) L.Value (Exceptions L)

  -- what another implementation does, and how a wrapper begins
  abbrev called : Impl → SessionState L → HookStep (SessionState L) (HookAnswer L.Value (Exceptions L))
  called which s = did_call s (implemented (rules.implement phase item.node (hook_arguments item next s) which s.world))

  called_as : (built : SessionState L → Step L) (which : Impl) (s : SessionState L) → (which.registered ≡ built_in phase → ⊥) → (run_by built).call which s ≡ called which s
  called_as built which s other = ap (λ (b : Bool). cond b (did_step (built s)) (called which s)) (ne_eqb which.registered (built_in phase) other)

  built_as : (built : SessionState L → Step L) (which : Impl) (s : SessionState L) → which.registered ≡ built_in phase → (run_by built).call which s ≡ did_step (built s)
  built_as built which s same = ap (λ (b : Bool). cond b (did_step (built s)) (called which s)) (eq-eqb which.registered (built_in phase) same)

  abbrev opened : Impl → SessionState L → HookStep (SessionState L) (HookBeginning (Frame L) (Exceptions L))
  opened which s = (run_by idle_one).begin which s

  -- behind the built-in
  abbrev goes_on : (SessionState L → Step L) → List Impl → SessionState L → End
  goes_on built left at = each_next (each (run_by built) left) (did_step (built at)).answer (did_step (built at)).state

  gave_more : (value : Option L.Value) (values : List L.Value) (h : End) → behind_values (option_to_list value) (behind_values values h) ≡ behind_values (option_to_list value ++ values) h
  gave_more None values h = refl
  gave_more (Some v) values h = refl

  -- the turn among the plain implementations
  data PlainTurn (run : (SessionState L → Step L) → End) (impls : List Impl) : Type 0 where
    PlainOnce : (values : List L.Value) (left : List Impl) (at : SessionState L) → ((which : Impl) → IsMember which left → which.registered ≡ built_in phase → ⊥)
        → ((built : SessionState L → Step L) → run built ≡ behind_values values (goes_on built left at)) → PlainTurn run impls
    PlainHalts : (which : Impl) (at : SessionState L) (e : Exceptions L) (end : End) → IsMember which impls → (which.registered ≡ built_in phase → ⊥) → RaisedFirst rules phase item next which at e
        → ((built : SessionState L → Step L) → run built ≡ end) → PlainTurn run impls

  -- the turn in a hook call
  data Turn (run : (SessionState L → Step L) → End) (impls : List Impl) : Type 0 where
    Once : (frames : List (Frame L)) (values : List L.Value) (left : List Impl) (at : SessionState L) → ((which : Impl) → IsMember which left → which.registered ≡ built_in phase → ⊥)
        → ((built : SessionState L → Step L) → run built ≡ wrapped_all (run_by built) frames (behind_values values (goes_on built left at))) → Turn run impls
    Halts : (which : Impl) (at : SessionState L) (e : Exceptions L) (end : End) → IsMember which impls → (which.registered ≡ built_in phase → ⊥) → RaisedFirst rules phase item next which at e
        → ((built : SessionState L → Step L) → run built ≡ end) → Turn run impls

  module _ (own : Impl) (after : List Impl) (is : own.registered ≡ built_in phase) (plain : own.wrapper ≡ false) (last : (other : Impl) → IsMember other after → other.registered ≡ built_in phase → ⊥) where
    abbrev list_of : List Impl → List Impl
    list_of before = before ++ own ∷ after

    abbrev Others : List Impl → Type 0
    Others before = (other : Impl) → IsMember other before → other.registered ≡ built_in phase → ⊥

    abbrev each_by : (SessionState L → Step L) → List Impl → SessionState L → End
    each_by built impls s = each (run_by built) impls s

    called_next : (built : SessionState L → Step L) (which : Impl) (rest : List Impl) (s : SessionState L) → (which.registered ≡ built_in phase → ⊥)
        → each_by built (which ∷ rest) s ≡ each_next (each (run_by built) rest) (called which s).answer (called which s).state
    called_next built which rest s other = ap (λ (d : HookStep (SessionState L) (HookAnswer L.Value (Exceptions L))). each_next (each (run_by built) rest) d.answer d.state) (called_as built which s other)

    gave_one : (which : Impl) (before : List Impl) (s : SessionState L) → (which.registered ≡ built_in phase → ⊥) → (value : Option L.Value) → (called which s).answer ≡ HookGave value
        → (built : SessionState L → Step L) → each_by built (which ∷ list_of before) s ≡ behind_values (option_to_list value) (each_by built (list_of before) (called which s).state)
    gave_one which before s other value gave built =
        called_next built which (list_of before) s other
        ∙ ap (λ (a : HookAnswer L.Value (Exceptions L)). each_next (each (run_by built) (list_of before)) a (called which s).state) gave

    raised_one : (which : Impl) (before : List Impl) (s : SessionState L) → (which.registered ≡ built_in phase → ⊥) → (e : Exceptions L) → (called which s).answer ≡ HookRaised e
        → (built : SessionState L → Step L) → each_by built (which ∷ list_of before) s ≡ hook_end (InnerRaised e) [] (called which s).state
    raised_one which before s other e raised built =
        called_next built which (list_of before) s other
        ∙ ap (λ (a : HookAnswer L.Value (Exceptions L)). each_next (each (run_by built) (list_of before)) a (called which s).state) raised

    behind_one : (which : Impl) (before : List Impl) (s : SessionState L) → (which.registered ≡ built_in phase → ⊥) → (value : Option L.Value) → (called which s).answer ≡ HookGave value
        → PlainTurn (λ built. each_by built (list_of before) (called which s).state) (list_of before) → PlainTurn (λ built. each_by built (which ∷ list_of before) s) (which ∷ list_of before)
    behind_one which before s other value gave (PlainOnce values left at none same) =
        PlainOnce (option_to_list value ++ values) left at none
        (λ built. gave_one which before s other value gave built ∙ (ap (λ (h : End). behind_values (option_to_list value) h) (same built) ∙ gave_more value values (goes_on built left at)))
    behind_one which before s other value gave (PlainHalts who at e end m o r same) =
        PlainHalts who at e (behind_values (option_to_list value) end) (inr m) o r
        (λ built. gave_one which before s other value gave built ∙ ap (λ (h : End). behind_values (option_to_list value) h) (same built))

    plain_turn : (before : List Impl) (s : SessionState L) → Others before → PlainTurn (λ built. each_by built (list_of before) s) (list_of before)
    plain_turn [] s others =
        PlainOnce [] after s last
        (λ built. ap (λ (d : HookStep (SessionState L) (HookAnswer L.Value (Exceptions L))). each_next (each (run_by built) after) d.answer d.state) (built_as built own s is))
    plain_turn (which ∷ before) s others =
        let other = others which (inl refl) in
        elim (called which s).answer as (λ a. (called which s).answer ≡ a → PlainTurn (λ built. each_by built (which ∷ list_of before) s) (which ∷ list_of before)) [
          | HookGave value ↦ λ e. behind_one which before s other value e (plain_turn before (called which s).state (λ o m. others o (inr m)))
          | HookRaised x ↦ λ e. PlainHalts which s x (hook_end (InnerRaised x) [] (called which s).state) (inl refl) other (inl e) (raised_one which before s other x e)
        ] refl

    abbrev around_by : (SessionState L → Step L) → List Impl → SessionState L → End
    around_by built impls s = around_all (run_by built) (each (run_by built)) impls s

    -- behind the wrappers
    as_plain : (impls : List Impl) (s : SessionState L) → ((built : SessionState L → Step L) → around_by built impls s ≡ each_by built impls s) → PlainTurn (λ built. each_by built impls s) impls → Turn (λ built. around_by built impls s) impls
    as_plain impls s same (PlainOnce values left at none run) = Once [] values left at none (λ built. same built ∙ run built)
    as_plain impls s same (PlainHalts who at e end m o r run) = Halts who at e end m o r (λ built. same built ∙ run built)

    no_wrapper : (which : Impl) (rest : List Impl) (s : SessionState L) → which.wrapper ≡ false → (built : SessionState L → Step L) → around_by built (which ∷ rest) s ≡ each_by built (which ∷ rest) s
    no_wrapper which rest s e built =
        ap (λ (b : Bool). cond b (around (run_by built) (around_all (run_by built) (each (run_by built)) rest) (opened which s).answer (opened which s).state) (each_by built (which ∷ rest) s)) e

    is_wrapper : (which : Impl) (rest : List Impl) (s : SessionState L) → which.wrapper ≡ true → (x : HookBeginning (Frame L) (Exceptions L)) → (opened which s).answer ≡ x → (built : SessionState L → Step L)
        → around_by built (which ∷ rest) s ≡ around (run_by built) (around_all (run_by built) (each (run_by built)) rest) x (opened which s).state
    is_wrapper which rest s e x q built =
        ap (λ (b : Bool). cond b (around (run_by built) (around_all (run_by built) (each (run_by built)) rest) (opened which s).answer (opened which s).state) (each_by built (which ∷ rest) s)) e
        ∙ ap (λ (a : HookBeginning (Frame L) (Exceptions L)). around (run_by built) (around_all (run_by built) (each (run_by built)) rest) a (opened which s).state) q

    within : (which : Impl) (before : List Impl) (s : SessionState L) → which.wrapper ≡ true → (frame : Frame L) → (opened which s).answer ≡ AtYield frame
        → Turn (λ built. around_by built (list_of before) (opened which s).state) (list_of before) → Turn (λ built. around_by built (which ∷ list_of before) s) (which ∷ list_of before)
    within which before s e frame q (Once frames values left at none same) =
        Once (frame ∷ frames) values left at none
        (λ built. is_wrapper which (list_of before) s e (AtYield frame) q built ∙ ap (λ (h : End). wrapped (run_by built) frame h) (same built))
    within which before s e frame q (Halts who at x end m o r same) =
        Halts who at x (wrapped (run_by idle_one) frame end) (inr m) o r
        (λ built. is_wrapper which (list_of before) s e (AtYield frame) q built ∙ ap (λ (h : End). wrapped (run_by built) frame h) (same built))

    hook_turn : (before : List Impl) (s : SessionState L) → Others before → Turn (λ built. around_by built (list_of before) s) (list_of before)
    hook_turn [] s others = as_plain (own ∷ after) s (no_wrapper own after s plain) (plain_turn [] s others)
    hook_turn (which ∷ before) s others =
        elim which.wrapper as (λ b. which.wrapper ≡ b → Turn (λ built. around_by built (which ∷ list_of before) s) (which ∷ list_of before)) [
          | true ↦ λ e. elim (opened which s).answer as (λ a. (opened which s).answer ≡ a → Turn (λ built. around_by built (which ∷ list_of before) s) (which ∷ list_of before)) [
            | AtYield frame ↦ λ q. within which before s e frame q (hook_turn before (opened which s).state (λ o m. others o (inr m)))
            | OpenRaised x ↦ λ q. Halts which s x (hook_end (InnerRaised x) [] (opened which s).state) (inl refl) (others which (inl refl)) (inr q) (λ built. is_wrapper which (list_of before) s e (OpenRaised x) q built)
          ] refl
          | false ↦ λ e. as_plain (which ∷ list_of before) s (no_wrapper which (list_of before) s e) (plain_turn (which ∷ before) s others)
        ] refl

  told : (impls : List Impl) (s : SessionState L) → rules.hooks phase item.node ≡ impls → Turn (λ built. around_all (run_by built) (each (run_by built)) impls (ready rules item next s)) impls → BuiltInTurn rules phase item next s
  told impls s e (Once frames values left at none same) =
      IsCalledOnce frames values left at none
      (λ built. ap (λ (l : List Impl). hooked (around_all (run_by built) (each (run_by built)) l (ready rules item next s))) e ∙ ap (λ (h : End). hooked h) (same built))
  told impls s e (Halts who at x end m o r same) =
      IsStopped who at x (hooked end) (subst (λ (l : List Impl). IsMember who l) (sym e) m) o r
      (λ built. ap (λ (l : List Impl). hooked (around_all (run_by built) (each (run_by built)) l (ready rules item next s))) e ∙ ap (λ (h : End). hooked h) (same built))

-- the built-in is among them
own_In : (phase : Phase) → IsMember (built_in phase) (own_numbers phase)
own_In SetUp = inr (inl refl)
own_In Call = inl refl
own_In Teardown = inl refl

pub one_turn : {L : Language} (rules : Rules L) (phase : Phase) (item : Item) (next : Option ℕ) → HasBuiltIns phase (rules.hooks phase item.node) → (s : SessionState L) → BuiltInTurn rules phase item next s
one_turn rules phase item next has s =
    let impls = rules.hooks phase item.node in
    let m = subst (λ (ns : List ℕ). IsMember (built_in phase) ns) (sym has.own) (own_In phase) in
    let w = numbered_impl (built_in phase) (filter is_runners_own impls) m in
    let own = w.0 in
    let here = In-filter is_runners_own own impls w.1 in
    let p = placed own impls has.different here.0 in
    told rules phase item next (p.before ++ own ∷ p.after) s p.cut
    (hook_turn rules phase item next own p.after w.2 (has.plain own here.0 here.1)
    (λ other m e. p.last other m (e ∙ sym w.2)) p.before (ready rules item next s) (λ other m e. p.first other m (e ∙ sym w.2)))
