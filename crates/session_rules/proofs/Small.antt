-- A small world, on which the definitions are computed.
use Rattle.std.specs.Prelude.{ℕ, ◌==◌, ◌+◌, Bool, true, false, List, [], ◌∷◌, ◌++◌, None, Some, if◌then◌else◌}
use Rattle.hook_order.specs.declared.implementation.Impl.{Impl}
use Rattle.session_rules.specs.Hooks.{HookGave, HookMessage, SentRaise, SentValue, SentValues}
use Rattle.session_rules.specs.Request.{RequestFinalizers, closed, new_request}
use Rattle.session_rules.specs.World.{Call, BodyEnd, Language, Phase, Raised, Returned, Rules, SetUp, Teardown, Yielded}
use Rattle.session_types.specs.declared.scope.Scope.TheVariants.{Function}

-- what was called, and one `request`
pub record Log : Type 0 where
  pub lines : List ℕ
  pub request : RequestFinalizers ℕ

-- what is raised at the end of a phase is bad
abbrev pub raised_bad : List ℕ → Bool
raised_bad [] = false
raised_bad (e ∷ es) = true

abbrev pub small : Language
small = record { World = Log; Value = ℕ; Thrown = ℕ; Rest = ℕ; Told = List ℕ; is_bad = λ phase told. raised_bad told }

abbrev pub write : ℕ → Log → Log
write n w = record w { lines = w.lines ++ n ∷ [] }

abbrev pub blank : Log
blank = record { lines = []; request = new_request }

-- an implementation by its number of registration
abbrev pub plain_impl : ℕ → Impl
plain_impl n = record { registered = n; wrapper = false; first = false; last = false; node = 0; code = 0 }

abbrev pub wrapper_impl : ℕ → Impl
wrapper_impl n = record { registered = n; wrapper = true; first = false; last = false; node = 0; code = 0 }

abbrev pub built_ins : Phase → ℕ → List Impl
built_ins SetUp item = plain_impl 1 ∷ []
built_ins Call item = plain_impl 2 ∷ []
built_ins Teardown item = plain_impl 3 ∷ []

-- a wrapper that changes nothing
abbrev pub handed_on : HookMessage ℕ ℕ → BodyEnd small
handed_on (SentValues values) = Returned 0
handed_on (SentValue None) = Returned 0
handed_on (SentValue (Some value)) = Returned value
handed_on (SentRaise e) = Raised e

-- every function writes its definition and yields, and what remains writes 100 more; every test passes
abbrev pub plain : Rules small
plain =
    record {
      depth = 9;
      scope = λ d. Function;
      yields = λ d. true;
      make_instance = λ item w. record { answer = None; world = w };
      make_item = λ item w. record { answer = item; world = w };
      ask = λ item d param w. record { request = None; world = w };
      begin = λ item d param own values request w. record { how = Yielded d (100 + d); world = write d w };
      did_not_yield = λ d w. record { thrown = 1000; world = w };
      resume = λ rest w. record { how = Returned 0; world = write rest w };
      abandon = λ rest w. w;
      yielded_again = λ d w. record { thrown = 2000; world = w };
      close = λ request w. record { finalizers = w.request.finalizers; world = record w { request = closed w.request } };
      finalize = λ f w. record { raised = None; world = write f w };
      fault = λ item w. record { thrown = 3000; world = w };
      ask_test = λ item w. record { request = None; world = w };
      test = λ item own values request w. record { raised = None; world = write item w };
      wrong_arguments = λ item w. record { thrown = 4000; world = w };
      hooks = built_ins;
      implement = λ phase item arguments which w. record { answer = HookGave None; world = w };
      open_wrapper = λ phase item arguments which w. record { how = Yielded 0 0; world = w };
      wrapper_did_not_yield = λ which w. record { thrown = 5000; world = w };
      resume_wrapper = λ phase item rest sent w. record { how = handed_on sent; world = w };
      wrapper_yielded_again = λ which w. record { thrown = 6000; world = w };
      unless_none = λ v. if v == 0 then None else Some v;
      is_same_object = λ e f. e == f;
      end_phase = λ phase item raised w. record { told = raised; world = w };
    }
