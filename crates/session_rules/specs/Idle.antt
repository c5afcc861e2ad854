-- A world in which nothing happens: each fixture gives the number of its definition, and each test passes.
use Rattle.std.specs.Prelude.{ℕ, false, [], None}
use Rattle.session_types.specs.declared.scope.Scope.TheVariants.{Function}
use Rattle.session_rules.specs.Hooks.{HookGave}
use Rattle.session_rules.specs.World.{Rules, language, Returned, Yielded}

abbrev pub idle : {W : Type 0} → Rules (language W ℕ ℕ ℕ ℕ (λ phase told. false))
idle =
    record {
      depth = 0;
      scope = λ d. Function;
      yields = λ d. false;
      make_instance = λ item w. record { answer = None; world = w };
      make_item = λ item w. record { answer = 0; world = w };
      ask = λ item d param w. record { request = None; world = w };
      begin = λ item d param own values request w. record { how = Returned d; world = w };
      did_not_yield = λ d w. record { thrown = 0; world = w };
      resume = λ rest w. record { how = Returned 0; world = w };
      abandon = λ rest w. w;
      yielded_again = λ d w. record { thrown = 0; world = w };
      close = λ request w. record { finalizers = []; world = w };
      finalize = λ f w. record { raised = None; world = w };
      fault = λ item w. record { thrown = 0; world = w };
      ask_test = λ item w. record { request = None; world = w };
      test = λ item own values request w. record { raised = None; world = w };
      wrong_arguments = λ item w. record { thrown = 0; world = w };
      hooks = λ phase item. [];
      implement = λ phase item arguments which w. record { answer = HookGave None; world = w };
      open_wrapper = λ phase item arguments which w. record { how = Yielded 0 0; world = w };
      wrapper_did_not_yield = λ which w. record { thrown = 0; world = w };
      resume_wrapper = λ phase item rest sent w. record { how = Returned 0; world = w };
      wrapper_yielded_again = λ which w. record { thrown = 0; world = w };
      unless_none = λ v. None;
      is_same_object = λ e f. false;
      end_phase = λ phase item raised w. record { told = 0; world = w };
    }
