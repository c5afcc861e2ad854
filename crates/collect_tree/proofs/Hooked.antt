-- Conftests with their hooks, one after another.
use Rattle.std.proofs.Common.{◌≡◌, ℕ, ◌+◌, ◌<◌, ◌≤◌, List, [], ◌∷◌, ◌++◌, length, drop, get_or, Option, None, Some, refl, sym, ap, ap₂, subst, ◌∙◌}
use Rattle.std.specs.Prelude.{Result, Ok, Err}
use Rattle.std.proofs.lemmas.List.{append_assoc, append-nil, drop_all, drop_more}
use Rattle.conftest_hooks.specs.declared.looking.FoundHook.{FoundHook}
use Rattle.conftest_hooks.specs.declared.looking.HookFault.{HookFault}
use Rattle.py_load.specs.InTurn.{FileEnd, file_load}
use Rattle.py_load.specs.declared.error.LoadError.{LoadError}
use Rattle.py_values.specs.declared.value.Value.{Value}
use Rattle.report_parts.specs.declared.report.Told.{Told}
use Rattle.fixture_world.specs.tracebacks.source_meaning.Meaning.{SourceWorld}
use Rattle.collect_tree.specs.Conftests.{ConftestsLoaded, behind_hooks, behind_load, conftests_found, conftests_loaded, hook_fault_told}
use Rattle.collect_tree.specs.ConftestsTold.{after_found, found_or_failed}
use Rattle.collect_tree.specs.declared.conftests.FailedConftest.{FailedConftest}
use Rattle.collect_tree.specs.declared.conftests.LoadedConftests.{LoadedConftests}

-- one joins the others
pub joined : (old new : LoadedConftests) (path : List ℕ) (v : Value) (hs : List FoundHook) (r : Result (List FoundHook) HookFault) (rest : ConftestsLoaded × SourceWorld) (w : SourceWorld)
    → Ok hs ≡ r → new.hooks.items ≡ old.hooks.items ++ hs → new.modules.items ≡ old.modules.items ++ v ∷ [] → after_found old (behind_hooks path v r rest w) ≡ after_found new rest
joined old new path v hs r (Ok found, w1) w e h m =
    ap (λ (x : Result (List FoundHook) HookFault). after_found old (behind_hooks path v x (Ok found, w1) w)) (sym e)
    ∙ ap₂ (λ (ms : List Value) (ks : List FoundHook). (Ok (conftests_found ms ks), w1))
    (sym (append_assoc old.modules.items (v ∷ []) found.modules) ∙ ap (λ (ms : List Value). ms ++ found.modules) (sym m))
    (sym (append_assoc old.hooks.items hs found.hooks) ∙ ap (λ (ks : List FoundHook). ks ++ found.hooks) (sym h))
joined old new path v hs r (Err failed, w1) w e h m = ap (λ (x : Result (List FoundHook) HookFault). after_found old (behind_hooks path v x (Err failed, w1) w)) (sym e)

-- one has failed
pub stopped : (old : LoadedConftests) (path : List ℕ) (v : Value) (fault : HookFault) (r : Result (List FoundHook) HookFault) (rest : ConftestsLoaded × SourceWorld) (w : SourceWorld) (f : FailedConftest)
    → Err fault ≡ r → f.path ≡ path → f.told ≡ hook_fault_told fault w → after_found old (behind_hooks path v r rest w) ≡ (Err (f.path, f.told), w)
stopped old path v fault r rest w f e q t =
    ap (λ (x : Result (List FoundHook) HookFault). after_found old (behind_hooks path v x rest w)) (sym e)
    ∙ ap₂ (λ (p : List ℕ) (x : Told). (Err (p, x), w)) (sym q) (sym t)

-- one is loaded
pub load_on : (limit : ℕ) (path : List ℕ) (old new : LoadedConftests) (end : Result Value LoadError) (printed : List ℕ) (failed : Option FailedConftest) (w w2 : SourceWorld) (paths : List (List ℕ))
    → ((end, printed), w2) ≡ file_load limit path w
    → after_found old (behind_load limit path (end, printed) (conftests_loaded limit paths w2) w2) ≡ found_or_failed new failed (conftests_loaded limit paths w2) w2
    → after_found old (conftests_loaded limit (path ∷ paths) w) ≡ found_or_failed new failed (conftests_loaded limit paths w2) w2
load_on limit path old new end printed failed w w2 paths e s =
    subst (λ (x : FileEnd × SourceWorld). after_found old (behind_load limit path x.0 (conftests_loaded limit paths x.1) x.1) ≡ found_or_failed new failed (conftests_loaded limit paths w2) w2) e s

-- none is loaded yet
pub none_yet : (l : LoadedConftests) → l.modules.items ≡ [] → l.hooks.items ≡ [] → (x : ConftestsLoaded × SourceWorld) → after_found l x ≡ x
none_yet l m h (Ok found, w) = ap₂ (λ (ms : List Value) (ks : List FoundHook). (Ok (conftests_found (ms ++ found.modules) (ks ++ found.hooks)), w)) m h
none_yet l m h (Err failed, w) = refl

module _ (limit : ℕ) (paths : List (List ℕ)) (i : ℕ) (old : LoadedConftests) (w : SourceWorld) (all : ConftestsLoaded × SourceWorld) (is : after_found old (conftests_loaded limit (drop i paths) w) ≡ all) where
  -- all are loaded
  pub all_loaded : length paths ≤ i → (Ok (conftests_found old.modules.items old.hooks.items), w) ≡ all
  all_loaded l =
      ap₂ (λ (ms : List Value) (ks : List FoundHook). (Ok (conftests_found ms ks), w)) (sym (append-nil old.modules.items)) (sym (append-nil old.hooks.items))
      ∙ (ap (λ (ps : List (List ℕ)). after_found old (conftests_loaded limit ps w)) (sym (drop_all i paths l)) ∙ is)

  -- one more is
  pub one_on : (new : LoadedConftests) (w2 : SourceWorld) (d : List ℕ) (end : Option FailedConftest) → i < length paths
      → ((rest : List (List ℕ)) → after_found old (conftests_loaded limit (get_or paths i d ∷ rest) w) ≡ found_or_failed new end (conftests_loaded limit rest w2) w2)
      → found_or_failed new end (conftests_loaded limit (drop (i + 1) paths) w2) w2 ≡ all
  one_on new w2 d end l step =
      sym (step (drop (i + 1) paths)) ∙ (ap (λ (ps : List (List ℕ)). after_found old (conftests_loaded limit ps w)) (sym (drop_more paths i d l)) ∙ is)

  pub another_on : (new : LoadedConftests) (w2 : SourceWorld) (d : List ℕ) (end : Option FailedConftest) → i < length paths
      → ((rest : List (List ℕ)) → after_found old (conftests_loaded limit (get_or paths i d ∷ rest) w) ≡ found_or_failed new end (conftests_loaded limit rest w2) w2)
      → end ≡ None → after_found new (conftests_loaded limit (drop (i + 1) paths) w2) ≡ all
  another_on new w2 d end l step none =
      ap (λ (o : Option FailedConftest). found_or_failed new o (conftests_loaded limit (drop (i + 1) paths) w2) w2) (sym none) ∙ one_on new w2 d end l step

  pub failed_on : (new : LoadedConftests) (w2 : SourceWorld) (d : List ℕ) (end : Option FailedConftest) (f : FailedConftest) → i < length paths
      → ((rest : List (List ℕ)) → after_found old (conftests_loaded limit (get_or paths i d ∷ rest) w) ≡ found_or_failed new end (conftests_loaded limit rest w2) w2)
      → end ≡ Some f → (Err (f.path, f.told), w2) ≡ all
  failed_on new w2 d end f l step some =
      ap (λ (o : Option FailedConftest). found_or_failed new o (conftests_loaded limit (drop (i + 1) paths) w2) w2) (sym some) ∙ one_on new w2 d end l step
