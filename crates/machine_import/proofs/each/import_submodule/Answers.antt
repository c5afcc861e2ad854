use Rattle.std.proofs.Common.{◌≡◌, ◌<◌, ◌∙◌, ℕ, List, [], ◌∷◌, ◌++◌, length, get_or, Option, ap, subst, rules}
use Rattle.std.proofs.lemmas.Result.{IfOk-weaker}
use Rattle.std.specs.declared.alloc.Global.{Global}
use Rattle.std.specs.declared.vec.Vec.{Vec}
use Rattle.py_tree.specs.declared.stmt.Alias.{Alias}
use Rattle.machine_state.specs.declared.machine.TurnEnd.{TurnEnd}
use Rattle.machine_state.specs.Places.{ends}
use Rattle.machine_state.specs.Frames.{machine_rest, site_now, state_of}
use Rattle.machine_import.specs.declared.walk.ImportStep.TheVariants.{Load, Module}
use Rattle.machine_import.specs.Names.{submodule_behind, Imported}
use Rattle.machine_import.specs.Walks.{Reaches}
use Rattle.machine_import.proofs.Reaching.{reached_as, submodule_loads, submodule_there}
use Rattle.machine_import.proofs.each.import_submodule.Goals as goal

pub returns-in-Module-clause-next : goal.returns-in-Module-clause-next
returns-in-Module-clause-next c =
    let m = c.args.m.now in
    let m' = c.bind_submodule.new.m in
    let d = c.args.dotted.now.value.items in
    let all = c.args.all.now.value.items in
    let a = c.index-alias.result.now in
    let inner = c.in-Module.inner in
    let dd = c.deref-in-Module-2.result.now in
    let w : c.args.at < length all = c.requires in
    let here : a ≡ get_or all c.args.at a = search rules in
    let seen : c.deref-3.result.now ≡ d = c.deref-3.ensures.value ∙ ap (λ (v : Vec (List ℕ) Global). v.items) c.deref-2.ensures in
    let same : dd ≡ d = c.deref-in-Module-2.ensures.value ∙ ap (λ (v : Vec (List ℕ) Global). v.items) c.deref-in-Module.ensures in
    let reaches : Reaches (Module inner) (d ++ a.name ∷ []) c.args.from c.args.last m =
    reached_as c.in_ok-reached.reached (Module inner) c.deref-4.result.now (d ++ a.name ∷ []) c.args.from c.args.last m c.in-Module.is
    (c.deref-4.ensures.value ∙ (c.in_ok-name.ensures ∙ ap (λ (x : List (List ℕ)). x ++ a.name ∷ []) seen)) c.in_ok-reached.ensures in
    IfOk-weaker c.bind_submodule.result
    (λ (t : Option TurnEnd). (rest : List Alias) → Imported t m m' (submodule_behind c.args.found dd a rest inner (site_now m) (state_of m) (machine_rest m)) c.args.found dd rest) _
    (λ t h. submodule_there m c.args.found d all c.args.at a c.args.from c.args.last t m' inner w here reaches
    (subst (λ (x : List (List ℕ)). (rest : List Alias) → Imported t m m' (submodule_behind c.args.found x a rest inner (site_now m) (state_of m) (machine_rest m)) c.args.found x rest) same h))
    c.bind_submodule.ensures.next

pub returns-clause-next : goal.returns-clause-next
returns-clause-next c =
    let m = c.args.m.now in
    let d = c.args.dotted.now.value.items in
    let all = c.args.all.now.value.items in
    let a = c.index-alias.result.now in
    let f = c.in-Load.next in
    let dd = c.in_ok-dotted-in-Load.dotted in
    let aa = c.in_ok-all-in-Load.all in
    let w : c.args.at < length all = c.requires in
    let here : a ≡ get_or all c.args.at a = search rules in
    let seen : c.deref-3.result.now ≡ d = c.deref-3.ensures.value ∙ ap (λ (v : Vec (List ℕ) Global). v.items) c.deref-2.ensures in
    let reaches : Reaches (Load f) (d ++ a.name ∷ []) c.args.from c.args.last m =
    reached_as c.in_ok-reached.reached (Load f) c.deref-4.result.now (d ++ a.name ∷ []) c.args.from c.args.last m c.in-Load.is
    (c.deref-4.ensures.value ∙ (c.in_ok-name.ensures ∙ ap (λ (x : List (List ℕ)). x ++ a.name ∷ []) seen)) c.in_ok-reached.ensures in
    ap (ends m.left)
    (submodule_loads m c.args.found d all c.args.at a c.args.from c.args.last dd aa f (ap (λ (v : Vec (List ℕ) Global). v.items) c.in_ok-dotted-in-Load.ensures.cases)
    (ap (λ (v : Vec Alias Global). v.items) c.in_ok-all-in-Load.ensures.cases) w here reaches)
    ∙ c.in_ok-wait-in-Load.ensures.next
