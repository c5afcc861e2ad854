-- A stage while a hook call runs on it.
use Rattle.std.specs.Prelude.{◌≡◌, Bool, List, [], ◌∷◌, Option, None, Some, map, option_map}
use Rattle.std.specs.Borrow.{Bor, GName}
use Rattle.hook_phases.specs.declared.answers.Exceptions.{Exceptions as Several}
use Rattle.hook_phases.specs.declared.answers.HookFrame.{HookFrame}
use Rattle.hook_phases.specs.declared.phase.HookPhase.{HookPhase}
use Rattle.hook_phases.specs.declared.run.HookRun.{HookRun}
use Rattle.hook_phases.specs.Views.{frame_kept, several}
use Rattle.hook_order.specs.declared.answers.Inner.{Inner}
use Rattle.hook_order.specs.declared.answers.Opened.{Opened}
use Rattle.hook_order.specs.declared.answers.Ran.{Ran}
use Rattle.hook_order.specs.declared.answers.Ran.TheVariants as ran
use Rattle.hook_order.specs.declared.implementation.Impl.{Impl}
use Rattle.hook_phases.specs.Phases.{phase_of}
use Rattle.hook_phases.specs.Steps.{GivesUp, IsKnownWhere, item_where, place_of}
use Rattle.session_rules.specs.Frames.{StandsWith}
use Rattle.session_rules.specs.HookFollows.{HookView, OpenedAs, RanAs, inner_of}
use Rattle.session_rules.specs.Hooks.{HookInner, HookRunner}
use Rattle.session_rules.specs.Session.{HookPlace, built_of, hook_runner, in_hooks, node_of}
use Rattle.session_rules.specs.Teardown.{SessionState, Step}
use Rattle.session_rules.specs.World.{Exceptions, Frame, Item, Language, Rules}

-- what stays while it runs
pub record Site (C I : Type 0) : Type 0 where
  pub name : GName
  pub setting : C
  pub phase : HookPhase
  pub item : I
  pub next : Option I

-- a run for an item, behind which this one comes
abbrev pub StageRun : Type 0 → Type 0 → Type 0 → Type 0
StageRun S C I = HookRun S C I (Option (Bor I))

abbrev pub next_of_run : {S C I : Type 0} → StageRun S C I → Option I
next_of_run {S} {C} {I} r = option_map (λ (i : Bor I). i.now) r.next.now

abbrev pub site_of : {S C I : Type 0} → StageRun S C I → Site C I
site_of r = record { name = r.stage.ghost_name; setting = r.setting.now; phase = r.phase; item = r.item.now; next = next_of_run r }

-- it is read as the state of its stage
abbrev pub run_view : (L : Language) {S C I : Type 0} → (S → SessionState L) → HookView (StageRun S C I) L.Value (Several L.Thrown) (HookFrame L.Rest) (SessionState L) (Site C I) L.Value (Exceptions L) (Frame L)
run_view L state = record { state = λ r. state r.stage.now; place = site_of; value = λ v. v; exception = several L; frame = frame_kept L }

abbrev pub Runs : {S C I : Type 0} → (C → S → Type 0) → (C → I → Type 0) → StageRun S C I → Type 0
Runs stands known r = stands r.setting.now r.stage.now × known r.setting.now r.item.now × IsKnownWhere (known r.setting.now) (next_of_run r)

module _ (L : Language) {S C I : Type 0} (rules : C → Rules L) (state : S → SessionState L) (item : C → I → Item) where
  abbrev pub run_place : StageRun S C I → HookPlace
  run_place r = place_of (item r.setting.now) r.phase r.item.now (next_of_run r)

  abbrev pub RunCalls : StageRun S C I → Impl → Ran L.Value (Several L.Thrown) → StageRun S C I → Type 0
  RunCalls before which answer now = RanAs (run_view L state) ((hook_runner (rules before.setting.now) (run_place before)).call which (state before.stage.now)) before answer now × (site_of now ≡ site_of before)

  abbrev pub RunBegins : StageRun S C I → Impl → Opened (HookFrame L.Rest) (Several L.Thrown) → StageRun S C I → Type 0
  RunBegins before which answer now = OpenedAs (run_view L state) ((hook_runner (rules before.setting.now) (run_place before)).begin which (state before.stage.now)) before answer now × (site_of now ≡ site_of before)

  abbrev pub RunResumes : (L.Rest → L.World → L.World) → StageRun S C I → HookFrame L.Rest → Inner L.Value (Several L.Thrown) → Ran L.Value (Several L.Thrown) → StageRun S C I → Type 0
  RunResumes given_up before frame given answer now =
      ((inside : HookInner L.Value (Exceptions L)) → inner_of (run_view L {S = S} {C = C} {I = I} state) given ≡ Some inside
      → RanAs (run_view L state) ((hook_runner (rules before.setting.now) (run_place before)).resume (frame_kept L frame) inside (state before.stage.now)) before answer now)
      × (site_of now ≡ site_of before)
      × GivesUp {L = L} given_up given frame.rest (state before.stage.now) (state now.stage.now)

-- these wrappers stand at their `yield`: their frames are out, and those of the live instances
abbrev pub RunWaits : (L : Language) {S C I : Type 0} → (S → SessionState L) → (L.Rest → L.World → Bool) → List (HookFrame L.Rest) → StageRun S C I → Type 0
RunWaits L state is_out frames r = StandsWith (state r.stage.now) is_out (map (λ f. f.rest) frames)

-- the runner of a session, where a hook call stands
abbrev pub site_runner : (L : Language) {C I : Type 0} → (C → Rules L) → (C → I → Item) → Site C I → HookRunner (SessionState L) L.Value (Exceptions L) (Frame L)
site_runner L rules item site = hook_runner (rules site.setting) (place_of (item site.setting) site.phase site.item site.next)

-- the hook call of a phase there
abbrev pub site_in_hooks : (L : Language) {C I : Type 0} → (C → Rules L) → (C → I → Item) → Site C I → SessionState L → Step L
site_in_hooks L rules item site s =
    in_hooks (rules site.setting) (phase_of site.phase) (item site.setting site.item) (node_of (item_where (item site.setting) site.next))
    (built_of (rules site.setting) (phase_of site.phase) (item site.setting site.item) (item_where (item site.setting) site.next)) s

-- what a hook call raised, but for want of memory
abbrev pub raised_in : {V E : Type 0} → Ran V (Several E) → Option (List E)
raised_in (ran.Gave value) = Some []
raised_in (ran.Raised e) = Some (e.first ∷ e.more)
raised_in ran.OutOfMemory = None
