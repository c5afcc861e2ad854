-- What a world of core code shows of its sources.
use Rattle.std.proofs.Common.{◌≡◌, ◌∙◌, ℕ, List, [], ◌∷◌, ◌++◌, map, Option, Some, None, Bool, true, false, cond, refl, sym, ap, subst}
use Rattle.std.proofs.Math.Logic.{∥∥₁_map}
use Rattle.lower_law.specs.source_meaning.Requests.{Script}
use Rattle.py_core.specs.declared.stmt.Core.{Core}
use Rattle.py_core.specs.declared.stmt.CoreFn.{CoreFn}
use Rattle.py_values.specs.declared.object.Obj.{Obj}
use Rattle.py_values.specs.declared.value.Value.{Value}
use Rattle.py_values.specs.Names.{name_eq}
use Rattle.lower_law.specs.py_world.declared.ended.Ended.{Ended}
use Rattle.lower_law.specs.py_world.declared.load.Load.{Load}
use Rattle.lower_law.specs.py_world.World.{Kinds, World, CodedSource, CodeOrFault, Code, Fault, FunctionCode, Frozen, Traces, world_with_heap, world_with_printed}
use Rattle.lower_law.specs.py_world.Runs.{source_at}
use Rattle.lower_law.specs.py_world.Resuming.{BegunBody, Sent, abandon_of}
use Rattle.lower_law.specs.core_meaning.Requests.{Layer}
use Rattle.lower_law.specs.core_meaning.Meaning.{CoreWorld, core_begin, core_call, core_module, core_resume}
use Rattle.lower_law.specs.source_meaning.Meaning.{SourceWorld, source_begin, source_call, source_module, source_resume}
use Rattle.lower_law.specs.Alike as alike
use Rattle.lower_law.specs.Alike.{CodedAlike, SourcesAlike, worlds, source_from, world_from}
use Rattle.lower_law.specs.Law.{Lowering, LoweredWorld}
use Rattle.lower_law.specs.View.{coded_view, file_view, frozen_view, stored_view, source_view, view_begun, view_told, Sound}
use Rattle.lower_law.proofs.Viewed.{abandon_sound, abandon_viewed, begin_sound, begin_viewed, call_viewed, call_sound, module_viewed, module_sound, resume_sound, resume_viewed}
use Rattle.machine_runner.specs.Lines.{line_in, line_at}
use Rattle.py_machine.specs.Worlds.{fault_in, fault_of, Stands}

-- calls and loads
pub call_told : (w w' : CoreWorld) (f : Value) (args : List Value) (budget : ℕ) (e : Ended) → Sound w → core_call f args budget w ≡ (e, w') → (e, source_view w') ≡ source_call f args budget (source_view w)
call_told w w' f args budget e sound h = sym (ap view_told h) ∙ call_viewed w sound f args budget

pub call_kept : (w w' : CoreWorld) (f : Value) (args : List Value) (budget : ℕ) (e : Ended) → Sound w → core_call f args budget w ≡ (e, w') → Sound w'
call_kept w w' f args budget e sound h = subst (λ t. Sound t.1) h (call_sound w sound f args budget)

pub load_told : (w w' : CoreWorld) (path : List ℕ) (budget : ℕ) (e : Ended) → Sound w → core_module path budget w ≡ (e, w') → (e, source_view w') ≡ source_module path budget (source_view w)
load_told w w' path budget e sound h = sym (ap view_told h) ∙ module_viewed w sound path budget

pub load_kept : (w w' : CoreWorld) (path : List ℕ) (budget : ℕ) (e : Ended) → Sound w → core_module path budget w ≡ (e, w') → Sound w'
load_kept w w' path budget e sound h = subst (λ t. Sound t.1) h (module_sound w sound path budget)

-- begins and resumptions
pub begin_told : (w w' : CoreWorld) (f : Value) (args : List Value) (budget : ℕ) (b : BegunBody) → Sound w → core_begin f args budget w ≡ (b, w') → (b, source_view w') ≡ source_begin f args budget (source_view w)
begin_told w w' f args budget b sound h = sym (ap view_begun h) ∙ begin_viewed w sound f args budget

pub begin_kept : (w w' : CoreWorld) (f : Value) (args : List Value) (budget : ℕ) (b : BegunBody) → Sound w → core_begin f args budget w ≡ (b, w') → Sound w'
begin_kept w w' f args budget b sound h = subst (λ t. Sound t.1) h (begin_sound w sound f args budget)

pub resume_told : (w w' : CoreWorld) (n : ℕ) (sent : Sent) (budget : ℕ) (b : BegunBody) → Sound w → core_resume n sent budget w ≡ (b, w') → (b, source_view w') ≡ source_resume n sent budget (source_view w)
resume_told w w' n sent budget b sound h = sym (ap view_begun h) ∙ resume_viewed w sound n sent budget

pub resume_kept : (w w' : CoreWorld) (n : ℕ) (sent : Sent) (budget : ℕ) (b : BegunBody) → Sound w → core_resume n sent budget w ≡ (b, w') → Sound w'
resume_kept w w' n sent budget b sound h = subst (λ t. Sound t.1) h (resume_sound w sound n sent budget)

merely : {P : Type 0} → P → ∥ P ∥₁
merely p = ∣ p ∣₁

-- no code at all
pub bare_sound : (sources : List (CodedSource Core)) (modules : List (List ℕ × Load)) (heap : List Obj) (codes : List (FunctionCode CoreFn)) (printed : List ℕ) (frozen : List (Option (Frozen (List Layer)))) (traces : Traces)
    → sources ≡ [] → codes ≡ [] → frozen ≡ [] → Sound (world_from sources modules heap codes printed frozen traces)
bare_sound sources modules heap codes printed frozen traces e h f = rw (e, h, f) (merely (worlds alike.none alike.none alike.none modules heap printed traces))

printed_alike : (printed : List ℕ) {w : SourceWorld} {z : CoreWorld} → LoweredWorld w z → LoweredWorld (world_with_printed printed w) (world_with_printed printed z)
printed_alike printed (worlds xs ys zs modules heap p traces) = worlds xs ys zs modules heap printed traces

pub printed_sound : (printed : List ℕ) (w : CoreWorld) → Sound w → Sound (world_with_printed printed w)
printed_sound printed w sound = ∥∥₁_map sound (λ h. printed_alike printed h)

-- another heap
heap_alike : (heap : List Obj) {w : SourceWorld} {z : CoreWorld} → LoweredWorld w z → LoweredWorld (world_with_heap heap w) (world_with_heap heap z)
heap_alike heap (worlds xs ys zs modules h printed traces) = worlds xs ys zs modules heap printed traces

pub heap_sound : (heap : List Obj) (w : CoreWorld) → Sound w → Sound (world_with_heap heap w)
heap_sound heap w sound = ∥∥₁_map sound (λ h. heap_alike heap h)

-- a frozen frame that is given up, as the machine tells it
pub abandon_told : (n : ℕ) (z z' : CoreWorld) → z' ≡ abandon_of n z → source_view z' ≡ abandon_of n (source_view z)
abandon_told n z z' h = ap source_view h ∙ abandon_viewed z n

pub abandon_kept : (n : ℕ) (z z' : CoreWorld) → z' ≡ abandon_of n z → Sound z → Sound z'
abandon_kept n z z' h sound = rw h (abandon_sound z sound n)

-- one source more
map_more : (xs : List (CodedSource Core)) (x : CodedSource Core) → map file_view (xs ++ x ∷ []) ≡ map file_view xs ++ file_view x ∷ []
map_more [] x = refl
map_more (y ∷ xs) x = ap (λ ys. file_view y ∷ ys) (map_more xs x)

sources_more : {bs : List (CodedSource Script)} {cs : List (CodedSource Core)} → SourcesAlike Lowering bs cs → (path bytes : List ℕ) {b : CodeOrFault Script} {c : CodeOrFault Core} → CodedAlike Lowering b c → SourcesAlike Lowering (bs ++ source_from path bytes b ∷ []) (cs ++ source_from path bytes c ∷ [])
sources_more alike.none path bytes h = alike.more path bytes h alike.none
sources_more (alike.more p b x xs) path bytes h = alike.more p b x (sources_more xs path bytes h)

abbrev more : {K : Kinds} → CodedSource K.script → World K → World K
more x w = world_from (w.sources ++ x ∷ []) w.modules w.heap w.codes w.printed w.frozen w.traces

more_alike : (path bytes : List ℕ) {b : CodeOrFault Script} {c : CodeOrFault Core} → CodedAlike Lowering b c → {w : SourceWorld} {z : CoreWorld} → LoweredWorld w z → LoweredWorld (more (source_from path bytes b) w) (more (source_from path bytes c) z)
more_alike path bytes h (worlds xs ys zs modules heap printed traces) = worlds (sources_more xs path bytes h) ys zs modules heap printed traces

pub more_viewed : (path bytes : List ℕ) (c : CodeOrFault Core) (z : CoreWorld) → source_view (more (source_from path bytes c) z) ≡ more (source_from path bytes (coded_view c)) (source_view z)
more_viewed path bytes c z = ap (λ (xs : List (CodedSource Script)). world_from xs z.modules z.heap (map stored_view z.codes) z.printed (map frozen_view z.frozen) z.traces) (map_more z.sources (source_from path bytes c))

alike_of : (c : CodeOrFault Core) → Stands c → CodedAlike Lowering (coded_view c) c
alike_of (Code core) h = alike.code h
alike_of (Fault f) h = alike.fault f

pub more_sound : (path bytes : List ℕ) (c : CodeOrFault Core) (z : CoreWorld) → Stands c → Sound z → Sound (more (source_from path bytes c) z)
more_sound path bytes c z h sound = ∥∥₁_map sound (λ g. subst (λ w. LoweredWorld w (more (source_from path bytes c) z)) (sym (more_viewed path bytes c z)) (more_alike path bytes (alike_of c h) g))

-- a source more, as its list tells it
pub pushed_sound : (items old : List (CodedSource Core)) (x : CodedSource Core) (path bytes : List ℕ) (c : CodeOrFault Core) (modules : List (List ℕ × Load)) (heap : List Obj) (codes : List (FunctionCode CoreFn)) (printed : List ℕ) (frozen : List (Option (Frozen (List Layer)))) (traces : Traces)
    → items ≡ old ++ x ∷ [] → x ≡ source_from path bytes c → Stands c → Sound (world_from old modules heap codes printed frozen traces) → Sound (world_from items modules heap codes printed frozen traces)
pushed_sound items old x path bytes c modules heap codes printed frozen traces e h stands sound = rw (e, h) (more_sound path bytes c (world_from old modules heap codes printed frozen traces) stands sound)

-- sources by their paths
code_viewed : (c : CodeOrFault Core) → fault_in (coded_view c) ≡ fault_in c
code_viewed (Code m) = refl
code_viewed (Fault f) = refl

fault_cond : (b : Bool) (x : CodedSource Core) (o : Option (CodedSource Core)) (q : Option (CodedSource Script)) → fault_of q ≡ fault_of o → fault_of (cond b (Some (file_view x)) q) ≡ fault_of (cond b (Some x) o)
fault_cond true x o q h = code_viewed x.code
fault_cond false x o q h = h

pub fault_viewed : (path : List ℕ) (xs : List (CodedSource Core)) → fault_of (source_at path (map file_view xs)) ≡ fault_of (source_at path xs)
fault_viewed path [] = refl
fault_viewed path (x ∷ xs) = fault_cond (name_eq path x.path) x (source_at path xs) (source_at path (map file_view xs)) (fault_viewed path xs)

absent_cond : (b : Bool) (x : CodedSource Core) (o : Option (CodedSource Core)) (q : Option (CodedSource Script)) → (q ≡ None → o ≡ None) → cond b (Some (file_view x)) q ≡ None → cond b (Some x) o ≡ None
absent_cond true x o q h e = absurd cc
absent_cond false x o q h e = h e

pub absent_viewed : (path : List ℕ) (xs : List (CodedSource Core)) → source_at path (map file_view xs) ≡ None → source_at path xs ≡ None
absent_viewed path [] h = refl
absent_viewed path (x ∷ xs) h = absent_cond (name_eq path x.path) x (source_at path xs) (source_at path (map file_view xs)) (absent_viewed path xs) h

line_cond : (b : Bool) (n : ℕ) (x : CodedSource Core) (o : Option (CodedSource Core)) (q : Option (CodedSource Script)) → line_in q n ≡ line_in o n → line_in (cond b (Some (file_view x)) q) n ≡ line_in (cond b (Some x) o) n
line_cond true n x o q h = refl
line_cond false n x o q h = h

pub line_viewed : (path : List ℕ) (n : ℕ) (xs : List (CodedSource Core)) → line_at path n (map file_view xs) ≡ line_at path n xs
line_viewed path n [] = refl
line_viewed path n (x ∷ xs) = line_cond (name_eq path x.path) n x (source_at path xs) (source_at path (map file_view xs)) (line_viewed path n xs)
