-- From worlds that are alike to the equation of a world and its source_view.
use Rattle.std.proofs.Common.{◌≡◌, ◌∙◌, ℕ, zero, suc, Bool, List, [], ◌∷◌, map, Option, Some, None, refl, sym, ap, subst}
use Rattle.std.specs.Prelude.{slice_set}
use Rattle.std.proofs.Math.Logic.{∥∥₁_elim, ∥∥₁_map}
use Rattle.lower_law.proofs.Sets.{told-set, begun-set, tape-set}
use Rattle.py_values.specs.declared.value.Value.{Value}
use Rattle.core_meaning.specs.py_core.declared.stmt.Core.{Core}
use Rattle.core_meaning.specs.py_core.declared.stmt.CoreFn.{CoreFn}
use Rattle.core_meaning.specs.py_core.declared.stmt.CoreUse.{CoreUse}
use Rattle.source_meaning.specs.Requests as s
use Rattle.source_meaning.specs.Requests.{source_kinds, Script, Function}
use Rattle.core_meaning.specs.Requests as c
use Rattle.core_meaning.specs.Requests.{core_kinds}
use Rattle.source_meaning.specs.Meaning.{SourceWorld, source_semantics, source_call, source_module, source_begin, source_resume}
use Rattle.core_meaning.specs.Meaning.{CoreWorld, core, core_call, core_module, core_begin, core_resume}
use Rattle.source_meaning.specs.py_world.World.{CodedSource, CodeOrFault, Code, FunctionCode, Frozen}
use Rattle.source_meaning.specs.py_world.Runs.{Told}
use Rattle.source_meaning.specs.py_world.Resuming.{Sent, ToldBegun, abandon_of}
use Rattle.lower_law.specs.Alike as alike
use Rattle.lower_law.specs.Alike.{CodedAlike, SourcesAlike, CodesAlike, FrozenAlike, worlds, source_from, stored_from, frozen_from, world_from}
use Rattle.lower_law.specs.Law.{call_tape, LoweredCode, Lowering, LoweredWorld, SameTold}
use Rattle.lower_law.specs.Lowered as low
use Rattle.lower_law.specs.Lowered.{LoweredUse, LoweredLayers}
use Rattle.lower_law.specs.Sourced.{source_of, function_in}
use Rattle.lower_law.specs.View.{stored_view, coded_view, file_view, use_view, layer_view, frozen_view, source_view, view_told, view_begun, Sound}
use Rattle.lower_law.proofs.Keeps.{calls_same, modules_same, tapes_same}
use Rattle.lower_law.proofs.Resumes.{SameBegun, abandoned, begins_same, resumes_same}

code_carries : (f : Function) (c : CoreFn) → LoweredCode f c → source_of c ≡ f
code_carries _ _ (word, low.made _ name {source = source_semantics} from is own yielding (low.body flag _ h)) = ap (λ x. function_in x source_semantics.value) flag ∙ from

codes_viewed : {fs : List (FunctionCode Function)} {cs : List (FunctionCode CoreFn)} → CodesAlike Lowering fs cs → map stored_view cs ≡ fs
codes_viewed alike.none = refl
codes_viewed (alike.more path home {c = f} {d = c} h hs) = λ i. stored_from path home (code_carries f c h i) ∷ codes_viewed hs i

coded_viewed : {b : CodeOrFault Script} {c : CodeOrFault Core} → CodedAlike Lowering b c → coded_view c ≡ b
coded_viewed (alike.code h) = λ i. Code (h.0 i)
coded_viewed (alike.fault f) = refl

sources_viewed : {bs : List (CodedSource Script)} {cs : List (CodedSource Core)} → SourcesAlike Lowering bs cs → map file_view cs ≡ bs
sources_viewed alike.none = refl
sources_viewed (alike.more path bytes h hs) = λ i. source_from path bytes (coded_viewed h i) ∷ sources_viewed hs i

use_viewed : {u : s.Use} {x : CoreUse} → LoweredUse u x → use_view x ≡ u
use_viewed low.LoweredUse.no_use = refl
use_viewed (low.LoweredUse.targets from xs) = λ i. s.Targets (from i)
use_viewed low.LoweredUse.return_it = refl

layers_viewed : {z : Bool} {ls : List s.SourceLayer} {ks : List c.Layer} → LoweredLayers z ls ks → map layer_view ks ≡ ls
layers_viewed low.LoweredLayers.none = refl
layers_viewed (low.LoweredLayers.more b at flag from h hl) = λ i. s.Statements (flag i) (from i) ∷ layers_viewed hl i
layers_viewed (low.LoweredLayers.guarded g line (low.guard from h (low.body flag others _) (low.body flag' lasts _)) hl) = λ i. s.Guard (flag i) line (from i) (others i) (lasts i) ∷ layers_viewed hl i
layers_viewed (low.LoweredLayers.receives h hl) = λ i. s.Receives (use_viewed h i) ∷ layers_viewed hl i

frozen_viewed : {fs : List (Option (Frozen (List s.SourceLayer)))} {gs : List (Option (Frozen (List c.Layer)))} → FrozenAlike Lowering fs gs → map frozen_view gs ≡ fs
frozen_viewed alike.none = refl
frozen_viewed (alike.taken hs) = λ i. None ∷ frozen_viewed hs i
frozen_viewed (alike.more p a h hs) = λ i. Some (frozen_from (layers_viewed h.1 i) p a) ∷ frozen_viewed hs i

pub viewed : {w : SourceWorld} {z : CoreWorld} → LoweredWorld w z → source_view z ≡ w
viewed (worlds xs ys zs modules heap printed traces) = λ i. world_from (sources_viewed xs i) modules heap (codes_viewed ys i) printed (frozen_viewed zs i) traces

told_viewed : (a : Told source_kinds) (b : Told core_kinds) → SameTold a b → view_told b ≡ a
told_viewed a b h = λ i. (sym h.0 i, viewed h.1 i)

told_kept : (a : Told source_kinds) (b : Told core_kinds) → SameTold a b → LoweredWorld (source_view b.1) b.1
told_kept a b h = subst (λ w. LoweredWorld w b.1) (sym (viewed h.1)) h.1

-- CALLS AND LOADS, as equations
pub call_viewed : (w : CoreWorld) → Sound w → (f : Value) (args : List Value) (budget : ℕ) → view_told (core_call f args budget w) ≡ source_call f args budget (source_view w)
call_viewed w sound f args budget = ∥∥₁_elim sound (told-set _ _) (λ h. told_viewed _ _ (calls_same (source_view w) w h f args budget))

pub call_sound : (w : CoreWorld) → Sound w → (f : Value) (args : List Value) (budget : ℕ) → Sound (core_call f args budget w).1
call_sound w sound f args budget = ∥∥₁_map sound (λ h. told_kept _ _ (calls_same (source_view w) w h f args budget))

pub module_viewed : (w : CoreWorld) → Sound w → (path : List ℕ) (budget : ℕ) → view_told (core_module path budget w) ≡ source_module path budget (source_view w)
module_viewed w sound path budget = ∥∥₁_elim sound (told-set _ _) (λ h. told_viewed _ _ (modules_same (source_view w) w h path budget))

pub module_sound : (w : CoreWorld) → Sound w → (path : List ℕ) (budget : ℕ) → Sound (core_module path budget w).1
module_sound w sound path budget = ∥∥₁_map sound (λ h. told_kept _ _ (modules_same (source_view w) w h path budget))

pub tape_viewed : (w : CoreWorld) → Sound w → (f : Value) (args : List Value) (budget : ℕ) → call_tape core f args budget w ≡ call_tape source_semantics f args budget (source_view w)
tape_viewed w sound f args budget = ∥∥₁_elim sound (tape-set _ _) (λ h. sym (tapes_same (source_view w) w h f args budget))

-- BEGINS AND RESUMPTIONS
begun_viewed : (a : ToldBegun source_kinds) (b : ToldBegun core_kinds) → SameBegun a b → view_begun b ≡ a
begun_viewed a b h = λ i. (sym h.0 i, viewed h.1 i)

begun_kept : (a : ToldBegun source_kinds) (b : ToldBegun core_kinds) → SameBegun a b → LoweredWorld (source_view b.1) b.1
begun_kept a b h = subst (λ w. LoweredWorld w b.1) (sym (viewed h.1)) h.1

pub begin_viewed : (w : CoreWorld) → Sound w → (f : Value) (args : List Value) (budget : ℕ) → view_begun (core_begin f args budget w) ≡ source_begin f args budget (source_view w)
begin_viewed w sound f args budget = ∥∥₁_elim sound (begun-set _ _) (λ h. begun_viewed _ _ (begins_same (source_view w) w h f args budget))

pub begin_sound : (w : CoreWorld) → Sound w → (f : Value) (args : List Value) (budget : ℕ) → Sound (core_begin f args budget w).1
begin_sound w sound f args budget = ∥∥₁_map sound (λ h. begun_kept _ _ (begins_same (source_view w) w h f args budget))

pub resume_viewed : (w : CoreWorld) → Sound w → (n : ℕ) (sent : Sent) (budget : ℕ) → view_begun (core_resume n sent budget w) ≡ source_resume n sent budget (source_view w)
resume_viewed w sound n sent budget = ∥∥₁_elim sound (begun-set _ _) (λ h. begun_viewed _ _ (resumes_same (source_view w) w h n sent budget))

pub resume_sound : (w : CoreWorld) → Sound w → (n : ℕ) (sent : Sent) (budget : ℕ) → Sound (core_resume n sent budget w).1
resume_sound w sound n sent budget = ∥∥₁_map sound (λ h. begun_kept _ _ (resumes_same (source_view w) w h n sent budget))

-- frames that are given up
abandon_viewed_by : (fs : List (Option (Frozen (List c.Layer)))) (n : ℕ) → map frozen_view (slice_set fs n None) ≡ slice_set (map frozen_view fs) n None
abandon_viewed_by [] n = refl
abandon_viewed_by (f ∷ fs) zero = refl
abandon_viewed_by (f ∷ fs) (suc n) = ap (λ xs. frozen_view f ∷ xs) (abandon_viewed_by fs n)

pub abandon_viewed : (w : CoreWorld) (n : ℕ) → source_view (abandon_of n w) ≡ abandon_of n (source_view w)
abandon_viewed w n = ap (λ fs. world_from (source_view w).sources w.modules w.heap (source_view w).codes w.printed fs w.traces) (abandon_viewed_by w.frozen n)

pub abandon_sound : (w : CoreWorld) → Sound w → (n : ℕ) → Sound (abandon_of n w)
abandon_sound w sound n = ∥∥₁_map sound (λ h. subst (λ x. LoweredWorld x (abandon_of n w)) (sym (abandon_viewed w n)) (abandoned n h))
