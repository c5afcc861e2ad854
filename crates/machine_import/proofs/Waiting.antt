-- A module is loaded, and a frame waits for it.
use Rattle.std.proofs.Common.{◌≡◌, ℕ, List, ◌∷◌, refl}
use Rattle.machine_state.specs.py_world.Imports.{faulty}
use Rattle.machine_state.specs.py_world.Runs.{load_part}
use Rattle.machine_state.specs.core_meaning.Statements.{core_body}
use Rattle.machine_state.specs.declared.frame.Frame.{Frame}
use Rattle.machine_state.specs.declared.frame.Frame.TheVariants as on
use Rattle.machine_state.specs.declared.frame.ModuleFrame.{ModuleFrame}
use Rattle.machine_state.specs.declared.place.Location.{Location}
use Rattle.machine_state.specs.Definings.{on_module}
use Rattle.machine_state.specs.Places.{CoreState, ends, site_of}
use Rattle.machine_state.specs.Frames.{after_stack, handled_exception, outer_of}

pub load_waits : (n : ℕ) (h : Location) (fs fs' : List Frame) (s : CoreState) (f : ModuleFrame) (path : List ℕ) → fs' ≡ on.Module f ∷ fs
    → ends n (load_part core_body path (faulty path) (site_of h (outer_of fs) (handled_exception fs)) s (λ o. on_module f (site_of h (outer_of fs) (handled_exception fs)) o (after_stack fs h)))
    ≡ ends n (load_part core_body path (faulty path) (site_of h (outer_of fs') (handled_exception fs')) s (after_stack fs' h))
load_waits n h fs fs' s f path pushed = rw pushed refl
