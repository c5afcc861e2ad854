-- A module is executed once.
use Rattle.std.proofs.Common.{◌≡◌, ℕ, List, Option, Some, None, refl}
use Rattle.std.specs.Prelude.{IsSome}
use Rattle.py_source.specs.declared.fault.SourceFault.{SourceFault}
use Rattle.py_values.specs.Ends.{id_at}
use Rattle.py_values.specs.declared.value.Value.TheVariants as val
use Rattle.source_meaning.specs.py_world.declared.load.Load.{Load}
use Rattle.source_meaning.specs.py_world.declared.load.Load.TheVariants.{Running, Loaded, Failed}
use Rattle.source_meaning.specs.py_world.World.{Kinds, World, CallState}
use Rattle.source_meaning.specs.py_world.Site.{Site, around_of}
use Rattle.source_meaning.specs.py_world.Outcome.{Gave, Raised, Continuation, Denotation, Body, call_end}
use Rattle.source_meaning.specs.py_world.Runs.{load_at, coded, source_at, module_place, with_module, executed, load_by, load_part}
use Rattle.source_meaning.specs.py_world.Imports.{faulty_by}
use Rattle.core_rules.specs.Exceptions.{state_behind}
use Rattle.core_rules.specs.Loads.{EndsAtOnce}
use Rattle.core_rules.proofs.Worlds.{put_here}

module _ {K : Kinds} (body : K.script → Body K) where
  -- a module that is known is given as it is, or raises what it has raised
  again_by : (l : Option Load) (path : List ℕ) (missing : Denotation K) (p : Site) (s : CallState K) → IsSome l → EndsAtOnce (load_by body l path missing) p s
  again_by (Some (Running id)) path missing p s h = record { end = Gave (val.Ref id) s; ends = λ k. refl; kept = refl }
  again_by (Some (Loaded id)) path missing p s h = record { end = Gave (val.Ref id) s; ends = λ k. refl; kept = refl }
  again_by (Some (Failed e trace)) path missing p s h = record { end = Raised e trace s; ends = λ k. refl; kept = refl }
  again_by None path missing p s h = absurd cc

  pub again : (path : List ℕ) (missing : Denotation K) (p : Site) (s : CallState K) → IsSome (load_at path s.world.modules) → EndsAtOnce (load_part body path missing) p s
  again path missing p s h =
      let r : EndsAtOnce (load_by body (load_at path s.world.modules) path missing) p s = again_by (load_at path s.world.modules) path missing p s h in
      record { end = r.end; ends = λ k. r.ends k; kept = r.kept }

  -- one that is not known is executed
  pub first : (path : List ℕ) (code : K.script) (missing : Denotation K) (p : Site) (s : CallState K) (k : Continuation K) → load_at path s.world.modules ≡ None → coded (source_at path s.world.sources) ≡ Some code → load_part body path missing p s k ≡ executed body path code (around_of p) s.world (λ o. k (call_end s o))
  first path code missing p s k is has = rw (is, has) refl

module _ {K : Kinds} where
  -- and is known from its beginning on
  pub begins : (path : List ℕ) (w : World K) → IsSome (load_at path (with_module path w).modules)
  begins path w = put_here path (Running (id_at (module_place path w))) w.modules

  -- a source with a fault has failed with its first load
  pub fails : (path : List ℕ) (f : SourceFault) (p : Site) (s : CallState K) → IsSome (load_at path (state_behind (faulty_by (Some f) path p s)).world.modules)
  fails path f p s = put_here path _ s.world.modules
