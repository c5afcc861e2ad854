-- What goes down with an instance, or where a session goes on elsewhere.
use Rattle.std.specs.Prelude.{ℕ, Bool, List}
use Rattle.std.specs.List.{filter}
use Rattle.session_types.specs.Live.{rests_on, has_off}
use Rattle.session_types.specs.declared.instance.Instance.{Instance}
use Rattle.live_chains.specs.declared.dying.Dying.{Dying}
use Rattle.live_chains.specs.declared.dying.Dying.TheVariants.{Dependents, NotOn}

abbrev pub dies : Dying → List (Instance ℕ) → Instance ℕ → Bool
dies (Dependents id) live = rests_on id.order
dies (NotOn chain) live = has_off live chain.now

-- an instance and all that depend on it, or all off a chain and all that depend on one of these
abbrev pub dying : Dying → List (Instance ℕ) → List (Instance ℕ)
dying which live = filter (dies which live) live
