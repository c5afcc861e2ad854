-- What `KeepsFrames` refuses.
use Rattle.std.proofs.Common.{◌≡◌, ℕ, Bool, true, false, refl, sym, subst, ◌∙◌, List, Option}
use Rattle.hook_order.specs.declared.implementation.Impl.{Impl}
use Rattle.session_rules.specs.Frames.{FramesBegun, KeepsFrames}
use Rattle.session_rules.specs.World.{HookArguments, Language, Phase, Rules, Yielded}

two : (b : Bool) → b ≡ true → b ≡ false → ⊥
two b e f = (let z : true ≡ false = sym e ∙ f in cc)

module _ {L : Language} (rules : Rules L) where
  -- that no frame is ever out, where a function yields
  pub not_blind : KeepsFrames rules (λ r w. false) → (item d : ℕ) (param : Option ℕ) (own : Option L.Value) (values : List L.Value) (request : Option L.Value) (w : L.World) (v : L.Value) (rest : L.Rest)
      → (rules.begin item d param own values request w).how ≡ Yielded v rest → ⊥
  not_blind keep item d param own values request w v rest e =
      let o = rules.begin item d param own values request w in
      let h = subst (λ how. FramesBegun (λ r w. false) w how o.world) e (keep.begin item d param own values request w) in
      two false h.is refl

  module _ (is_out : L.Rest → L.World → Bool) (keep : KeepsFrames rules is_out) (r : L.Rest) (w : L.World) (out : is_out r w ≡ true) where
    -- a hook that clears a frame
    pub not_cleared : (phase : Phase) (item : ℕ) (arguments : HookArguments L) (which : Impl) → is_out r (rules.implement phase item arguments which w).world ≡ false → ⊥
    not_cleared phase item arguments which f = two (is_out r w) out (sym (keep.implement phase item arguments which w r) ∙ f)

    -- a wrapper that stands in the frame of another
    pub not_shared : (phase : Phase) (item : ℕ) (arguments : HookArguments L) (which : Impl) (v : L.Value) → (rules.open_wrapper phase item arguments which w).how ≡ Yielded v r → ⊥
    not_shared phase item arguments which v e =
        let o = rules.open_wrapper phase item arguments which w in
        let h = subst (λ how. FramesBegun is_out w how o.world) e (keep.open_wrapper phase item arguments which w) in
        two (is_out r w) out h.was
