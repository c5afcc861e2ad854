-- The innermost frame is another one.
use Rattle.std.proofs.Common.{◌≡◌, List, [], ◌∷◌, Some, None, refl, ap}
use Rattle.frame_stacks.specs.Stacked.{first_of, with_first}
use Rattle.machine_state.specs.declared.frame.Frame.{Frame}
use Rattle.machine_state.specs.declared.stack.NextStatement.{NextStatement}
use Rattle.machine_state.specs.Steps.{stepped, IsNextOf, IsStepped}
use Rattle.machine_state.specs.Stacks.{StackView, IsSteppedOn}

first_is : (x f : Frame) (fs : List Frame) → Some x ≡ first_of (f ∷ fs) → x ≡ f
first_is x f fs e = cc

-- it is stepped on, whatever stood in its place meanwhile
pub stepped_top : (n : NextStatement) (own : List Frame) (x y z : Frame) → Some x ≡ first_of own → y ≡ stepped x → IsNextOf n x → IsStepped n own (with_first y (with_first z own))
stepped_top n [] x y z e is next = absurd cc
stepped_top n (f ∷ fs) x y z e is next = rw (← first_is x f fs e) (ap (λ (g : Frame). g ∷ fs) is, next)

-- or it is the same
pub same_top : (own : List Frame) (x y z : Frame) → Some x ≡ first_of own → y ≡ x → with_first y (with_first z own) ≡ own
same_top [] x y z e is = refl
same_top (f ∷ fs) x y z e is = rw (is, first_is x f fs e) refl

-- or there is none
pub no_top : (own : List Frame) (z : Frame) → None ≡ first_of own → with_first z own ≡ own
no_top [] z e = refl
no_top (f ∷ fs) z e = absurd cc

-- in the view
pub same_view : (old new : StackView) → new.own ≡ old.own → new.frozen ≡ old.frozen → new ≡ old
same_view old new e h = λ i. record { own = e i; frozen = h i }

pub stepped_view : (n : NextStatement) (old new : StackView) → IsStepped n old.own new.own → new.frozen ≡ old.frozen → IsSteppedOn n old new
stepped_view n old new is h = (λ i. record { own = new.own; frozen = h i }, is)
