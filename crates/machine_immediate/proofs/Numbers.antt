-- What operators and comparisons give of whole numbers.
use Rattle.std.proofs.Common.{ℤ, pos, ◌≡◌, ◌≢◌, ◌∙◌, Bool, true, false, List, Option, Some, None, IfSome, refl, sym, ap, if◌then◌else◌}
use Rattle.std.specs.Prelude.{not, ◌||◌, int_lt, codes, ◌+ℤ◌, ◌-ℤ◌, ◌*ℤ◌}
use Rattle.std.specs.Ordering.{int_eq}
use Rattle.std.proofs.lemmas.Bool.{false_from_ne_true}
use Rattle.std.proofs.lemmas.Bool.Decides.{Decides-int_eq}
use Rattle.py_tree.specs.declared.op.BinOp.{BinOp}
use Rattle.py_tree.specs.declared.op.BinOp.TheVariants as op
use Rattle.py_tree.specs.declared.op.CmpOp.{CmpOp}
use Rattle.py_tree.specs.declared.op.CmpOp.TheVariants as cmp
use Rattle.py_values.specs.Raises.{text_raise}
use Rattle.py_values.specs.declared.class.ExcClass.TheVariants.{ZeroDivisionError}
use Rattle.py_values.specs.declared.end.Effect.{Effect}
use Rattle.py_values.specs.declared.end.Effect.TheVariants.{Give, Fail}
use Rattle.py_values.specs.declared.end.Raise.{Raise}
use Rattle.py_values.specs.declared.object.Obj.{Obj}
use Rattle.py_values.specs.declared.value.Value.TheVariants as val
use Rattle.py_compare.specs.Equal.{Holds, Fails, equal_of}
use Rattle.py_compare.specs.Order.{order_of}
use Rattle.py_compare.specs.Order as place
use Rattle.py_operands.specs.Numbers as numbers
use Rattle.py_ops.specs.Binary.{binary_of, numbers_by}
use Rattle.py_ops.specs.Compare.{compare_of, judged, placed_by, order_places}
use Rattle.py_ops.specs.declared.compare.Places.{Places}
use Rattle.machine_immediate.specs.Numbers.{told_by}

-- a number that has its 128 bits
fitted : (z : ℤ) (r : Option ℤ) → r ≡ numbers.fitting z → IfSome r (λ n. numbers.bounded_number z ≡ Give (val.Int n) 0)
fitted z None h = tt
fitted z (Some n) h = ap numbers.number_made (sym h)

apart : (y : ℤ) → y ≢ pos 0 → int_eq y (pos 0) ≡ false
apart y h = false_from_ne_true (int_eq y (pos 0)) (λ e. h ((Decides-int_eq y (pos 0)).0 e))

otherwise : (b : Bool) (f m : Effect) → b ≡ false → (if b then f else m) ≡ m
otherwise true f m h = absurd cc
otherwise false f m h = refl

divided : (y z : ℤ) (r : Option ℤ) → y ≢ pos 0 → r ≡ numbers.fitting z → IfSome r (λ n. numbers.divided y z ≡ Give (val.Int n) 0)
divided y z None k h = tt
divided y z (Some n) k h =
    otherwise (int_eq y (pos 0)) (Fail (text_raise ZeroDivisionError (codes "division by zero")) 0) (numbers.bounded_number z) (apart y k) ∙ ap numbers.number_made (sym h)

-- each operator whose number is told at once
module _ (o : BinOp) (x y : ℤ) (r : Option ℤ) where
  pub added : o ≡ op.Add → r ≡ numbers.fitting (x +ℤ y) → IfSome r (λ n. numbers_by o x y ≡ Give (val.Int n) 0)
  added is h = rw is (fitted (x +ℤ y) r h)

  pub subtracted : o ≡ op.Sub → r ≡ numbers.fitting (x -ℤ y) → IfSome r (λ n. numbers_by o x y ≡ Give (val.Int n) 0)
  subtracted is h = rw is (fitted (x -ℤ y) r h)

  pub multiplied : o ≡ op.Mul → r ≡ numbers.fitting (x *ℤ y) → IfSome r (λ n. numbers_by o x y ≡ Give (val.Int n) 0)
  multiplied is h = rw is (fitted (x *ℤ y) r h)

  pub floored : o ≡ op.FloorDiv → y ≢ pos 0 → r ≡ numbers.fitting (numbers.floor_div x y) → IfSome r (λ n. numbers_by o x y ≡ Give (val.Int n) 0)
  floored is k h = rw is (divided y (numbers.floor_div x y) r k h)

  pub left_over : o ≡ op.Mod → y ≢ pos 0 → r ≡ numbers.fitting (numbers.floor_mod x y) → IfSome r (λ n. numbers_by o x y ≡ Give (val.Int n) 0)
  left_over is k h = rw is (divided y (numbers.floor_mod x y) r k h)

-- an operator between two numbers
whole_of : (heap : List Obj) (x y : ℤ) (o : BinOp) → binary_of o heap (val.Int x) (val.Int y) ≡ numbers_by o x y
unfolding binary_of
whole_of heap x y op.Add = refl
whole_of heap x y op.Sub = refl
whole_of heap x y op.Mul = refl
whole_of heap x y op.FloorDiv = refl
whole_of heap x y op.Mod = refl
whole_of heap x y op.Pow = refl
whole_of heap x y op.LShift = refl
whole_of heap x y op.RShift = refl
whole_of heap x y op.BitAnd = refl
whole_of heap x y op.BitOr = refl
whole_of heap x y op.BitXor = refl

pub whole : (o : BinOp) (x y z : ℤ) → numbers_by o x y ≡ Give (val.Int z) 0 → (heap : List Obj) → binary_of o heap (val.Int x) (val.Int y) ≡ Give (val.Int z) 0
whole o x y z h heap = whole_of heap x y o ∙ h

-- equality
equal_if : (b : Bool) → judged true (if b then Holds else Fails) 0 ≡ Give (val.Bool b) 0
equal_if true = refl
equal_if false = refl

unequal_if : (b : Bool) → judged false (if b then Holds else Fails) 0 ≡ Give (val.Bool (not b)) 0
unequal_if true = refl
unequal_if false = refl

-- order
place_if : (r : Raise) (h : Places) (less same : Bool) → placed_by r h (if less then place.Less else if same then place.Same else place.More) 0
    ≡ Give (val.Bool (if less then h.less else if same then h.same else h.more)) 0
place_if r h true same = refl
place_if r h false true = refl
place_if r h false false = refl

less_if : (less same : Bool) → (if less then true else if same then false else false) ≡ less
less_if true same = refl
less_if false true = refl
less_if false false = refl

at_most_if : (less same : Bool) → (if less then true else if same then true else false) ≡ (less || same)
at_most_if true same = refl
at_most_if false true = refl
at_most_if false false = refl

more_if : (less same : Bool) → (if less then false else if same then false else true) ≡ not (less || same)
more_if true same = refl
more_if false true = refl
more_if false false = refl

at_least_if : (less same : Bool) → (if less then false else if same then true else true) ≡ not less
at_least_if true same = refl
at_least_if false true = refl
at_least_if false false = refl

boolean : (a b : Bool) → a ≡ b → Give (val.Bool a) 0 ≡ Give (val.Bool b) 0
boolean a b h = ap (λ (x : Bool). Give (val.Bool x) 0) h

-- what is told is what the comparison makes
tells : (heap : List Obj) (x y : ℤ) (o : CmpOp) → IfSome (told_by o (int_lt x y) (int_eq x y)) (λ b. compare_of o heap (val.Int x) (val.Int y) ≡ Give (val.Bool b) 0)
unfolding compare_of equal_of order_of
tells heap x y cmp.Equal = equal_if (int_eq x y)
tells heap x y cmp.NotEqual = unequal_if (int_eq x y)
tells heap x y cmp.Less = place_if _ (order_places true false false) (int_lt x y) (int_eq x y) ∙ boolean _ _ (less_if (int_lt x y) (int_eq x y))
tells heap x y cmp.LessEqual = place_if _ (order_places true true false) (int_lt x y) (int_eq x y) ∙ boolean _ _ (at_most_if (int_lt x y) (int_eq x y))
tells heap x y cmp.Greater = place_if _ (order_places false false true) (int_lt x y) (int_eq x y) ∙ boolean _ _ (more_if (int_lt x y) (int_eq x y))
tells heap x y cmp.GreaterEqual = place_if _ (order_places false true true) (int_lt x y) (int_eq x y) ∙ boolean _ _ (at_least_if (int_lt x y) (int_eq x y))
tells heap x y cmp.In = tt
tells heap x y cmp.NotIn = tt
tells heap x y cmp.Is = tt
tells heap x y cmp.IsNot = tt

told_some : (o : CmpOp) (x y : ℤ) (t : Option Bool) (b : Bool) → ((heap : List Obj) → IfSome t (λ b. compare_of o heap (val.Int x) (val.Int y) ≡ Give (val.Bool b) 0)) → Some b ≡ t
    → (heap : List Obj) → compare_of o heap (val.Int x) (val.Int y) ≡ Give (val.Bool b) 0
told_some o x y None b f h heap = absurd cc
told_some o x y (Some c) b f h heap = let same : c ≡ b = cc in f heap ∙ boolean c b same

pub answered : (o : CmpOp) (x y : ℤ) (r : Option Bool) → r ≡ told_by o (int_lt x y) (int_eq x y) → IfSome r (λ b. (heap : List Obj) → compare_of o heap (val.Int x) (val.Int y) ≡ Give (val.Bool b) 0)
answered o x y None h = tt
answered o x y (Some b) h = told_some o x y (told_by o (int_lt x y) (int_eq x y)) b (λ heap. tells heap x y o) h
