-- Looking for a name in two lists, one behind the other, and among the classes of exceptions.
use Rattle.std.proofs.Common.{ℕ, suc, ◌+◌, Bool, true, false, List, [], ◌∷◌, ◌++◌, ◌≡◌, refl, ap, sym, ◌∙◌, Option, Some, None}
use Rattle.std.specs.Prelude.{cond}
use native.Mathlib.Nat.{suc-add}
use Rattle.py_kinds.specs.Builtins.{classes_from, class_named}
use Rattle.py_kinds.specs.Kinds.{class_name}
use Rattle.py_values.specs.Ends.{id_at}
use Rattle.py_values.specs.declared.class.ExcClass.{ExcClass}
use Rattle.py_values.specs.declared.value.Value.{Value}
use Rattle.py_values.specs.declared.value.Value.TheVariants.{Ref}
use Rattle.py_values.specs.Names.{find_name, name_eq}

-- the first, and else the second
abbrev pub or_value : Option Value → Option Value → Option Value
or_value (Some v) other = Some v
or_value None other = other

either : (b : Bool) (v : Value) (x y : Option Value) → cond b (Some v) (or_value x y) ≡ or_value (cond b (Some v) x) y
either true v x y = refl
either false v x y = refl

pub find_behind : (name : List ℕ) (xs ys : List (List ℕ × Value)) → find_name name (xs ++ ys) ≡ or_value (find_name name xs) (find_name name ys)
find_behind name [] ys = refl
find_behind name (x ∷ xs) ys = ap (cond (name_eq name x.0) (Some x.1)) (find_behind name xs ys) ∙ either (name_eq name x.0) x.1 (find_name name xs) (find_name name ys)

-- the value of an index, where the first class stands at a place
abbrev pub placed : ℕ → Option ℕ → Option Value
placed m (Some i) = Some (Ref (id_at (i + m)))
placed m None = None

either_place : (b : Bool) (m n : ℕ) (x : Option ℕ) → cond b (Some (Ref (id_at (n + m)))) (placed m x) ≡ placed m (cond b (Some n) x)
either_place true m n x = refl
either_place false m n x = refl

pub find_class : (name : List ℕ) (m n : ℕ) (cs : List ExcClass) → find_name name (classes_from (n + m) cs) ≡ placed m (class_named name n cs)
find_class name m n [] = refl
find_class name m n (c ∷ cs) =
    ap (λ k. cond (name_eq name (class_name c)) (Some (Ref (id_at (n + m)))) (find_name name (classes_from k cs))) (sym (suc-add n m))
    ∙ ap (cond (name_eq name (class_name c)) (Some (Ref (id_at (n + m))))) (find_class name m (suc n) cs)
    ∙ either_place (name_eq name (class_name c)) m n (class_named name (suc n) cs)
