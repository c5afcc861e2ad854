-- Texts behind one another.
use Rattle.std.proofs.Math.Seq.{drop-cons}
use Rattle.std.proofs.Common.{Bool, false, ℕ, ◌+◌, ◌<◌, length, drop, get_or, Option, add-one, List, [], ◌≡◌, refl, append_assoc}
use Rattle.py_calls.specs.Printing.{gap, line_of}
use Rattle.py_calls.specs.Texts.{append_text, told_text, text_of}
use Rattle.py_values.specs.declared.end.Raise.{Raise}
use Rattle.py_values.specs.declared.object.Obj.{Obj}
use Rattle.py_values.specs.declared.value.Value.{Value}
use Rattle.py_calls.specs.declared.made.TextResult.{TextResult}
use Rattle.py_calls.specs.declared.made.TextResult.TheVariants.{Text, Refused}

pub joined_assoc : (x y z : TextResult) → append_text x (append_text y z) ≡ append_text (append_text x y) z
joined_assoc (Refused r) y z = refl
joined_assoc (Text a) (Refused r) z = refl
joined_assoc (Text a) (Text b) (Refused r) = refl
joined_assoc (Text a) (Text b) (Text c) = simp append_assoc

pub joined_empty : (x : TextResult) → append_text (Text []) x ≡ x
joined_empty (Text a) = refl
joined_empty (Refused r) = refl

pub ruleset joins = (joined_assoc, joined_empty)

-- a turn of the loop over the values that are printed
pub line_turn : (heap : List Obj) (sep end : List ℕ) (args : List Value) (i : ℕ) (d : Value) (first : Bool) (before between behind : List ℕ) (o : Option Raise)
    → i < length args → Text between ≡ append_text (Text before) (gap first sep) → append_text (Text between) (text_of heap (get_or args i d)) ≡ told_text o behind
    → append_text (Text before) (line_of heap first sep end (drop i args)) ≡ append_text (told_text o behind) (line_of heap false sep end (drop (i + 1) args))
line_turn heap sep end args i d first before between behind o lt e f =
    rw (drop-cons args i d lt, joined_assoc, ← e, joined_assoc, f, add-one i) refl
