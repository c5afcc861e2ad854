-- A text has a part that stands somewhere in it.
use Rattle.std.proofs.Common.{ℕ, suc, Bool, true, false, ◌||◌, List, [], ◌∷◌, ◌≡◌, is_some, Option, Some, None, refl, if◌then◌else◌}
use Rattle.std.specs.List.{starts_with}
use Rattle.std.specs.Prelude.{nat_eq}
use Rattle.py_operands.specs.Search.{first_place}
use Rattle.py_ops.specs.Compare.{has_part}

by_head : (b : Bool) (at : ℕ) (later : Option ℕ) → is_some (if b then Some at else later) ≡ (b || is_some later)
by_head true at later = refl
by_head false at later = refl

or_none : (b : Bool) → (b || false) ≡ b
or_none true = refl
or_none false = refl

found_from : (part text : List ℕ) (at : ℕ) → is_some (first_place part at text) ≡ has_part part text
found_from part [] at = rw (by_head (starts_with nat_eq [] part) at None) (or_none (starts_with nat_eq [] part))
found_from part (c ∷ cs) at =
    rw (by_head (starts_with nat_eq (c ∷ cs) part) at (first_place part (suc at) cs), found_from part cs (suc at)) refl

pub part_found : (part text : List ℕ) → is_some (first_place part 0 text) ≡ has_part part text
part_found part text = found_from part text 0
