-- Symbols put behind a text that is being made.
use Rattle.std.specs.Prelude.{ℕ, true, false, [], ◌∷◌, ◌++◌, length, nat_lt, if◌then◌else◌}
use Rattle.py_repr.specs.Showing.{TextBuffer}
use Rattle.py_repr.specs.Symbols.{Symbol, Char, Deep}
use Rattle.py_repr.specs.declared.shown.Shown.{Shown}

abbrev pub start_showing : ℕ → TextBuffer
start_showing most = record { out = []; most = most; cut = false; deep = false }

-- one symbol more, where there is room
abbrev pub add : TextBuffer → Symbol → TextBuffer
add s (Char c) =
    if s.cut then s
    else if nat_lt (length s.out) s.most then record s { out = s.out ++ c ∷ [] }
    else record s { cut = true }
add s Deep =
    if s.cut then s
    else if nat_lt (length s.out) s.most then record s { out = s.out ++ 46 ∷ []; deep = true }
    else record s { cut = true }

abbrev pub shown_of : TextBuffer → Shown
shown_of s = record { text = s.out; cut = s.cut; deep = s.deep }
