-- The lines of sources.
use Rattle.std.specs.Prelude.{◌≡◌, ◌≤◌, ℕ, zero, suc, Bool, true, false, List, [], ◌∷◌, drop, length, Option, Some, None, ◌==◌, if◌then◌else◌, nat_eq, slice_get, slice_range}
use Rattle.std.specs.List.{starts_with}
use Rattle.std.specs.Borrow.{Bor}
use Rattle.std.specs.Str.{IsUtf8, is_utf8}
use Rattle.std.specs.Str.Lines.{lines}
use Rattle.core_meaning.specs.py_world.World.{CodedSource}
use Rattle.core_meaning.specs.py_world.Runs.{source_at}

-- a text may begin with a byte order mark, which is no part of its first line
abbrev pub byte_order_mark : List ℕ
byte_order_mark = 239 ∷ 187 ∷ 191 ∷ []

abbrev pub without_mark : List ℕ → List ℕ
without_mark bytes = if starts_with nat_eq bytes byte_order_mark then drop 3 bytes else bytes

-- the line with this number, from 1
abbrev pub numbered : ℕ → List (List ℕ) → Option (List ℕ)
numbered zero ls = None
numbered (suc n) ls = slice_get ls n

-- a byte that ends a line
abbrev pub is_end : ℕ → Bool
is_end b = b == 10

-- the bytes behind this many ends of lines; none where there are fewer
abbrev pub behind : ℕ → List ℕ → List ℕ
behind zero bs = bs
behind (suc n) [] = []
behind (suc n) (b ∷ bs) = if is_end b then behind n bs else behind (suc n) bs

-- a line of a text, without its end; bytes that are no text have no lines
abbrev pub text_line : List ℕ → ℕ → Option (List ℕ)
text_line bytes n = if is_utf8 bytes then numbered n (lines bytes) else None

-- a line of a source
abbrev pub source_line : List ℕ → ℕ → Option (List ℕ)
source_line bytes n = text_line (without_mark bytes) n

module _ {M : Type 0} where
  abbrev pub line_in : Option (CodedSource M) → ℕ → Option (List ℕ)
  line_in (Some x) n = source_line x.bytes n
  line_in None n = None

  -- a line of the source that stands at a path
  abbrev pub line_at : List ℕ → ℕ → List (CodedSource M) → Option (List ℕ)
  line_at path n sources = line_in (source_at path sources) n

-- the bytes of a text
abbrev pub told_line : Bor (List ℕ) → List ℕ
told_line text = text.now

-- WHERE LINES BEGIN: the n-th start and those behind it, each behind as many ends of lines
abbrev pub StartsFrom : ℕ → List ℕ → List ℕ → Type 0
StartsFrom n bs [] = Unit {0}
StartsFrom n bs (at ∷ starts) = (at ≤ length bs) × (drop at bs ≡ behind n bs) × StartsFrom (suc n) bs starts

-- the starts of all lines
abbrev pub IsStarts : List ℕ → List ℕ → Type 0
IsStarts bs starts = StartsFrom 0 bs starts × (behind (length starts) bs ≡ [])

-- the starts of the lines that end before a place, and of the next one
abbrev pub StartsTo : ℕ → List ℕ → List ℕ → Type 0
StartsTo at bs starts = StartsFrom 0 bs starts × (behind (length starts) bs ≡ behind 1 (drop at bs))

-- bytes that are no text have none
abbrev pub HasStarts : List ℕ → List ℕ → Type 0
HasStarts bs starts = (is_utf8 bs ≡ true → IsStarts bs starts) × (is_utf8 bs ≡ false → starts ≡ [])

-- a piece of a text, whose first line this is
pub record IsPiece (bs : List ℕ) (at to : ℕ) (line : Option (List ℕ)) : Type 0 where
  pub low : at ≤ to
  pub far : to ≤ length bs
  pub utf8 : IsUtf8 (slice_range bs at to)
  pub is : slice_get (lines (slice_range bs at to)) 0 ≡ line
