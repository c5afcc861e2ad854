-- Lines of texts, and of bytes that are none.
use Rattle.std.proofs.Common.{◌≡◌, ℕ, List, Option, None, Bool, true, false, refl, if◌then◌else◌}
use Rattle.std.specs.Str.{IsUtf8, is_utf8}
use Rattle.std.specs.Str.Lines.{lines}
use Rattle.std.proofs.lemmas.Str.{IsUtf8-from_is_utf8, is_utf8-from_IsUtf8}
use Rattle.machine_state.specs.Lines.{numbered, source_line, text_line, without_mark}

text_has : (bytes : List ℕ) (n : ℕ) → IsUtf8 bytes → numbered n (lines bytes) ≡ text_line bytes n
text_has bytes n h = rw (is_utf8-from_IsUtf8 bytes h) refl

if_false : (b : Bool) (x : Option (List ℕ)) → (b ≡ true → ⊥) → None ≡ (if b then x else None)
if_false true x h = absurd (h refl)
if_false false x h = refl

none_has : (bytes : List ℕ) (n : ℕ) → (IsUtf8 bytes → ⊥) → None ≡ text_line bytes n
none_has bytes n h = if_false (is_utf8 bytes) (numbered n (lines bytes)) (λ e. h (IsUtf8-from_is_utf8 bytes e))

-- the line of a text
pub text_told : (bytes b t : List ℕ) (n : ℕ) (r : Option (List ℕ)) → b ≡ without_mark bytes → t ≡ b → IsUtf8 b → r ≡ numbered n (lines t) → r ≡ source_line bytes n
text_told bytes b t n r e f h g = rw (← e, g, f) (text_has b n h)

-- bytes that are no text
pub none_told : (bytes b : List ℕ) (n : ℕ) → b ≡ without_mark bytes → (IsUtf8 b → ⊥) → None ≡ source_line bytes n
none_told bytes b n e h = rw (← e) (none_has b n h)
