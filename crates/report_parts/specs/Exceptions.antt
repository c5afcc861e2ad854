-- The lines of an exception.
use Rattle.std.specs.Prelude.{ℕ, ◌-◌, length, slice_get, List, [], ◌++◌, Option, None, Some, Bool, codes, decimal, encode_utf8, encode_utf8_all, flat_map, ◌==◌, if◌then◌else◌}
use Rattle.std.specs.List.{before_first, slice_split}
use Rattle.texts.specs.Texts.{ended}
use Rattle.report_parts.specs.Blanks.{stripped}
use Rattle.report_parts.specs.declared.report.Frame.{Frame}
use Rattle.report_parts.specs.declared.report.Told.{Told}

abbrev pub is_line_feed : ℕ → Bool
is_line_feed c = c == 10

-- the first line of a text, as bytes
unfoldable pub first_line_bytes : List ℕ → List ℕ
first_line_bytes text = encode_utf8_all (before_first is_line_feed text)

-- each line of a text behind `E   `
unfoldable pub error_line : List ℕ → List ℕ
error_line line = codes "E   " ++ ended (encode_utf8_all line)

unfoldable pub error_lines : List ℕ → List ℕ
error_lines text = flat_map error_line (slice_split is_line_feed text)

-- a character among such lines
abbrev pub error_char : ℕ → List ℕ
error_char c = if is_line_feed c then codes "\nE   " else encode_utf8 c

-- where a frame stands
unfoldable pub place_line : List ℕ → ℕ → List ℕ → List ℕ
place_line file line name = file ++ (codes ":" ++ (decimal line ++ (codes ": in " ++ ended name)))

unfoldable pub shown_source : Option (List ℕ) → List ℕ
shown_source None = []
shown_source (Some source) = codes "    " ++ ended (stripped source)

unfoldable pub frame_lines : Frame → List ℕ
frame_lines frame = place_line frame.file frame.line frame.name ++ shown_source frame.source

-- the frames and the text of an exception
unfoldable pub told_lines : Told → List ℕ
told_lines told = flat_map frame_lines told.frames ++ error_lines told.text

-- where a frame stands, in front of what happened there
unfoldable pub at_frame : Frame → List ℕ
at_frame frame = frame.file ++ (codes ":" ++ (decimal frame.line ++ codes ": "))

-- the same, where there is a frame
abbrev pub at_some : Option Frame → List ℕ
at_some None = []
at_some (Some frame) = at_frame frame

-- an exception in one line: the last frame, and the first line of the text
unfoldable pub short_told : Told → List ℕ
short_told told = at_some (slice_get told.frames (length told.frames - 1)) ++ (first_line_bytes told.text ++ codes "\n")

-- what a test under a strict xfail mark says where it passes
unfoldable pub reason_behind : List ℕ → List ℕ
reason_behind reason = if length reason == 0 then [] else codes " " ++ encode_utf8_all reason

unfoldable pub strict_text : List ℕ → List ℕ
strict_text reason = codes "[XPASS(strict)]" ++ reason_behind reason

-- its first line
unfoldable pub first_reason_behind : List ℕ → List ℕ
first_reason_behind reason = if length reason == 0 then [] else codes " " ++ first_line_bytes reason

unfoldable pub strict_first : List ℕ → List ℕ
strict_first reason = codes "[XPASS(strict)]" ++ first_reason_behind reason
