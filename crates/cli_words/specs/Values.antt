-- The values of options.
use Rattle.std.specs.Prelude.{ℕ, List, [], ◌∷◌, Bool, ◌&&◌, Option, None, Some, option_and_then, length, nat_le, codes, ◌==◌, if◌then◌else◌}
use Rattle.std.specs.Option.{option_map}
use Rattle.std.specs.List.{list_all, before_first}
use Rattle.std.specs.Char.{is_ascii_digit}
use Rattle.std.specs.Str.{bytes_eq}
use Rattle.std.specs.Str.Parse.{digits_value}
use Rattle.cli_words.specs.declared.options.Tb.{Tb}
use Rattle.cli_words.specs.declared.options.Tb.TheVariants as tb
use Rattle.cli_words.specs.declared.options.Dist.{Dist}
use Rattle.cli_words.specs.declared.options.Dist.TheVariants as dist
use Rattle.cli_words.specs.declared.table.FlagAction.{FlagAction}
use Rattle.cli_words.specs.declared.table.FlagAction.TheVariants as given
use Rattle.cli_words.specs.declared.table.Rule.{Rule}
use Rattle.cli_words.specs.declared.table.Rule.TheVariants as rule
use Rattle.cli_words.specs.declared.setting.Setting.{Setting}
use Rattle.cli_words.specs.declared.setting.Setting.TheVariants as set

-- one to nine ASCII digits
abbrev pub is_number : List ℕ → Bool
is_number text = list_all is_ascii_digit text && nat_le 1 (length text) && nat_le (length text) 9

-- a number from `low` to `high`
unfoldable pub number_between : ℕ → ℕ → List ℕ → Option ℕ
number_between low high text =
    let n = digits_value 10 text in
    if is_number text && nat_le low n && nat_le n high then Some n else None

-- how much is told of a failure
abbrev pub style_named : List ℕ → Option Tb
style_named text =
    if bytes_eq text (codes "short") then Some tb.Short
    else (if bytes_eq text (codes "line") then Some tb.Line
    else (if bytes_eq text (codes "no") then Some tb.No else None))

-- how items are shared
abbrev pub distribution_named : List ℕ → Option Dist
distribution_named text =
    if bytes_eq text (codes "loadfile") then Some dist.LoadFile
    else (if bytes_eq text (codes "no") then Some dist.No else None)

-- what stands behind the first `mark`, if there is one
abbrev pub after_mark : ℕ → List ℕ → Option (List ℕ)
after_mark mark [] = None
after_mark mark (c ∷ cs) = if c == mark then Some cs else after_mark mark cs

abbrev pub both : {X Y : Type 0} → Option X → Option Y → Option (X × Y)
both None _ = None
both (Some x) None = None
both (Some x) (Some y) = Some (x, y)

-- `SEED,FILES`: the numbers before and behind the first comma
unfoldable pub seed_and_files_in : List ℕ → Option (ℕ × ℕ)
seed_and_files_in text =
    both (number_between 0 65535 (before_first (λ c. c == 44) text)) (option_and_then (number_between 1 4000) (after_mark 44 text))

-- what an option without value sets
abbrev pub given_setting : FlagAction → Setting
given_setting (given.On switch) = set.On switch
given_setting (given.Count counter count) = set.Count counter count

-- what a value sets, if it has the form
abbrev pub setting_of : Rule → List ℕ → Option Setting
setting_of (rule.Text option) value = Some (set.Text option value)
setting_of (rule.Number counter low high) value = option_map (λ n. set.Count counter n) (number_between low high value)
setting_of rule.Style value = option_map set.Style (style_named value)
setting_of rule.Distribution value = option_map set.Distribution (distribution_named value)
setting_of rule.SeedAndFiles value = option_map (λ p. set.Generated p.0 p.1) (seed_and_files_in value)
