-- The command line as a list of parts: settings, paths, faults and texts that are asked for, in the order of the words.
use Rattle.std.specs.Prelude.{◌≡◌, ◌<◌, length, ℕ, List, [], ◌∷◌, ◌++◌, Bool, true, false, not, ◌||◌, Option, None, Some, map, drop, codes, is_some, nat_eq, ◌==◌, if◌then◌else◌}
use Rattle.std.specs.List.{filter_map, take_while, prefix_len, before_first, starts_with}
use Rattle.std.specs.Str.{IsUtf8, bytes_eq}
use Rattle.cli_words.specs.Table.{takes_named}
use Rattle.cli_words.specs.Values.{after_mark, given_setting, setting_of}
use Rattle.cli_words.specs.declared.fault.UsageFault.{UsageFault}
use Rattle.cli_words.specs.declared.fault.UsageFault.TheVariants.{Unrecognized, NeedsValue, BadValue, TakesNoValue}
use Rattle.cli_words.specs.declared.info.Info.{Info}
use Rattle.cli_words.specs.declared.setting.Setting.{Setting}
use Rattle.cli_words.specs.declared.table.FlagAction.{FlagAction}
use Rattle.cli_words.specs.declared.table.Rule.{Rule}
use Rattle.cli_words.specs.declared.table.OptionKind.{OptionKind}
use Rattle.cli_words.specs.declared.table.OptionKind.TheVariants.{Nothing, Value, Tells}

-- a part of the command line
pub data CommandPart : Type 0 where
  PathOf : List ℕ → CommandPart
  Sets : Setting → CommandPart
  Wrong : UsageFault → CommandPart
  Asks : Info → CommandPart

-- `--`, behind which all words are paths
abbrev pub is_double_dash : List ℕ → Bool
is_double_dash word = bytes_eq word (codes "--")

abbrev pub begins_with_dash : List ℕ → Bool
begins_with_dash word = starts_with nat_eq word (codes "-")

-- a word that is no option
abbrev pub is_path : List ℕ → Bool
is_path word = not (begins_with_dash word) || bytes_eq word (codes "-")

abbrev pub is_long : List ℕ → Bool
is_long word = starts_with nat_eq word (codes "--")

-- an option with this value
abbrev pub option_with_value : List ℕ → List ℕ → Option Setting → CommandPart
option_with_value option value None = Wrong (BadValue option value)
option_with_value option value (Some setting) = Sets setting

-- an option whose value is to be the next word
abbrev pub next_valued : List ℕ → Rule → Option (List ℕ) → CommandPart
next_valued option rule None = Wrong (NeedsValue option)
next_valued option rule (Some next) =
    if begins_with_dash next then Wrong (NeedsValue option) else option_with_value option next (setting_of rule next)

-- an option that takes no value
abbrev pub switched : List ℕ → FlagAction → Option (List ℕ) → CommandPart
switched option given None = Sets (given_setting given)
switched option given (Some value) = Wrong (TakesNoValue option)

-- an option that asks for a text, and takes no value
abbrev pub asking : List ℕ → Info → Option (List ℕ) → CommandPart
asking option info None = Asks info
asking option info (Some value) = Wrong (TakesNoValue option)

-- what an option of a word says; its value may stand in the word or be the next word
abbrev pub option_part : Option OptionKind → List ℕ → List ℕ → Option (List ℕ) → Option (List ℕ) → CommandPart
option_part None word option value next = Wrong (Unrecognized word)
option_part (Some (Nothing given)) word option value next = switched option given value
option_part (Some (Tells info)) word option value next = asking option info value
option_part (Some (Value rule)) word option None next = next_valued option rule next
option_part (Some (Value rule)) word option (Some value) next = option_with_value option value (setting_of rule value)

-- whether an option takes the next word
abbrev pub asks : Option OptionKind → Option (List ℕ) → Bool
asks (Some (Value rule)) None = true
asks (Some (Value rule)) (Some value) = false
asks (Some (Nothing given)) value = false
asks (Some (Tells info)) value = false
asks None value = false

-- an option of a word, with the value that stands in the word
abbrev pub Spelled : Type 0
Spelled = List ℕ × Option (List ℕ)

-- `--name` or `--name=value`
abbrev pub long_option : List ℕ → Spelled
long_option word =
    (before_first (λ c. c == 61) word, after_mark 61 word)

-- the spelling of a short option
abbrev pub short : ℕ → List ℕ
short letter = 45 ∷ letter ∷ []

-- what a letter sets, if it is an option without value
abbrev pub given_of : Option OptionKind → Option FlagAction
given_of (Some (Nothing given)) = Some given
given_of (Some (Value rule)) = None
given_of (Some (Tells info)) = None
given_of None = None

abbrev pub flag_of : ℕ → Option FlagAction
flag_of letter = given_of (takes_named (short letter))

abbrev pub is_flag : ℕ → Bool
is_flag letter = is_some (flag_of letter)

-- a value right behind its letter, less one `=`
abbrev pub value_behind : List ℕ → Option (List ℕ)
value_behind [] = None
value_behind (c ∷ cs) = Some (if c == 61 then cs else c ∷ cs)

-- the option that stands behind the flags
abbrev pub short_option : List ℕ → Option Spelled
short_option [] = None
short_option (letter ∷ letters) = Some (short letter, value_behind letters)

-- the flags at the front of a short word's letters, and what stands behind them
abbrev pub flags : List ℕ → List FlagAction
flags letters = filter_map flag_of (take_while is_flag letters)

abbrev pub behind_flags : List ℕ → List ℕ
behind_flags letters = drop (prefix_len is_flag letters) letters

-- what an option of a word says, where there is one
abbrev pub spelled_parts : List ℕ → Option Spelled → Option (List ℕ) → List CommandPart
spelled_parts word None next = []
spelled_parts word (Some spelled) next = option_part (takes_named spelled.0) word spelled.0 spelled.1 next ∷ []

abbrev pub spelled_asks : Option Spelled → Bool
spelled_asks None = false
spelled_asks (Some spelled) = asks (takes_named spelled.0) spelled.1

abbrev pub flag_part : FlagAction → CommandPart
flag_part given = Sets (given_setting given)

-- letters that start with an option without value, or with none
pub record StartsWithFlag (letters : List ℕ) (given : FlagAction) (rest : List ℕ) : Type 0 where
  pub first : flags letters ≡ given ∷ flags rest
  pub behind : behind_flags letters ≡ behind_flags rest
  pub shorter : length rest < length letters
  pub text : IsUtf8 rest

pub record HasNoFlag (letters : List ℕ) : Type 0 where
  pub none : flags letters ≡ []
  pub all : behind_flags letters ≡ letters

-- what the letters of a short word say
unfoldable pub letters_say : List ℕ → List ℕ → Option (List ℕ) → List CommandPart
letters_say word letters next =
    map flag_part (flags letters) ++ spelled_parts word (short_option (behind_flags letters)) next

unfoldable pub letters_ask : List ℕ → Bool
letters_ask letters = spelled_asks (short_option (behind_flags letters))

-- what a word says, before the next word
unfoldable pub says : List ℕ → Option (List ℕ) → List CommandPart
says word next =
    if is_path word then PathOf word ∷ []
    else (if is_long word then spelled_parts word (Some (long_option word)) next
    else letters_say word (drop 1 word) next)

-- whether a word takes the next one as its value
unfoldable pub takes_next : List ℕ → Bool
takes_next word =
    if is_path word then false
    else (if is_long word then spelled_asks (Some (long_option word))
    else letters_ask (drop 1 word))

-- the parts of a command line
abbrev pub command_parts : List (List ℕ) → List CommandPart
command_parts [] = []
command_parts (word ∷ []) = if is_double_dash word then [] else says word None
command_parts (word ∷ next ∷ words) =
    if is_double_dash word then map PathOf (next ∷ words)
    else says word (Some next) ++ (if takes_next word then command_parts words else command_parts (next ∷ words))
