-- What is said of words that are refused.
use Rattle.std.specs.Prelude.{ℕ, List, ◌++◌, codes}
use Rattle.cli_words.specs.declared.fault.UsageFault.{UsageFault}
use Rattle.cli_words.specs.declared.fault.UsageFault.TheVariants.{Unrecognized, NeedsValue, BadValue, TakesNoValue, Conflict, OutOfMemory}

-- the text of a fault
abbrev pub usage_text : UsageFault → List ℕ
usage_text (Unrecognized word) = codes "unrecognized arguments: " ++ word
usage_text (NeedsValue option) = codes "argument " ++ (option ++ codes ": expected one argument")
usage_text (BadValue option value) = codes "argument " ++ (option ++ (codes ": invalid value: '" ++ (value ++ codes "'")))
usage_text (TakesNoValue option) = codes "argument " ++ (option ++ codes ": takes no value")
usage_text Conflict = codes "-n cannot be used with -x or --maxfail"
usage_text OutOfMemory = codes "out of memory"
