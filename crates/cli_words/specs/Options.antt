-- What a command line asks for: of each option's settings the last counts.
use Rattle.std.specs.Prelude.{◌≡◌, ℕ, List, [], ◌∷◌, ◌++◌, Bool, true, false, not, ◌&&◌, Option, None, Some, Result, Ok, Err, nat_lt, if◌then◌else◌}
use Rattle.std.specs.List.{filter_map}
use Rattle.cli_words.specs.Parts.{CommandPart, PathOf, Sets, Wrong, command_parts}
use Rattle.cli_words.specs.declared.fault.UsageFault.{UsageFault}
use Rattle.cli_words.specs.declared.fault.UsageFault.TheVariants.{Conflict, OutOfMemory}
use Rattle.cli_words.specs.declared.options.Options.{Options}
use Rattle.cli_words.specs.declared.options.Tb.{Tb}
use Rattle.cli_words.specs.declared.options.Tb.TheVariants as tb
use Rattle.cli_words.specs.declared.options.Dist.{Dist}
use Rattle.cli_words.specs.declared.options.Dist.TheVariants as dist
use Rattle.cli_words.specs.declared.setting.Setting.TheVariants.{On, Count, Text, Style, Distribution, Generated}
use Rattle.cli_words.specs.declared.table.Switch.{Switch}
use Rattle.cli_words.specs.declared.table.Switch.TheVariants.{Verbose, CollectOnly, SetupShow}
use Rattle.cli_words.specs.declared.table.Counter.{Counter}
use Rattle.cli_words.specs.declared.table.Counter.TheVariants.{MaxFail, Workers, StepLimit}
use Rattle.cli_words.specs.declared.table.TextOption.{TextOption}
use Rattle.cli_words.specs.declared.table.TextOption.TheVariants.{Keyword, Marks, Ignore}

-- the most steps of one activity, where no option sets it
abbrev pub most_steps : ℕ
most_steps = 1000000

-- the options of an empty command line
abbrev pub defaults : Options
defaults = record {
  paths = [];
  keyword = [];
  marks = [];
  maxfail = 0;
  tb = tb.Short;
  workers = 0;
  dist = dist.LoadFile;
  ignore = [];
  collect_only = false;
  setup_show = false;
  verbose = false;
  step_limit = most_steps;
  generated = None;
}

-- the last of a list, or what stood before it
abbrev pub last_or : {X : Type 0} → X → List X → X
last_or x [] = x
last_or x (y ∷ ys) = last_or y ys

abbrev pub path_of : CommandPart → Option (List ℕ)
path_of (PathOf path) = Some path
path_of _ = None

abbrev pub usage_fault : CommandPart → Option UsageFault
usage_fault (Wrong fault) = Some fault
usage_fault _ = None

-- what a part sets an option to, if it sets that option
abbrev pub switch_of : Switch → CommandPart → Option Bool
switch_of Verbose (Sets (On Verbose)) = Some true
switch_of CollectOnly (Sets (On CollectOnly)) = Some true
switch_of SetupShow (Sets (On SetupShow)) = Some true
switch_of _ _ = None

abbrev pub counter_value : Counter → CommandPart → Option ℕ
counter_value MaxFail (Sets (Count MaxFail n)) = Some n
counter_value Workers (Sets (Count Workers n)) = Some n
counter_value StepLimit (Sets (Count StepLimit n)) = Some n
counter_value _ _ = None

abbrev pub text_option_value : TextOption → CommandPart → Option (List ℕ)
text_option_value Keyword (Sets (Text Keyword text)) = Some text
text_option_value Marks (Sets (Text Marks text)) = Some text
text_option_value Ignore (Sets (Text Ignore text)) = Some text
text_option_value _ _ = None

abbrev pub style_of : CommandPart → Option Tb
style_of (Sets (Style style)) = Some style
style_of _ = None

abbrev pub distribution_of : CommandPart → Option Dist
distribution_of (Sets (Distribution dist)) = Some dist
distribution_of _ = None

abbrev pub generated_of : CommandPart → Option (Option (ℕ × ℕ))
generated_of (Sets (Generated seed files)) = Some (Some (seed, files))
generated_of _ = None

-- options, and then what the parts set: all paths, all paths to ignore, and else the last setting
unfoldable pub with_parts : Options → List CommandPart → Options
with_parts o parts = record {
  paths = o.paths ++ filter_map path_of parts;
  keyword = last_or o.keyword (filter_map (text_option_value Keyword) parts);
  marks = last_or o.marks (filter_map (text_option_value Marks) parts);
  maxfail = last_or o.maxfail (filter_map (counter_value MaxFail) parts);
  tb = last_or o.tb (filter_map style_of parts);
  workers = last_or o.workers (filter_map (counter_value Workers) parts);
  dist = last_or o.dist (filter_map distribution_of parts);
  ignore = o.ignore ++ filter_map (text_option_value Ignore) parts;
  collect_only = last_or o.collect_only (filter_map (switch_of CollectOnly) parts);
  setup_show = last_or o.setup_show (filter_map (switch_of SetupShow) parts);
  verbose = last_or o.verbose (filter_map (switch_of Verbose) parts);
  step_limit = last_or o.step_limit (filter_map (counter_value StepLimit) parts);
  generated = last_or o.generated (filter_map generated_of parts);
}

abbrev pub first_if_any : {X : Type 0} → List X → Option X
first_if_any [] = None
first_if_any (x ∷ xs) = Some x

abbrev pub unless_fault : Option UsageFault → Options → Result Options UsageFault
unless_fault None o = Ok o
unless_fault (Some fault) o = Err fault

-- the first fault of the parts, or the options with what the parts set
unfoldable pub options_or_fault : Options → List CommandPart → Result Options UsageFault
options_or_fault o parts = unless_fault (first_if_any (filter_map usage_fault parts)) (with_parts o parts)

abbrev pub is_no : Dist → Bool
is_no dist.No = true
is_no dist.LoadFile = false

-- `-n` above 0, and neither `--dist=no` nor `--collect-only`
abbrev pub asks_for_workers : Options → Bool
asks_for_workers o = nat_lt 0 o.workers && (not (is_no o.dist) && not o.collect_only)

-- workers and a number of failures to stop at don't go together
abbrev pub checked : Result Options UsageFault → Result Options UsageFault
checked (Err fault) = Err fault
checked (Ok o) = if asks_for_workers o && nat_lt 0 o.maxfail then Err Conflict else Ok o

-- the meaning of a command line
unfoldable pub options_of : List (List ℕ) → Result Options UsageFault
options_of words = checked (options_or_fault defaults (command_parts words))

-- a fault that a reader may answer: the definition's, or want of memory
abbrev pub Refuses : Result Options UsageFault → UsageFault → Type 0
Refuses meant OutOfMemory = Unit {0}
Refuses meant fault = meant ≡ Err fault

-- an answer of a reader that has set `now`
abbrev pub GivesOptions : {X : Type 0} → Result Options UsageFault → Options → Result X UsageFault → Type 0
GivesOptions meant now (Ok x) = meant ≡ Ok now
GivesOptions meant now (Err fault) = Refuses meant fault
