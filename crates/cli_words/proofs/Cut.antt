-- The parts of a command line, one word after another.
use Rattle.std.proofs.Common.{◌≡◌, ◌⊎◌, ℕ, List, [], ◌∷◌, ◌++◌, map, drop, Bool, true, false, Option, Some, None, Result, Ok, Err, refl, ap, sym, ◌∙◌, if◌then◌else◌, ◌<◌, ◌≤◌, ◌+◌, length, take, get_or, inl, inr, arith}
use Rattle.std.proofs.lemmas.Bool.Decides.{nat_tests}
use Rattle.std.proofs.lemmas.List.{append-nil, map-append, take_more}
use Rattle.std.specs.List.{filter_map}
use Rattle.cli_words.specs.Parts.{PathOf, is_double_dash, command_parts, says, takes_next}
use Rattle.cli_words.specs.Options.{Refuses, asks_for_workers, checked, usage_fault, first_if_any, options_or_fault, with_parts}
use Rattle.cli_words.proofs.Outcomes.{with_parts-append, outcome-nil, outcome_after, outcome_refused}
use Rattle.cli_words.specs.declared.options.Options.{Options}
use Rattle.cli_words.specs.declared.fault.UsageFault.{UsageFault}
use Rattle.cli_words.specs.declared.fault.UsageFault.TheVariants.{Unrecognized, NeedsValue, BadValue, TakesNoValue, Conflict, OutOfMemory}

-- the words behind the first, if that was taken
abbrev pub left : Bool → List (List ℕ) → List (List ℕ)
left took words = if took then drop 1 words else words

left-nil : (took : Bool) → command_parts (left took []) ≡ []
left-nil true = refl
left-nil false = refl

left-cons : (took : Bool) (word : List ℕ) (words : List (List ℕ)) → (if took then command_parts words else command_parts (word ∷ words)) ≡ command_parts (left took (word ∷ words))
left-cons true word words = refl
left-cons false word words = refl

pub parts_of-cons : (word : List ℕ) (words : List (List ℕ)) → false ≡ is_double_dash word → command_parts (word ∷ words) ≡ says word (first_if_any words) ++ command_parts (left (takes_next word) words)
parts_of-cons word [] e = rw (← e, left-nil (takes_next word)) (sym (append-nil (says word None)))
parts_of-cons word (next ∷ words) e = rw (← e) (ap (λ ps. says word (Some next) ++ ps) (left-cons (takes_next word) next words))

pub parts_of-end : (word : List ℕ) (words : List (List ℕ)) → true ≡ is_double_dash word → command_parts (word ∷ words) ≡ map PathOf words
parts_of-end word [] e = rw (← e) refl
parts_of-end word (next ∷ words) e = rw (← e) refl

paths_are_fine : (words : List (List ℕ)) → filter_map usage_fault (map PathOf words) ≡ []
paths_are_fine [] = refl
paths_are_fine (word ∷ words) = paths_are_fine words

pub outcome_paths : (o p : Options) (words : List (List ℕ)) → p ≡ with_parts o (map PathOf words) → options_or_fault o (map PathOf words) ≡ Ok p
unfolding options_or_fault
outcome_paths o p words e = rw (paths_are_fine words, e) refl

-- a refusal that is handed on
pub handed_on : (r s : Result Options UsageFault) (fault : UsageFault) → ((f : UsageFault) → r ≡ Err f → s ≡ Err f) → Refuses r fault → Refuses s fault
handed_on r s (Unrecognized word) same is = same _ is
handed_on r s (NeedsValue option) same is = same _ is
handed_on r s (BadValue option value) same is = same _ is
handed_on r s (TakesNoValue option) same is = same _ is
handed_on r s Conflict same is = same _ is
handed_on r s OutOfMemory same is = tt

pub at_end : (meant : Result Options UsageFault) (o p : Options) (rest behind : List (List ℕ)) (word : List ℕ) → meant ≡ options_or_fault o (command_parts rest) → rest ≡ word ∷ behind → true ≡ is_double_dash word → p ≡ with_parts o (map PathOf behind) → meant ≡ Ok p
at_end meant o p rest behind word so_far e end is =
    so_far ∙ ap (λ ws. options_or_fault o (command_parts ws)) e ∙ ap (λ ps. options_or_fault o ps) (parts_of-end word behind end) ∙ outcome_paths o p behind is

pub at_nothing : (meant : Result Options UsageFault) (o : Options) (rest : List (List ℕ)) → meant ≡ options_or_fault o (command_parts rest) → rest ≡ [] → meant ≡ Ok o
at_nothing meant o rest so_far e = so_far ∙ ap (λ ws. options_or_fault o (command_parts ws)) e ∙ outcome-nil o

one_more : (meant : Result Options UsageFault) (o : Options) (rest behind : List (List ℕ)) (word : List ℕ) (first : Option (List ℕ)) → meant ≡ options_or_fault o (command_parts rest) → rest ≡ word ∷ behind → false ≡ is_double_dash word → first ≡ first_if_any behind → meant ≡ options_or_fault o (says word first ++ command_parts (left (takes_next word) behind))
one_more meant o rest behind word first so_far e end is =
    rw is (so_far ∙ ap (λ ws. options_or_fault o (command_parts ws)) e ∙ ap (λ ps. options_or_fault o ps) (parts_of-cons word behind end))

pub at_fault : (meant : Result Options UsageFault) (o : Options) (rest behind : List (List ℕ)) (word : List ℕ) (first : Option (List ℕ)) (fault : UsageFault) → meant ≡ options_or_fault o (command_parts rest) → rest ≡ word ∷ behind → false ≡ is_double_dash word → first ≡ first_if_any behind → Refuses (options_or_fault o (says word first)) fault → Refuses meant fault
at_fault meant o rest behind word first fault so_far e end is refuses =
    handed_on (options_or_fault o (says word first)) meant fault (λ f r. one_more meant o rest behind word first so_far e end is ∙ outcome_refused o f (says word first) (command_parts (left (takes_next word) behind)) r) refuses

pub at_word : (meant : Result Options UsageFault) (o p : Options) (rest behind after : List (List ℕ)) (word : List ℕ) (first : Option (List ℕ)) (took : Bool) → meant ≡ options_or_fault o (command_parts rest) → rest ≡ word ∷ behind → false ≡ is_double_dash word → first ≡ first_if_any behind → options_or_fault o (says word first) ≡ Ok p → took ≡ takes_next word → after ≡ left took behind → meant ≡ options_or_fault p (command_parts after)
at_word meant o p rest behind after word first took so_far e end is good took_is after_is =
    rw (after_is, took_is) (one_more meant o rest behind word first so_far e end is ∙ outcome_after o p (says word first) (command_parts (left (takes_next word) behind)) good)

pub map-left : {X : Type 0} (f : X → List ℕ) (took : Bool) (words : List X) → map f (if took then drop 1 words else words) ≡ left took (map f words)
map-left f true [] = refl
map-left f true (word ∷ words) = refl
map-left f false words = refl

pub path_step : {X : Type 0} (f : X → List ℕ) (o p q : Options) (words : List X) (i : ℕ) (word : X) (path : List ℕ) → i < length words → p ≡ with_parts o (map PathOf (map f (take i words))) → q ≡ with_parts p (PathOf path ∷ []) → word ≡ get_or words i word → path ≡ f word → q ≡ with_parts o (map PathOf (map f (take (i + 1) words)))
path_step f o p q words i word path below so_far next at text =
    rw (take_more words i word below, ← at, map-append f (take i words) (word ∷ []), map-append PathOf (map f (take i words)) (f word ∷ []), with_parts-append o (map PathOf (map f (take i words))) (PathOf (f word) ∷ []), ← so_far, ← text) next

-- the conflict of workers and a number of failures
pub checked-fault : (r : Result Options UsageFault) (fault : UsageFault) → Refuses r fault → Refuses (checked r) fault
checked-fault r fault is = handed_on r (checked r) fault (λ f e. ap checked e) is

pub checked-conflict : (r : Result Options UsageFault) (o : Options) → r ≡ Ok o → true ≡ asks_for_workers o → 0 < o.maxfail → checked r ≡ Err Conflict
checked-conflict r o e asks some = ap checked e ∙ rw (← asks) (grind (arith, nat_tests))

pub checked-good : (r : Result Options UsageFault) (o : Options) (asks : Bool) → r ≡ Ok o → asks ≡ asks_for_workers o → ((asks ≡ true) × (o.maxfail ≤ 0)) ⊎ (asks ≡ false) → checked r ≡ Ok o
checked-good r o asks e is (inl h) = ap checked e ∙ rw (← is, h.0) (grind (arith, nat_tests))
checked-good r o asks e is (inr h) = ap checked e ∙ rw (← is, h) refl
