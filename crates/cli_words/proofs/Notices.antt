-- What words have to tell before anything is run.
use Rattle.std.proofs.Common.{◌≡◌, ◌⊎◌, ℕ, ◌≤◌, List, [], ◌∷◌, ◌++◌, map, drop, length, Bool, true, false, not, ◌||◌, codes, Option, Some, None, is_some, refl, ap, sym, ◌∙◌, inl, inr, slice_index, ◌==◌, arith}
use Rattle.std.proofs.lemmas.Bool.Decides.{nat_tests}
use Rattle.std.proofs.lemmas.List.Elements.{filter_map-append}
use Rattle.std.specs.List.{before_first, filter_map}
use Rattle.std.specs.Option.{option_map}
use Rattle.std.specs.Str.{bytes_eq}
use Rattle.cli_words.specs.Info.{first_notice, notice_of}
use Rattle.cli_words.specs.Options.{first_if_any}
use Rattle.cli_words.specs.Parts.{HasNoFlag, CommandPart, PathOf, asks, begins_with_dash, behind_flags, flag_part, flags, is_double_dash, is_long, is_path, letters_ask, letters_say, long_option, next_valued, option_part, command_parts, says, short, short_option, spelled_asks, spelled_parts, takes_next, value_behind, option_with_value}
use Rattle.cli_words.specs.Table.{takes_named}
use Rattle.cli_words.specs.Values.{after_mark, setting_of}
use Rattle.cli_words.proofs.Cut.{left, parts_of-cons, parts_of-end}
use Rattle.cli_words.proofs.Letters.{first_dash, no_such_letter}
use Rattle.cli_words.proofs.Outcomes.{first_of-append, first_of-append_none}
use Rattle.cli_words.specs.declared.info.Notice.{Notice}
use Rattle.cli_words.specs.declared.info.Notice.TheVariants.{Fault}
use Rattle.cli_words.specs.declared.setting.Setting.{Setting}
use Rattle.cli_words.specs.declared.table.FlagAction.{FlagAction}
use Rattle.cli_words.specs.declared.table.Rule.{Rule}
use Rattle.cli_words.specs.declared.table.OptionKind.{OptionKind}

pub some_map : {X Y : Type 0} (f : X → Y) (b : Bool) (x : Option X) → b ≡ is_some x → b ≡ is_some (option_map f x)
some_map f b None e = e
some_map f b (Some x) e = e

-- values
pub value_good : (option value : List ℕ) (found : Option Setting) → true ≡ is_some found → None ≡ notice_of (option_with_value option value found)
value_good option value None e = absurd (cc e)
value_good option value (Some s) e = refl

pub value_bad : (option value : List ℕ) (found : Option Setting) → false ≡ is_some found → Some Fault ≡ notice_of (option_with_value option value found)
value_bad option value None e = refl
value_bad option value (Some s) e = absurd (cc e)

pub next_absent : (option : List ℕ) (rule : Rule) (next : Option (List ℕ)) → next ≡ None → Some Fault ≡ notice_of (next_valued option rule next)
next_absent option rule next e = rw e refl

pub next_dash : (option : List ℕ) (rule : Rule) (next : Option (List ℕ)) (value : List ℕ) → next ≡ Some value → begins_with_dash value ≡ true → Some Fault ≡ notice_of (next_valued option rule next)
next_dash option rule next value e dash = rw (e, dash) refl

pub next_value : (option : List ℕ) (rule : Rule) (next : Option (List ℕ)) (value : List ℕ) (r : Option Notice) → next ≡ Some value → begins_with_dash value ≡ false → r ≡ notice_of (option_with_value option value (setting_of rule value)) → r ≡ notice_of (next_valued option rule next)
next_value option rule next value r e dash told = rw (e, dash) told

-- an option of a letter, or a long one
pub letter_told : (takes named : Option OptionKind) (value after_mark next : Option (List ℕ)) (word option : List ℕ) (r : Option Notice) → takes ≡ named → value ≡ after_mark → r ≡ notice_of (option_part takes word option value next) → r ≡ notice_of (option_part named word option after_mark next)
letter_told takes named value after_mark next word option r e f told = rw (← e, ← f) told

pub letter_took : (takes named : Option OptionKind) (value after_mark : Option (List ℕ)) (r : Bool) → takes ≡ named → value ≡ after_mark → r ≡ asks takes value → r ≡ asks named after_mark
letter_took takes named value after_mark r e f took = rw (← e, ← f) took

cons_first : {X : Type 0} (f : CommandPart → Option X) (p : CommandPart) (x : Option X) → f p ≡ x → first_if_any (filter_map f (p ∷ [])) ≡ x
cons_first f p None e = rw e refl
cons_first f p (Some x) e = rw e refl

pub first_alone : (p : CommandPart) → first_notice (p ∷ []) ≡ notice_of p
first_alone p = cons_first notice_of p (notice_of p) refl

pub long_told : (word option : List ℕ) (value next : Option (List ℕ)) (takes : Option OptionKind) (r : Option Notice) → option ≡ before_first (λ c. c == 61) word → value ≡ after_mark 61 word → takes ≡ takes_named option → r ≡ notice_of (option_part takes word option value next) → r ≡ first_notice (spelled_parts word (Some (long_option word)) next)
long_told word option value next takes r name is e told =
    let all : r ≡ notice_of (option_part (takes_named (before_first (λ c. c == 61) word)) word (before_first (λ c. c == 61) word) (after_mark 61 word) next) = rw (← name, ← is, ← e) told in
    all ∙ sym (first_alone (option_part (takes_named (before_first (λ c. c == 61) word)) word (before_first (λ c. c == 61) word) (after_mark 61 word) next))

pub long_took : (word option : List ℕ) (value : Option (List ℕ)) (takes : Option OptionKind) (r : Bool) → option ≡ before_first (λ c. c == 61) word → value ≡ after_mark 61 word → takes ≡ takes_named option → r ≡ asks takes value → r ≡ spelled_asks (Some (long_option word))
long_took word option value takes r name is e took = rw (← name, ← is, ← e) took

-- the letters of a short word
pub rest_is : (letters rest : List ℕ) → HasNoFlag rest → behind_flags rest ≡ behind_flags letters → rest ≡ behind_flags letters
rest_is letters rest none e = sym none.all ∙ e

flags_tell : (givens : List FlagAction) (parts : List CommandPart) → filter_map notice_of (map flag_part givens ++ parts) ≡ filter_map notice_of parts
flags_tell [] parts = refl
flags_tell (given ∷ givens) parts = flags_tell givens parts

letters_told : (word letters : List ℕ) (next : Option (List ℕ)) → first_notice (letters_say word letters next) ≡ first_notice (spelled_parts word (short_option (behind_flags letters)) next)
unfolding letters_say
letters_told word letters next = ap first_if_any (flags_tell (flags letters) (spelled_parts word (short_option (behind_flags letters)) next))

pub end_told : (letters rest word : List ℕ) (next : Option (List ℕ)) → rest ≡ behind_flags letters → true ≡ (length rest == 0) → None ≡ first_notice (letters_say word letters next)
end_told letters [] word next f empty = sym (letters_told word letters next ∙ rw (← f) refl)
end_told letters (letter ∷ rest) word next f empty = absurd (grind (arith, nat_tests))

pub option_told : (letters rest after_mark word : List ℕ) (letter : ℕ) (next : Option (List ℕ)) (r : Option Notice) → rest ≡ behind_flags letters → rest ≡ letter ∷ after_mark → r ≡ notice_of (option_part (takes_named (short letter)) word (short letter) (value_behind after_mark) next) → r ≡ first_notice (letters_say word letters next)
option_told letters rest after_mark word letter next r f first told =
    told ∙ sym (letters_told word letters next ∙ rw (← f, first) (first_alone (option_part (takes_named (short letter)) word (short letter) (value_behind after_mark) next)))

pub option_took : (letters rest after_mark : List ℕ) (letter : ℕ) (r : Bool) → rest ≡ behind_flags letters → rest ≡ letter ∷ after_mark → r ≡ asks (takes_named (short letter)) (value_behind after_mark) → r ≡ letters_ask letters
unfolding letters_ask
option_took letters rest after_mark letter r f first took = rw (← f, first) took

unknown_part : (takes : Option OptionKind) (word option : List ℕ) (value next : Option (List ℕ)) → takes ≡ None → Some Fault ≡ notice_of (option_part takes word option value next)
unknown_part takes word option value next e = rw e refl

unknown_asks : (takes : Option OptionKind) (value : Option (List ℕ)) → takes ≡ None → false ≡ asks takes value
unknown_asks takes value e = rw e refl

pub unknown_told : (letters rest word : List ℕ) (next : Option (List ℕ)) → rest ≡ behind_flags letters → false ≡ (length rest == 0) → (rest ≡ []) ⊎ (128 ≤ slice_index rest 0) → Some Fault ≡ first_notice (letters_say word letters next)
unknown_told letters [] word next f some large = absurd (grind (arith, nat_tests))
unknown_told letters (letter ∷ rest) word next f some (inl empty) = absurd (cc empty)
unknown_told letters (letter ∷ rest) word next f some (inr large) =
    option_told letters (letter ∷ rest) rest word letter next (Some Fault) f refl (unknown_part (takes_named (short letter)) word (short letter) (value_behind rest) next (no_such_letter letter large))

pub unknown_took : (letters rest : List ℕ) → rest ≡ behind_flags letters → false ≡ (length rest == 0) → (rest ≡ []) ⊎ (128 ≤ slice_index rest 0) → false ≡ letters_ask letters
unknown_took letters [] f some large = absurd (grind (arith, nat_tests))
unknown_took letters (letter ∷ rest) f some (inl empty) = absurd (cc empty)
unknown_took letters (letter ∷ rest) f some (inr large) =
    option_took letters (letter ∷ rest) rest letter false f refl (unknown_asks (takes_named (short letter)) (value_behind rest) (no_such_letter letter large))

-- a word
pub path_told : (word : List ℕ) (next : Option (List ℕ)) → true ≡ is_path word → None ≡ first_notice (says word next)
unfolding says
path_told word next path = rw (← path) refl

pub long_word_told : (word : List ℕ) (next : Option (List ℕ)) (r : Option Notice) → false ≡ is_path word → true ≡ is_long word → r ≡ first_notice (spelled_parts word (Some (long_option word)) next) → r ≡ first_notice (says word next)
unfolding says
long_word_told word next r path long told = rw (← path, ← long) told

pub long_word_took : (word : List ℕ) (r : Bool) → false ≡ is_path word → true ≡ is_long word → r ≡ spelled_asks (Some (long_option word)) → r ≡ takes_next word
unfolding takes_next
long_word_took word r path long took = rw (← path, ← long) took

pub short_word_told : (word letters : List ℕ) (dash : ℕ) (next : Option (List ℕ)) (r : Option Notice) → false ≡ is_path word → false ≡ is_long word → word ≡ dash ∷ letters → r ≡ first_notice (letters_say word letters next) → r ≡ first_notice (says word next)
unfolding says
short_word_told word letters dash next r path long e told =
    let rest : drop 1 word ≡ letters = rw e refl in
    rw (← path, ← long, rest) told

pub short_word_took : (word letters : List ℕ) (dash : ℕ) (r : Bool) → false ≡ is_path word → false ≡ is_long word → word ≡ dash ∷ letters → r ≡ letters_ask letters → r ≡ takes_next word
unfolding takes_next
short_word_took word letters dash r path long e took =
    let rest : drop 1 word ≡ letters = rw e refl in
    rw (← path, ← long, rest) took

dash_first : (word : List ℕ) (b : Bool) → false ≡ (not b || bytes_eq word (codes "-")) → b ≡ true
dash_first word true e = refl
dash_first word false e = absurd (cc e)

-- a word that is no path has a first letter
pub has_first : (word : List ℕ) → false ≡ is_path word → (word ≡ []) ⊎ (128 ≤ slice_index word 0) → ⊥
has_first word path out = first_dash word (dash_first word (begins_with_dash word) path) out

-- word after word
paths_tell : (words : List (List ℕ)) → filter_map notice_of (map PathOf words) ≡ []
paths_tell [] = refl
paths_tell (word ∷ words) = paths_tell words

pub at_end : (meant : Option Notice) (rest after_mark : List (List ℕ)) (word : List ℕ) → meant ≡ first_notice (command_parts rest) → rest ≡ word ∷ after_mark → true ≡ is_double_dash word → None ≡ meant
at_end meant rest after_mark word so_far e end =
    sym (so_far ∙ ap (λ ws. first_notice (command_parts ws)) e ∙ ap first_notice (parts_of-end word after_mark end) ∙ ap first_if_any (paths_tell after_mark))

pub at_nothing : (meant : Option Notice) (rest : List (List ℕ)) → meant ≡ first_notice (command_parts rest) → rest ≡ [] → None ≡ meant
at_nothing meant rest so_far e = sym (so_far ∙ ap (λ ws. first_notice (command_parts ws)) e)

one_more : (meant : Option Notice) (rest after_mark : List (List ℕ)) (word : List ℕ) (first : Option (List ℕ)) → meant ≡ first_notice (command_parts rest) → rest ≡ word ∷ after_mark → false ≡ is_double_dash word → first ≡ first_if_any after_mark → meant ≡ first_if_any (filter_map notice_of (says word first) ++ filter_map notice_of (command_parts (left (takes_next word) after_mark)))
one_more meant rest after_mark word first so_far e end is =
    rw is (so_far ∙ ap (λ ws. first_notice (command_parts ws)) e ∙ ap first_notice (parts_of-cons word after_mark end) ∙ ap first_if_any (filter_map-append notice_of (says word (first_if_any after_mark)) (command_parts (left (takes_next word) after_mark))))

pub at_notice : (meant notice : Option Notice) (rest after_mark : List (List ℕ)) (word : List ℕ) (first : Option (List ℕ)) → meant ≡ first_notice (command_parts rest) → rest ≡ word ∷ after_mark → false ≡ is_double_dash word → first ≡ first_if_any after_mark → notice ≡ first_notice (says word first) → true ≡ is_some notice → notice ≡ meant
at_notice meant None rest after_mark word first so_far e end is told some = absurd (cc some)
at_notice meant (Some notice) rest after_mark word first so_far e end is told some =
    sym (one_more meant rest after_mark word first so_far e end is ∙ first_of-append notice (filter_map notice_of (says word first)) (filter_map notice_of (command_parts (left (takes_next word) after_mark))) (sym told))

pub at_word : (meant notice : Option Notice) (rest after_mark after : List (List ℕ)) (word : List ℕ) (first : Option (List ℕ)) (took : Bool) → meant ≡ first_notice (command_parts rest) → rest ≡ word ∷ after_mark → false ≡ is_double_dash word → first ≡ first_if_any after_mark → notice ≡ first_notice (says word first) → false ≡ is_some notice → took ≡ takes_next word → after ≡ left took after_mark → meant ≡ first_notice (command_parts after)
at_word meant (Some notice) rest after_mark after word first took so_far e end is told none took_is after_is = absurd (cc none)
at_word meant None rest after_mark after word first took so_far e end is told none took_is after_is =
    rw (after_is, took_is) (one_more meant rest after_mark word first so_far e end is ∙ first_of-append_none (filter_map notice_of (says word first)) (filter_map notice_of (command_parts (left (takes_next word) after_mark))) (sym told))
