-- The letters of a short word.
use Rattle.std.proofs.Common.{◌≡◌, ◌⊎◌, ℕ, ◌+◌, ◌<◌, ◌≤◌, suc, List, [], ◌∷◌, length, map, Bool, true, false, Option, Some, None, is_some, refl, ap, sym, ◌∙◌, arith, inl, inr, slice_index, eqb, lit<, Result, Ok, Err, IfOk, ◌==◌}
use Rattle.std.proofs.lemmas.Bool.Decides.{nat_tests}
use Rattle.std.specs.Str.{IsUtf8}
use Rattle.std.specs.List.{filter_map, prefix_len}
use Rattle.cli_words.specs.Table.{takes_named}
use Rattle.cli_words.specs.Parts.{HasNoFlag, StartsWithFlag, asks, begins_with_dash, flags, behind_flags, flag_of, flag_part, is_flag, given_of, letters_ask, letters_say, option_part, short, short_option, spelled_parts, value_behind}
use Rattle.cli_words.specs.Options.{GivesOptions, usage_fault, options_or_fault, with_parts}
use Rattle.cli_words.proofs.Outcomes.{no_option, outcome_after, outcome-nil, with_parts-append, with_parts-nil}
use Rattle.cli_words.specs.declared.options.Options.{Options}
use Rattle.cli_words.specs.declared.fault.UsageFault.{UsageFault}
use Rattle.cli_words.specs.declared.fault.UsageFault.TheVariants.{Unrecognized}
use Rattle.cli_words.specs.declared.table.FlagAction.{FlagAction}

pub starts_with_flag : (letter : ℕ) (given : FlagAction) (rest : List ℕ) → flag_of letter ≡ Some given → IsUtf8 rest → StartsWithFlag (letter ∷ rest) given rest
starts_with_flag letter given rest e utf8 =
    let next : 1 + prefix_len is_flag rest ≡ suc (prefix_len is_flag rest) = omega arith in
    record { first = rw (ap is_some e, next, e) refl; behind = rw (ap is_some e, next) refl; shorter = omega arith; text = utf8 }

pub has_no_flag : (letter : ℕ) (rest : List ℕ) → flag_of letter ≡ None → HasNoFlag (letter ∷ rest)
has_no_flag letter rest e = record { none = rw (ap is_some e) refl; all = rw (ap is_some e) refl }

pub empty_has_no_flag : HasNoFlag []
empty_has_no_flag = record { none = refl; all = refl }

apart : (n letter : ℕ) → n < 128 → 128 ≤ letter → eqb n letter ≡ false
apart n letter small large = grind (arith, nat_tests)

-- no option has a letter that isn't ASCII
pub no_such_letter : (letter : ℕ) → 128 ≤ letter → takes_named (short letter) ≡ None
unfolding takes_named
no_such_letter letter large =
    rw (apart 107 letter (lit< tt) large, apart 109 letter (lit< tt) large, apart 120 letter (lit< tt) large, apart 110 letter (lit< tt) large, apart 118 letter (lit< tt) large, apart 45 letter (lit< tt) large) refl

pub no_flag_outside : (letters : List ℕ) → (letters ≡ []) ⊎ (128 ≤ slice_index letters 0) → HasNoFlag letters
no_flag_outside [] _ = empty_has_no_flag
no_flag_outside (letter ∷ rest) (inl e) = absurd (cc e)
no_flag_outside (letter ∷ rest) (inr large) = has_no_flag letter rest (ap given_of (no_such_letter letter large))

flags_are_fine : (givens : List FlagAction) → filter_map usage_fault (map flag_part givens) ≡ []
flags_are_fine [] = refl
flags_are_fine (given ∷ givens) = flags_are_fine givens

pub outcome_flags : (o : Options) (givens : List FlagAction) → options_or_fault o (map flag_part givens) ≡ Ok (with_parts o (map flag_part givens))
unfolding options_or_fault
outcome_flags o givens = rw (flags_are_fine givens) refl

-- what the letters say, once the flags are set
after_flags : (o p : Options) (word letters : List ℕ) (next : Option (List ℕ)) → p ≡ with_parts o (map flag_part (flags letters)) → options_or_fault o (letters_say word letters next) ≡ options_or_fault p (spelled_parts word (short_option (behind_flags letters)) next)
unfolding letters_say
after_flags o p word letters next e =
    outcome_after o p (map flag_part (flags letters)) (spelled_parts word (short_option (behind_flags letters)) next) (outcome_flags o (flags letters) ∙ ap Ok (sym e))

pub say_end : (o p : Options) (word letters rest : List ℕ) (next : Option (List ℕ)) → p ≡ with_parts o (map flag_part (flags letters)) → rest ≡ behind_flags letters → true ≡ (length rest == 0) → options_or_fault o (letters_say word letters next) ≡ Ok p
say_end o p word letters [] next e f empty = after_flags o p word letters next e ∙ rw (← f) (outcome-nil p)
say_end o p word letters (letter ∷ rest) next e f empty = absurd (grind (arith, nat_tests))

pub ask_end : (letters rest : List ℕ) → rest ≡ behind_flags letters → true ≡ (length rest == 0) → false ≡ letters_ask letters
unfolding letters_ask
ask_end letters [] f empty = rw (← f) refl
ask_end letters (letter ∷ rest) f empty = absurd (grind (arith, nat_tests))

pub say_unknown : (o p : Options) (word letters rest : List ℕ) (next : Option (List ℕ)) → p ≡ with_parts o (map flag_part (flags letters)) → rest ≡ behind_flags letters → false ≡ (length rest == 0) → (rest ≡ []) ⊎ (128 ≤ slice_index rest 0) → options_or_fault o (letters_say word letters next) ≡ Err (Unrecognized word)
say_unknown o p word letters [] next e f some large = absurd (grind (arith, nat_tests))
say_unknown o p word letters (letter ∷ rest) next e f some (inl empty) = absurd (cc empty)
say_unknown o p word letters (letter ∷ rest) next e f some (inr large) =
    after_flags o p word letters next e ∙ rw (← f) (no_option p (takes_named (short letter)) word (short letter) (value_behind rest) next (no_such_letter letter large))

pub say_option : {X : Type 0} (o p now : Options) (word letters rest behind option : List ℕ) (letter : ℕ) (value next : Option (List ℕ)) (result : Result X UsageFault) → p ≡ with_parts o (map flag_part (flags letters)) → rest ≡ behind_flags letters → rest ≡ letter ∷ behind → option ≡ short letter → value ≡ value_behind behind → GivesOptions (options_or_fault p (option_part (takes_named option) word option value next ∷ [])) now result → GivesOptions (options_or_fault o (letters_say word letters next)) now result
say_option o p now word letters rest behind option letter value next result e f first spelled is gives =
    let same : options_or_fault o (letters_say word letters next) ≡ options_or_fault p (option_part (takes_named option) word option value next ∷ []) =
    after_flags o p word letters next e ∙ rw (← f, first, spelled, is) refl in
    rw same gives

pub ask_option : (letters rest behind option : List ℕ) (letter : ℕ) (value : Option (List ℕ)) (result : Result Bool UsageFault) → rest ≡ behind_flags letters → rest ≡ letter ∷ behind → option ≡ short letter → value ≡ value_behind behind → IfOk result (λ took. took ≡ asks (takes_named option) value) → IfOk result (λ took. took ≡ letters_ask letters)
unfolding letters_ask
ask_option letters rest behind option letter value (Ok took) f first spelled is took_is = took_is ∙ rw (← f, first, spelled, is) refl
ask_option letters rest behind option letter value (Err fault) f first spelled is took_is = tt

pub first_dash : (word : List ℕ) → begins_with_dash word ≡ true → (word ≡ []) ⊎ (128 ≤ slice_index word 0) → ⊥
first_dash [] dash out = cc dash
first_dash (c ∷ cs) dash (inl e) = cc e
first_dash (c ∷ cs) dash (inr large) = cc (rw (apart 45 c (lit< tt) large) at dash)

pub flag_step : (o p q : Options) (letters rest : List ℕ) (given : FlagAction) → StartsWithFlag letters given rest → p ≡ with_parts o (flag_part given ∷ []) → with_parts o (map flag_part (flags letters)) ≡ q → with_parts p (map flag_part (flags rest)) ≡ q
flag_step o p q letters rest given starts is e =
    let all = rw starts.first at e in
    rw is (sym (with_parts-append o (flag_part given ∷ []) (map flag_part (flags rest))) ∙ all)

pub flags_end : (o q : Options) (letters : List ℕ) → HasNoFlag letters → with_parts o (map flag_part (flags letters)) ≡ q → o ≡ q
flags_end o q letters none e = let all = rw none.none at e in sym (with_parts-nil o) ∙ all
