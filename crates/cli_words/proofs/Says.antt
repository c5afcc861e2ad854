-- What a word says.
use Rattle.std.proofs.Common.{◌≡◌, ℕ, List, [], ◌∷◌, Bool, true, false, Option, Result, Ok, IfOk, refl, ◌==◌, drop}
use Rattle.std.specs.List.{before_first}
use Rattle.cli_words.specs.Table.{takes_named}
use Rattle.cli_words.specs.Values.{after_mark}
use Rattle.cli_words.specs.Parts.{PathOf, asks, is_long, is_path, letters_ask, letters_say, option_part, says, takes_next}
use Rattle.cli_words.specs.Options.{GivesOptions, options_or_fault, with_parts}
use Rattle.cli_words.proofs.Outcomes.{outcome_path}
use Rattle.cli_words.specs.declared.options.Options.{Options}
use Rattle.cli_words.specs.declared.fault.UsageFault.{UsageFault}

pub say_path : (o p : Options) (word : List ℕ) (next : Option (List ℕ)) → true ≡ is_path word → p ≡ with_parts o (PathOf word ∷ []) → options_or_fault o (says word next) ≡ Ok p
unfolding says
say_path o p word next path e = rw (← path) (outcome_path o p word e)

pub ask_path : (word : List ℕ) → true ≡ is_path word → false ≡ takes_next word
unfolding takes_next
ask_path word path = rw (← path) refl

pub say_long : {X : Type 0} (o now : Options) (word option : List ℕ) (value next : Option (List ℕ)) (result : Result X UsageFault) → false ≡ is_path word → true ≡ is_long word → option ≡ before_first (λ c. c == 61) word → value ≡ after_mark 61 word → GivesOptions (options_or_fault o (option_part (takes_named option) word option value next ∷ [])) now result → GivesOptions (options_or_fault o (says word next)) now result
unfolding says
say_long o now word option value next result path long name is gives = rw (← path, ← long, ← name, ← is) gives

pub ask_long : (word option : List ℕ) (value : Option (List ℕ)) (result : Result Bool UsageFault) → false ≡ is_path word → true ≡ is_long word → option ≡ before_first (λ c. c == 61) word → value ≡ after_mark 61 word → IfOk result (λ took. took ≡ asks (takes_named option) value) → IfOk result (λ took. took ≡ takes_next word)
unfolding takes_next
ask_long word option value result path long name is took = rw (← path, ← long, ← name, ← is) took

pub say_short : {X : Type 0} (o now : Options) (word letters : List ℕ) (dash : ℕ) (next : Option (List ℕ)) (result : Result X UsageFault) → false ≡ is_path word → false ≡ is_long word → word ≡ dash ∷ letters → GivesOptions (options_or_fault o (letters_say word letters next)) now result → GivesOptions (options_or_fault o (says word next)) now result
unfolding says
say_short o now word letters dash next result path long e gives =
    let rest : drop 1 word ≡ letters = rw e refl in
    rw (← path, ← long, rest) gives

pub ask_short : (word letters : List ℕ) (dash : ℕ) (result : Result Bool UsageFault) → false ≡ is_path word → false ≡ is_long word → word ≡ dash ∷ letters → IfOk result (λ took. took ≡ letters_ask letters) → IfOk result (λ took. took ≡ takes_next word)
unfolding takes_next
ask_short word letters dash result path long e took =
    let rest : drop 1 word ≡ letters = rw e refl in
    rw (← path, ← long, rest) took
