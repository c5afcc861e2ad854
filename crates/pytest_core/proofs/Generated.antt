-- What `--generated` asks for is within its bounds.
use Rattle.std.proofs.Common.{◌≡◌, ℕ, ◌≤◌, List, [], ◌∷◌, ◌++◌, Bool, true, false, cond, ◌&&◌, map, Option, None, Some, Result, Ok, Err, refl, sym, subst, ap, ◌∙◌, arith}
use Rattle.std.proofs.lemmas.Grind.{common_steps}
use Rattle.std.specs.List.{cons_option, filter_map}
use Rattle.std.specs.Prelude.{nat_le, nat_lt, option_and_then, option_map}
use Rattle.std.specs.Str.Parse.{digits_value}
use Rattle.cli_words.specs.Options.{asks_for_workers, checked, defaults, generated_of, last_or, options_of, options_or_fault, unless_fault, with_parts}
use Rattle.cli_words.specs.Parts.{Asks, CommandPart, PathOf, Sets, Wrong, behind_flags, command_parts, flag_part, flags, is_double_dash, is_long, is_path, letters_say, long_option, option_part, option_with_value, says, short_option, spelled_parts, takes_next}
use Rattle.cli_words.specs.Parts as parts
use Rattle.cli_words.specs.Table.{takes_named}
use Rattle.cli_words.specs.Values.{after_mark, both, given_setting, is_number, number_between, seed_and_files_in, setting_of, style_named, distribution_named}
use Rattle.cli_words.specs.declared.fault.UsageFault.{UsageFault}
use Rattle.cli_words.specs.declared.fault.UsageFault.TheVariants.{Conflict, NeedsValue}
use Rattle.cli_words.specs.declared.info.Info.{Info}
use Rattle.cli_words.specs.declared.options.Dist.{Dist}
use Rattle.cli_words.specs.declared.options.Options.{Options}
use Rattle.cli_words.specs.declared.options.Tb.{Tb}
use Rattle.cli_words.specs.declared.setting.Setting.{Setting}
use Rattle.cli_words.specs.declared.setting.Setting.TheVariants as set
use Rattle.cli_words.specs.declared.table.FlagAction.{FlagAction}
use Rattle.cli_words.specs.declared.table.FlagAction.TheVariants as given
use Rattle.cli_words.specs.declared.table.OptionKind.{OptionKind}
use Rattle.cli_words.specs.declared.table.OptionKind.TheVariants.{Nothing, Tells, Value}
use Rattle.cli_words.specs.declared.table.Rule.{Rule}
use Rattle.cli_words.specs.declared.table.Rule.TheVariants as rule
use Rattle.pytest_core.specs.Request.{IsInBounds}

-- A NUMBER between two
tested : (a b c : Bool) (m n : ℕ) → cond (a && b && c) (Some m) None ≡ Some n → (b ≡ true) × (c ≡ true) × (m ≡ n)
tested true true true m n e = (refl, refl, some_same m n e)
  where
    some_same : (x y : ℕ) → Some x ≡ Some y → x ≡ y
    some_same x y e = cc
tested true true false m n e = absurd (cc)
tested true false true m n e = absurd (cc)
tested true false false m n e = absurd (cc)
tested false true true m n e = absurd (cc)
tested false true false m n e = absurd (cc)
tested false false true m n e = absurd (cc)
tested false false false m n e = absurd (cc)

is_below : (low high : ℕ) → nat_le low high ≡ true → low ≤ high
is_below low high e = grind (arith, common_steps)

between : (low high : ℕ) (text : List ℕ) (n : ℕ) → number_between low high text ≡ Some n → (low ≤ n) × (n ≤ high)
unfolding number_between
between low high text n e =
    let m = digits_value 10 text in
    let t = tested (is_number text) (nat_le low m) (nat_le m high) m n e in
    let same : m ≡ n = t.2 in
    (subst (λ (k : ℕ). low ≤ k) same (is_below low m t.0), subst (λ (k : ℕ). k ≤ high) same (is_below m high t.1))

-- A SETTING
abbrev Set : Option (Option (ℕ × ℕ)) → Type 0
Set None = Unit {0}
Set (Some asked) = IsInBounds asked

abbrev Fits : CommandPart → Type 0
Fits part = Set (generated_of part)

abbrev All : List CommandPart → Type 0
All [] = Unit {0}
All (part ∷ more) = Fits part × All more

paired : (a b : Option ℕ) → ((n : ℕ) → a ≡ Some n → n ≤ 65535) → ((n : ℕ) → b ≡ Some n → (1 ≤ n) × (n ≤ 4000)) → IsInBounds (both a b)
paired None b f g = tt
paired (Some x) None f g = tt
paired (Some x) (Some y) f g = (let q = g y refl in (f x refl, q.0, q.1))

behind_comma : (o : Option (List ℕ)) (n : ℕ) → option_and_then (number_between 1 4000) o ≡ Some n → (1 ≤ n) × (n ≤ 4000)
behind_comma None n e = absurd (cc)
behind_comma (Some text) n e = between 1 4000 text n e

asked_in : (text : List ℕ) → IsInBounds (seed_and_files_in text)
unfolding seed_and_files_in
asked_in text = paired _ _ (λ n e. (between 0 65535 _ n e).1) (λ n e. behind_comma (after_mark 44 text) n e)

abbrev Ones : Option Setting → Type 0
Ones None = Unit {0}
Ones (Some setting) = Fits (Sets setting)

counts : {X : Type 0} (f : X → Setting) (o : Option X) → ((x : X) → Fits (Sets (f x))) → Ones (option_map f o)
counts f None h = tt
counts f (Some x) h = h x

of_pair : (o : Option (ℕ × ℕ)) → IsInBounds o → Ones (option_map (λ p. set.Generated p.0 p.1) o)
of_pair None h = tt
of_pair (Some asked) h = h

setting_fits : (r : Rule) (value : List ℕ) → Ones (setting_of r value)
setting_fits (rule.Text option) value = tt
setting_fits (rule.Number counter low high) value = counts (λ n. set.Count counter n) (number_between low high value) (λ n. tt)
setting_fits rule.Style value = counts set.Style (style_named value) (λ s. tt)
setting_fits rule.Distribution value = counts set.Distribution (distribution_named value) (λ d. tt)
setting_fits rule.SeedAndFiles value = of_pair (seed_and_files_in value) (asked_in value)

given_fits : (g : FlagAction) → Fits (Sets (given_setting g))
given_fits (given.On switch) = tt
given_fits (given.Count counter count) = tt

-- A PART
valued_fits : (option value : List ℕ) (o : Option Setting) → Ones o → Fits (option_with_value option value o)
valued_fits option value None h = tt
valued_fits option value (Some setting) h = h

next_fits : (option : List ℕ) (r : Rule) (next : Option (List ℕ)) → Fits (parts.next_valued option r next)
next_fits option r None = tt
next_fits option r (Some next) = by_dash (parts.begins_with_dash next)
  where
    by_dash : (b : Bool) → Fits (cond b (Wrong (NeedsValue option)) (option_with_value option next (setting_of r next)))
    by_dash true = tt
    by_dash false = valued_fits option next (setting_of r next) (setting_fits r next)

switched_fits : (option : List ℕ) (g : FlagAction) (value : Option (List ℕ)) → Fits (parts.switched option g value)
switched_fits option g None = given_fits g
switched_fits option g (Some value) = tt

asking_fits : (option : List ℕ) (info : Info) (value : Option (List ℕ)) → Fits (parts.asking option info value)
asking_fits option info None = tt
asking_fits option info (Some value) = tt

option_fits : (kind : Option OptionKind) (word option : List ℕ) (value next : Option (List ℕ)) → Fits (option_part kind word option value next)
option_fits None word option value next = tt
option_fits (Some (Nothing g)) word option value next = switched_fits option g value
option_fits (Some (Tells info)) word option value next = asking_fits option info value
option_fits (Some (Value r)) word option None next = next_fits option r next
option_fits (Some (Value r)) word option (Some value) next = valued_fits option value (setting_of r value) (setting_fits r value)

spelled_fits : (word : List ℕ) (spelled : Option parts.Spelled) (next : Option (List ℕ)) → All (spelled_parts word spelled next)
spelled_fits word None next = tt
spelled_fits word (Some spelled) next = (option_fits (takes_named spelled.0) word spelled.0 spelled.1 next, tt)

joined : (xs ys : List CommandPart) → All xs → All ys → All (xs ++ ys)
joined [] ys h k = k
joined (x ∷ xs) ys h k = (h.0, joined xs ys h.1 k)

flags_fit : (gs : List FlagAction) → All (map flag_part gs)
flags_fit [] = tt
flags_fit (g ∷ gs) = (given_fits g, flags_fit gs)

paths_fit : (words : List (List ℕ)) → All (map PathOf words)
paths_fit [] = tt
paths_fit (word ∷ words) = (tt, paths_fit words)

letters_fit : (word letters : List ℕ) (next : Option (List ℕ)) → All (letters_say word letters next)
unfolding letters_say
letters_fit word letters next = joined (map flag_part (flags letters)) _ (flags_fit (flags letters)) (spelled_fits word (short_option (behind_flags letters)) next)

by_form : (path long : Bool) (xs ys : List CommandPart) (word : List ℕ) → All xs → All ys → All (cond path (PathOf word ∷ []) (cond long xs ys))
by_form true long xs ys word h k = (tt, tt)
by_form false true xs ys word h k = h
by_form false false xs ys word h k = k

word_fits : (word : List ℕ) (next : Option (List ℕ)) → All (says word next)
unfolding says
word_fits word next = by_form (is_path word) (is_long word) _ _ word (spelled_fits word (Some (long_option word)) next) (letters_fit word _ next)

either : (b : Bool) (xs ys : List CommandPart) → All xs → All ys → All (cond b xs ys)
either true xs ys h k = h
either false xs ys h k = k

words_fit : (words : List (List ℕ)) → All (command_parts words)
words_fit [] = tt
words_fit (word ∷ []) = either (is_double_dash word) [] (says word None) tt (word_fits word None)
words_fit (word ∷ next ∷ words) =
    either (is_double_dash word) (map PathOf (next ∷ words)) (says word (Some next) ++ cond (takes_next word) (command_parts words) (command_parts (next ∷ words))) (paths_fit (next ∷ words))
    (joined (says word (Some next)) _ (word_fits word (Some next)) (either (takes_next word) (command_parts words) (command_parts (next ∷ words)) (words_fit words) (words_fit (next ∷ words))))

-- THE OPTIONS
one_more : (x : Option (Option (ℕ × ℕ))) (xs : List (Option (ℕ × ℕ))) (o : Option (ℕ × ℕ)) → IsInBounds o → Set x → ((p : Option (ℕ × ℕ)) → IsInBounds p → IsInBounds (last_or p xs)) → IsInBounds (last_or o (cons_option x xs))
one_more None xs o h s f = f o h
one_more (Some asked) xs o h s f = f asked s

last_fits : (ps : List CommandPart) (o : Option (ℕ × ℕ)) → IsInBounds o → All ps → IsInBounds (last_or o (filter_map generated_of ps))
last_fits [] o h k = h
last_fits (p ∷ ps) o h k = one_more (generated_of p) (filter_map generated_of ps) o h k.0 (λ q i. last_fits ps q i k.1)

abbrev OkFits : Result Options UsageFault → Type 0
OkFits (Ok o) = IsInBounds o.generated
OkFits (Err fault) = Unit {0}

unless_fits : (f : Option UsageFault) (o : Options) → IsInBounds o.generated → OkFits (unless_fault f o)
unless_fits None o h = h
unless_fits (Some fault) o h = tt

set_fits : (words : List (List ℕ)) → OkFits (options_or_fault defaults (command_parts words))
unfolding options_or_fault with_parts
set_fits words = unless_fits _ _ (last_fits (command_parts words) None tt (words_fit words))

checked_fits : (x : Result Options UsageFault) → OkFits x → (o : Options) → checked x ≡ Ok o → IsInBounds o.generated
checked_fits (Err fault) h o e = absurd (cc)
checked_fits (Ok y) h o e = by_test (asks_for_workers y && nat_lt 0 y.maxfail) e
  where
    by_test : (b : Bool) → cond b (Err Conflict) (Ok y) ≡ Ok o → IsInBounds o.generated
    by_test true q = absurd (cc)
    by_test false q = subst (λ (z : Options). IsInBounds z.generated) (ok_same y o (Ok y) refl q) h
      where
        ok_same : (u v : Options) (x : Result Options UsageFault) → x ≡ Ok u → x ≡ Ok v → u ≡ v
        ok_same u v x a r = cc

pub generated_fits : (words : List (List ℕ)) (o : Options) → options_of words ≡ Ok o → IsInBounds o.generated
unfolding options_of
generated_fits words o e = checked_fits (options_or_fault defaults (command_parts words)) (set_fits words) o e
