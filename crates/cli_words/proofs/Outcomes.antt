-- What parts lead to.
use Rattle.std.proofs.Common.{◌≡◌, ℕ, List, [], ◌∷◌, ◌++◌, true, false, Ok, Err, Option, Some, None, refl, ap, ◌∙◌, append_assoc}
use Rattle.std.proofs.lemmas.List.{append-nil}
use Rattle.std.proofs.lemmas.List.Elements.{filter_map-append}
use Rattle.std.specs.List.{filter_map}
use Rattle.cli_words.specs.Parts.{Asks, CommandPart, PathOf, Sets, Wrong, asking, begins_with_dash, next_valued, option_part, switched, option_with_value}
use Rattle.cli_words.specs.Options.{with_parts, options_or_fault, unless_fault, first_if_any, usage_fault, last_or}
use Rattle.cli_words.specs.declared.fault.UsageFault.{UsageFault}
use Rattle.cli_words.specs.declared.fault.UsageFault.TheVariants.{BadValue, NeedsValue, TakesNoValue, Unrecognized}
use Rattle.cli_words.specs.declared.info.Info.{Info}
use Rattle.cli_words.specs.declared.table.Rule.{Rule}
use Rattle.cli_words.specs.declared.table.FlagAction.{FlagAction}
use Rattle.cli_words.specs.declared.table.OptionKind.{OptionKind}
use Rattle.cli_words.specs.Values.{given_setting, setting_of}
use Rattle.cli_words.specs.declared.options.Options.{Options}
use Rattle.cli_words.specs.declared.setting.Setting.{Setting}

pub last_or-append : {X : Type 0} (x : X) (ys zs : List X) → last_or x (ys ++ zs) ≡ last_or (last_or x ys) zs
last_or-append x [] zs = refl
last_or-append x (y ∷ ys) zs = last_or-append y ys zs

pub with_parts-append : (o : Options) (ps qs : List CommandPart) → with_parts o (ps ++ qs) ≡ with_parts (with_parts o ps) qs
unfolding with_parts
with_parts-append o ps qs = simp (filter_map-append, last_or-append, append_assoc)

pub first_of-append : {X : Type 0} (x : X) (xs ys : List X) → first_if_any xs ≡ Some x → first_if_any (xs ++ ys) ≡ Some x
first_of-append x [] ys e = absurd (cc e)
first_of-append x (y ∷ xs) ys e = e

pub first_of-append_none : {X : Type 0} (xs ys : List X) → first_if_any xs ≡ None → first_if_any (xs ++ ys) ≡ first_if_any ys
first_of-append_none [] ys e = refl
first_of-append_none (y ∷ xs) ys e = absurd (cc e)

pub with_parts-nil : (o : Options) → with_parts o [] ≡ o
unfolding with_parts
with_parts-nil o =
    ap (λ (xs : List (List ℕ)). record o { paths = xs; ignore = o.ignore ++ [] }) (append-nil o.paths) ∙ ap (λ (xs : List (List ℕ)). record o { ignore = xs }) (append-nil o.ignore)

pub outcome-nil : (o : Options) → options_or_fault o [] ≡ Ok o
unfolding options_or_fault
outcome-nil o = ap Ok (with_parts-nil o)

found : (first : Option UsageFault) (o : Options) (fault : UsageFault) → unless_fault first o ≡ Err fault → first ≡ Some fault
found None o fault e = absurd (cc e)
found (Some other) o fault e = cc e

fine : (first : Option UsageFault) (o p : Options) → unless_fault first o ≡ Ok p → (first ≡ None) × (o ≡ p)
fine None o p e = (refl, cc e)
fine (Some other) o p e = absurd (cc e)

pub outcome_refused : (o : Options) (fault : UsageFault) (ps qs : List CommandPart) → options_or_fault o ps ≡ Err fault → options_or_fault o (ps ++ qs) ≡ Err fault
unfolding options_or_fault
outcome_refused o fault ps qs e =
    rw (filter_map-append usage_fault ps qs, first_of-append fault (filter_map usage_fault ps) (filter_map usage_fault qs) (found _ _ fault e)) refl

pub outcome_after : (o p : Options) (ps qs : List CommandPart) → options_or_fault o ps ≡ Ok p → options_or_fault o (ps ++ qs) ≡ options_or_fault p qs
unfolding options_or_fault
outcome_after o p ps qs e =
    let all = fine _ _ p e in
    rw (filter_map-append usage_fault ps qs, first_of-append_none (filter_map usage_fault ps) (filter_map usage_fault qs) all.0, with_parts-append o ps qs, all.1) refl

pub outcome_sets : (o p : Options) (s : Setting) → p ≡ with_parts o (Sets s ∷ []) → options_or_fault o (Sets s ∷ []) ≡ Ok p
unfolding options_or_fault
outcome_sets o p s e = rw e refl

pub outcome_path : (o p : Options) (path : List ℕ) → p ≡ with_parts o (PathOf path ∷ []) → options_or_fault o (PathOf path ∷ []) ≡ Ok p
unfolding options_or_fault
outcome_path o p path e = rw e refl

pub outcome_wrong : (o : Options) (fault : UsageFault) → options_or_fault o (Wrong fault ∷ []) ≡ Err fault
unfolding options_or_fault
outcome_wrong o fault = refl

pub valued_good : (o p : Options) (option value : List ℕ) (s : Setting) (found : Option Setting) → Some s ≡ found → p ≡ with_parts o (Sets s ∷ []) → options_or_fault o (option_with_value option value found ∷ []) ≡ Ok p
valued_good o p option value s found e is = rw (← e) (outcome_sets o p s is)

pub valued_bad : (o : Options) (option value : List ℕ) (found : Option Setting) → found ≡ None → options_or_fault o (option_with_value option value found ∷ []) ≡ Err (BadValue option value)
valued_bad o option value found e = rw e (outcome_wrong o (BadValue option value))

pub next_dash : (o : Options) (option : List ℕ) (rule : Rule) (next : Option (List ℕ)) (value : List ℕ) → next ≡ Some value → begins_with_dash value ≡ true → options_or_fault o (next_valued option rule next ∷ []) ≡ Err (NeedsValue option)
next_dash o option rule next value e dash = rw (e, dash) (outcome_wrong o (NeedsValue option))

pub next_none : (o : Options) (option : List ℕ) (rule : Rule) (next : Option (List ℕ)) → next ≡ None → options_or_fault o (next_valued option rule next ∷ []) ≡ Err (NeedsValue option)
next_none o option rule next e = rw e (outcome_wrong o (NeedsValue option))

pub next_good : (option : List ℕ) (rule : Rule) (next : Option (List ℕ)) (value : List ℕ) → next ≡ Some value → begins_with_dash value ≡ false → next_valued option rule next ≡ option_with_value option value (setting_of rule value)
next_good option rule next value e dash = rw (e, dash) refl

pub switched_some : (o : Options) (option : List ℕ) (given : FlagAction) (value : Option (List ℕ)) (v : List ℕ) → value ≡ Some v → options_or_fault o (switched option given value ∷ []) ≡ Err (TakesNoValue option)
switched_some o option given value v e = rw e (outcome_wrong o (TakesNoValue option))

pub switched_none : (o p : Options) (option : List ℕ) (given : FlagAction) (value : Option (List ℕ)) → value ≡ None → p ≡ with_parts o (Sets (given_setting given) ∷ []) → options_or_fault o (switched option given value ∷ []) ≡ Ok p
switched_none o p option given value e is = rw e (outcome_sets o p (given_setting given) is)

pub no_option : (o : Options) (takes : Option OptionKind) (word option : List ℕ) (value next : Option (List ℕ)) → takes ≡ None → options_or_fault o (option_part takes word option value next ∷ []) ≡ Err (Unrecognized word)
no_option o takes word option value next e = rw e (outcome_wrong o (Unrecognized word))

with_parts-asks : (o : Options) (info : Info) → with_parts o (Asks info ∷ []) ≡ o
unfolding with_parts
with_parts-asks o info =
    ap (λ (xs : List (List ℕ)). record o { paths = xs; ignore = o.ignore ++ [] }) (append-nil o.paths) ∙ ap (λ (xs : List (List ℕ)). record o { ignore = xs }) (append-nil o.ignore)

outcome_asks : (o : Options) (info : Info) → options_or_fault o (Asks info ∷ []) ≡ Ok o
unfolding options_or_fault
outcome_asks o info = ap Ok (with_parts-asks o info)

pub asking_some : (o : Options) (option : List ℕ) (info : Info) (value : Option (List ℕ)) (v : List ℕ) → value ≡ Some v → options_or_fault o (asking option info value ∷ []) ≡ Err (TakesNoValue option)
asking_some o option info value v e = rw e (outcome_wrong o (TakesNoValue option))

pub asking_none : (o : Options) (option : List ℕ) (info : Info) (value : Option (List ℕ)) → value ≡ None → options_or_fault o (asking option info value ∷ []) ≡ Ok o
asking_none o option info value e = rw e (outcome_asks o info)
