-- What words ask for, from what their parts say.
use Rattle.std.proofs.Common.{◌≡◌, ℕ, List, [], Bool, true, false, cond, None, Some, Result, Ok, Err, refl, sym, subst, ap, ◌∙◌, ◌&&◌, arith}
use Rattle.std.proofs.lemmas.Grind.{common_steps}
use Rattle.std.specs.Prelude.{nat_lt}
use Rattle.cli_words.specs.Faults.{usage_text}
use Rattle.cli_words.specs.Info.{info_of}
use Rattle.cli_words.specs.Options.{Refuses, asks_for_workers, checked, defaults, options_of, options_or_fault}
use Rattle.cli_words.specs.Parts.{command_parts}
use Rattle.cli_words.specs.declared.fault.UsageFault.{UsageFault}
use Rattle.cli_words.specs.declared.fault.UsageFault.TheVariants as usage
use Rattle.cli_words.specs.declared.info.Info.{Info}
use Rattle.cli_words.specs.declared.options.Options.{Options}
use Rattle.edge_io.specs.Files.{File}
use Rattle.worker_sessions.specs.collect_tree.file_source.Sources.{HoldsSource}
use Rattle.worker_sessions.specs.run_items.report_rules.Answer.{PrintedAnswer, info_answer, refusal}
use Rattle.worker_sessions.specs.run_items.report_rules.Report as rules
use Rattle.selection.specs.Exprs.{AreExprs, IsRefused, refused_expression, selection_text}
use Rattle.selection.specs.declared.fault.SelectionFault.{SelectionFault}
use Rattle.selection.specs.declared.fault.SelectionFault.TheVariants as faults
use Rattle.selection.specs.declared.exprs.Exprs.{Exprs}
use Rattle.pytest_core.specs.Profile.{profile}
use Rattle.pytest_core.specs.Report.{AskForRun, IsTreeReport, OfKept, OptionsSay}
use Rattle.pytest_core.specs.Request.{OptionsAsk, WordsAsk, is_expression_fault, is_usage_fault}
use Rattle.pytest_core.specs.Written.{IsResponseBy, Response, response_of}
use Rattle.pytest_core.specs.declared.request.Request.{Request}
use Rattle.pytest_core.specs.declared.request.Request.TheVariants.{Run, Said}
use Rattle.pytest_core.proofs.Said.{kept_as, of_any, says_fault, says_info, says_options, says_refused}

-- OPTIONS
pub run_asked : (o : Options) (exprs : Exprs) → AreExprs o exprs → OptionsAsk o (Run o exprs)
run_asked o exprs are = (refl, are, are.fine)

refused_by : (o : Options) (fault : SelectionFault) → IsRefused o fault → is_expression_fault fault ≡ true → refused_expression o ≡ Some (selection_text fault)
refused_by o faults.OutOfMemory h other = absurd (cc)
refused_by o (faults.Wrong flag column) h other = h
refused_by o (faults.TooDeep flag) h other = h

pub expression_said : (fault : SelectionFault) (r : Response) → is_expression_fault fault ≡ true → r ≡ response_of (refusal (selection_text fault))
    → (o : Options) → IsRefused o fault → (tree : List File) → IsResponseBy (OfKept (rules.SaysOfOptions HoldsSource profile o []) tree) r
expression_said fault r wrong same o refused tree =
    of_any (rules.SaysOfOptions HoldsSource profile o []) tree (refusal (selection_text fault)) r (says_refused o (selection_text fault) (refused_by o fault refused wrong))
    same

refused_words : (said : Result Options UsageFault) (fault : UsageFault) → Refuses said fault → is_usage_fault fault ≡ true → said ≡ Err fault
refused_words said usage.OutOfMemory h other = absurd (cc)
refused_words said (usage.Unrecognized word) h other = h
refused_words said (usage.NeedsValue option) h other = h
refused_words said (usage.BadValue option value) h other = h
refused_words said (usage.TakesNoValue option) h other = h
refused_words said usage.Conflict h other = h

-- WORDS
pub info_said : (words : List (List ℕ)) (info : Info) (r : Response) → Some info ≡ info_of words → r ≡ response_of (info_answer info) → (tree : List File) → IsResponseBy (IsTreeReport words tree) r
info_said words info r asked same tree = of_any (rules.IsReport HoldsSource profile words) tree (info_answer info) r (says_info words info (sym asked)) same

pub fault_said : (fault : UsageFault) (r : Response) → is_usage_fault fault ≡ true → r ≡ response_of (refusal (usage_text fault))
    → (words : List (List ℕ)) → info_of words ≡ None → Refuses (options_of words) fault → (tree : List File) → IsResponseBy (IsTreeReport words tree) r
fault_said fault r usage same words none refused tree =
    of_any (rules.IsReport HoldsSource profile words) tree (refusal (usage_text fault)) r (says_fault words fault none (refused_words (options_of words) fault refused usage)) same

pub words_ask : (words : List (List ℕ)) (o : Options) (q : Request) → None ≡ info_of words → options_of words ≡ Ok o → OptionsAsk o q → WordsAsk words q
words_ask words o (Run options exprs) none read (same, are, accepted) =
    (sym none, subst (λ x. options_of words ≡ Ok x) (sym same) read, subst (λ x. AreExprs x exprs) (sym same) are, subst (λ x. refused_expression x ≡ None) (sym same) accepted)
words_ask words o (Said response) none read said =
    λ tree. kept_as (rules.SaysOfOptions HoldsSource profile o []) (rules.IsReport HoldsSource profile words) tree (response.0.items, response.1) (λ files answer s. says_options words o (sym none) read files answer ([], s)) (said tree)

-- A RUN
pub run_said : (words : List (List ℕ)) (options : Options) (exprs : Exprs) → WordsAsk words (Run options exprs) → (tree : List File) (answer : PrintedAnswer)
    → OfKept (OptionsSay options) tree answer → IsTreeReport words tree answer
run_said words options exprs (none, read, are, accepted) tree answer (files, kept, said) = (files, kept, says_options words options none read files answer said)

pub run_words : (words : List (List ℕ)) (options : Options) (exprs : Exprs) → WordsAsk words (Run options exprs) → AskForRun words
run_words words options exprs (none, read, are, accepted) = record { options = options; no_info = none; read = read; accepted = accepted }

-- words that ask for workers ask for no maxfail
checked_none : (x : Result Options UsageFault) (o : Options) → checked x ≡ Ok o → asks_for_workers o ≡ true → o.maxfail ≡ 0
checked_none (Err fault) o e asks = absurd (let z : Err fault ≡ Ok o = e in cc)
checked_none (Ok x) o e asks = of_test (asks_for_workers x) (nat_lt 0 x.maxfail) x o refl refl e asks
  where
    ok_same : (x o : Options) → ◌≡◌ {A = Result Options UsageFault} (Ok x) (Ok o) → x ≡ o
    ok_same x o e = cc

    not_above : (n : ℕ) → nat_lt 0 n ≡ false → n ≡ 0
    not_above n e = grind (arith, common_steps)

    of_test : (a b : Bool) (x o : Options) → asks_for_workers x ≡ a → nat_lt 0 x.maxfail ≡ b → cond (a && b) (Err usage.Conflict) (Ok x) ≡ Ok o → asks_for_workers o ≡ true → o.maxfail ≡ 0
    of_test true true x o p q e asks = absurd (let z : Err usage.Conflict ≡ Ok o = e in cc)
    of_test true false x o p q e asks = (let same : x ≡ o = ok_same x o e in subst (λ (y : Options). y.maxfail ≡ 0) same (not_above x.maxfail q))
    of_test false b x o p q e asks = (let same : x ≡ o = ok_same x o e in absurd (let z : false ≡ true = sym p ∙ (ap asks_for_workers same ∙ asks) in cc))

pub no_maxfail : (words : List (List ℕ)) (o : Options) → options_of words ≡ Ok o → asks_for_workers o ≡ true → o.maxfail ≡ 0
unfolding options_of
no_maxfail words o e asks = checked_none (options_or_fault defaults (command_parts words)) o e asks
