-- Each selected item is reported once, in order.
use Rattle.std.specs.Prelude.{◌≡◌, ℕ, ◌+◌, ◌==◌, List, [], ◌∷◌, map, flat_map, MatchBool}
use Rattle.cli_words.specs.declared.options.Options.{Options}
use Rattle.report_parts.specs.Outcomes.{not_empty}
use Rattle.report_rules.specs.Collected.{SelectedItem, Collected}
use Rattle.report_rules.specs.Groups.{groups}
use Rattle.report_rules.specs.Report.{reached_maxfail, single_thread, workers_of}
use Rattle.report_rules.specs.Rows.{ReportRow, Task, report_row}
use Rattle.session_rules.specs.Reports.{IsTestProtocol, bads}
use Rattle.session_rules.specs.Session.{reaches}
use Rattle.session_rules.specs.World.{Language, Rules}

-- the tasks in order, each once, with the phases of its item, where there were so many failures and errors before: all of them, or
-- up to the first with which these reach maxfail, and none behind it
abbrev pub AreRows : {L : Language} → ℕ → ℕ → List Task → List (ReportRow L) → Type 0
AreRows maxfail bad [] rows = rows ≡ []
AreRows maxfail bad (t ∷ ts) [] = ⊥
AreRows maxfail bad (t ∷ ts) (r ∷ rs) =
    (r.task ≡ t) × IsTestProtocol t.chosen.item.node r.ends
    × MatchBool (reaches maxfail (bad + bads r.ends)) (rs ≡ []) (AreRows maxfail (bad + bads r.ends) ts rs)

abbrev pub row_task : {L : Language} → ReportRow L → Task
row_task r = r.task

abbrev pub row_chosen : {L : Language} → ReportRow L → SelectedItem
row_chosen r = r.task.chosen

-- the items of the rows, in order
abbrev pub reported : {L : Language} → List (ReportRow L) → List SelectedItem
reported rows = map row_chosen rows

-- the number of failures and errors among the phases of rows
abbrev pub row_bads : {L : Language} → List (ReportRow L) → ℕ
row_bads [] = 0
row_bads (r ∷ rs) = bads r.ends + row_bads rs

-- what is reported: with `--collect-only` the selected items, of which none ran; with errors of collection nothing; on one thread the
-- selected items, or those up to the one with which maxfail was reached, and it is told whether it was; with workers the items of the
-- groups, in the order of the groups
abbrev pub AreReported : {L : Language} {T : Type 0} → Rules L → Options → Collected L T → List (ReportRow L) → Type 0
AreReported rules options c rows =
    MatchBool options.collect_only (rows ≡ map (λ t. report_row t [] []) (single_thread c))
    (MatchBool (not_empty c.errors) (rows ≡ [])
    (MatchBool (workers_of options c == 0) (AreRows options.maxfail 0 (single_thread c) rows × (reached_maxfail rules options c ≡ reaches options.maxfail (row_bads rows)))
    (reported rows ≡ flat_map (λ g. g) (groups c.selected))))
