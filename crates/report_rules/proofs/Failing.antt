-- What stops a run makes it fail.
use Rattle.std.proofs.Common.{◌≡◌, ℕ, ◌+◌, ◌≤◌, Bool, true, false, cond, not, ◌&&◌, ◌||◌, List, [], ◌∷◌, ◌++◌, map, length, inl, inr, refl, sym, ap, ap₂, ◌∙◌, subst, eqb, arith, MatchBool, nat_lt, nat_le}
use Rattle.std.proofs.lemmas.Bool.{leb-true, ltb-true, or_parts}
use Rattle.std.specs.List.{list_any}
use Rattle.cli_words.specs.declared.options.Options.{Options}
use Rattle.report_parts.specs.Outcomes.{not_empty}
use Rattle.report_rules.proofs.Once.{item_cut}
use Rattle.report_rules.specs.Answer.{Failed, Interrupted, NoTests, Passed, is_bad}
use Rattle.report_rules.specs.Collected.{Collected, FixtureTexts, Profile, ends_badly, report_language}
use Rattle.report_rules.specs.Groups.{groups}
use Rattle.report_rules.specs.Items.{is_phase, item_report}
use Rattle.report_rules.specs.Report.{single_thread, report, report_of, reports_told, rows_reported, runs, reached_maxfail, workers_of}
use Rattle.report_rules.specs.Rows.{Arrival, ReportRow, Task, arrivals_of, by_item, task_item, ran, report_row, session_rows, with_ends}
use Rattle.report_rules.specs.Shares.{by_group, tasks_from, worked}
use Rattle.session_rules.proofs.Reports.{bads_append, session_reports}
use Rattle.session_rules.specs.Reports.{IsTestProtocol, Reported, bads}
use Rattle.session_rules.specs.Session.{as_count, has_stopped, reaches}
use Rattle.session_rules.specs.Teardown.{PhaseEnd}
use Rattle.session_rules.specs.World.{Call, Phase, SetUp, Teardown}
use Rattle.session_types.proofs.Lists.{and_both}
use Rattle.session_types.specs.declared.scope.Scope.{Scope}

turned : (a b c : Bool) → (b || (a || c)) ≡ (a || (b || (c || false)))
turned true true c = refl
turned true false c = refl
turned false b true = refl
turned false b false = refl

module _ {World Value Thrown Rest : Type 0} where
  abbrev bad_end : PhaseEnd (report_language World Value Thrown Rest) → Bool
  bad_end e = ends_badly e.phase e.told

  some_bad : (ends : List (PhaseEnd (report_language World Value Thrown Rest))) → 1 ≤ bads ends → list_any bad_end ends ≡ true
  some_bad [] some = absurd (omega (arith, some))
  some_bad (e ∷ ends) some =
      (elim (bad_end e) as (λ b. 1 ≤ as_count b + bads ends → (b || list_any bad_end ends) ≡ true) [
        | true ↦ λ s. refl
        | false ↦ λ s. some_bad ends (omega (arith, s))
      ]) some

  module _ (options : Options) (scope : ℕ → Scope) (fixture : ℕ → FixtureTexts) where
    abbrev pub shows : ReportRow (report_language World Value Thrown Rest) → Bool
    shows r = is_bad (item_report options scope fixture r)

    two_shown : (t : Task) (s d : PhaseEnd (report_language World Value Thrown Rest)) (arrivals : List Arrival) → s.phase ≡ SetUp → d.phase ≡ Teardown → shows (report_row t (s ∷ d ∷ []) arrivals) ≡ list_any bad_end (s ∷ d ∷ [])
    two_shown t s d arrivals e f =
        let s0 : is_phase SetUp s.phase ≡ true = ap (λ (p : Phase). is_phase SetUp p) e in
        let s1 : is_phase Call s.phase ≡ false = ap (λ (p : Phase). is_phase Call p) e in
        let s2 : is_phase Teardown s.phase ≡ false = ap (λ (p : Phase). is_phase Teardown p) e in
        let d1 : is_phase Call d.phase ≡ false = ap (λ (p : Phase). is_phase Call p) f in
        let d2 : is_phase Teardown d.phase ≡ true = ap (λ (p : Phase). is_phase Teardown p) f in
        let bs : ends_badly s.phase s.told ≡ ends_badly SetUp s.told = ap (λ (p : Phase). ends_badly p s.told) e in
        let bd : ends_badly d.phase d.told ≡ ends_badly Teardown d.told = ap (λ (p : Phase). ends_badly p d.told) f in
        rw (s0, s1, s2, d1, d2, bs, bd) (turned (ends_badly SetUp s.told) false (ends_badly Teardown d.told))

    three_shown : (t : Task) (s c d : PhaseEnd (report_language World Value Thrown Rest)) (arrivals : List Arrival) → s.phase ≡ SetUp → c.phase ≡ Call → d.phase ≡ Teardown → shows (report_row t (s ∷ c ∷ d ∷ []) arrivals) ≡ list_any bad_end (s ∷ c ∷ d ∷ [])
    three_shown t s c d arrivals e g f =
        let s0 : is_phase SetUp s.phase ≡ true = ap (λ (p : Phase). is_phase SetUp p) e in
        let s1 : is_phase Call s.phase ≡ false = ap (λ (p : Phase). is_phase Call p) e in
        let s2 : is_phase Teardown s.phase ≡ false = ap (λ (p : Phase). is_phase Teardown p) e in
        let c1 : is_phase Call c.phase ≡ true = ap (λ (p : Phase). is_phase Call p) g in
        let c2 : is_phase Teardown c.phase ≡ false = ap (λ (p : Phase). is_phase Teardown p) g in
        let d2 : is_phase Teardown d.phase ≡ true = ap (λ (p : Phase). is_phase Teardown p) f in
        let bs : ends_badly s.phase s.told ≡ ends_badly SetUp s.told = ap (λ (p : Phase). ends_badly p s.told) e in
        let bc : ends_badly c.phase c.told ≡ ends_badly Call c.told = ap (λ (p : Phase). ends_badly p c.told) g in
        let bd : ends_badly d.phase d.told ≡ ends_badly Teardown d.told = ap (λ (p : Phase). ends_badly p d.told) f in
        rw (s0, s1, s2, c1, c2, d2, bs, bc, bd) (turned (ends_badly SetUp s.told) (ends_badly Call c.told) (ends_badly Teardown d.told))

    -- a report shows a failure or an error exactly where a phase of its item was counted as one
    pub item_shown : (t : Task) (item : ℕ) (mine : List (PhaseEnd (report_language World Value Thrown Rest))) (arrivals : List Arrival) → IsTestProtocol item mine → shows (report_row t mine arrivals) ≡ list_any bad_end mine
    item_shown t item mine arrivals i =
        let s = i.set_up in let d = i.torn in
        elim i.is_called [
          | inl q ↦
              (let c = q.1.0 in
              let m : mine ≡ s ∷ c ∷ d ∷ [] = i.are ∙ ap (λ (l : List (PhaseEnd (report_language World Value Thrown Rest))). s ∷ l ++ d ∷ []) q.1.2 in
              subst (λ (l : List (PhaseEnd (report_language World Value Thrown Rest))). shows (report_row t l arrivals) ≡ list_any bad_end l) (sym m) (three_shown t s c d arrivals i.is_set_up.0 q.1.1.0 i.is_torn.0))
          | inr q ↦
              (let m : mine ≡ s ∷ d ∷ [] = i.are ∙ ap (λ (l : List (PhaseEnd (report_language World Value Thrown Rest))). s ∷ l ++ d ∷ []) q.1 in
              subst (λ (l : List (PhaseEnd (report_language World Value Thrown Rest))). shows (report_row t l arrivals) ≡ list_any bad_end l) (sym m) (two_shown t s d arrivals i.is_set_up.0 i.is_torn.0))
        ]

    rows_bad : (maxfail bad : ℕ) (arrivals : List Arrival) (tasks : List Task) (ends : List (PhaseEnd (report_language World Value Thrown Rest))) → Reported maxfail bad (map task_item tasks) ends → 1 ≤ bads ends → list_any shows (with_ends arrivals tasks (by_item ends)) ≡ true
    rows_bad maxfail bad arrivals [] ends r some = (let z = ap (λ (l : List (PhaseEnd (report_language World Value Thrown Rest))). bads l) r in absurd (omega (arith, z, some)))
    rows_bad maxfail bad arrivals (t ∷ ts) ends r some =
        let mine = r.0 in let more = r.1 in
        let next = arrivals ++ arrivals_of t.chosen mine in
        let cut : by_item ends ≡ mine ∷ by_item more = ap (λ (l : List (PhaseEnd (report_language World Value Thrown Rest))). by_item l) r.2 ∙ item_cut t.chosen.item.node mine more r.3 in
        let n = bad + bads mine in
        let sum : bads ends ≡ bads mine + bads more = ap (λ (l : List (PhaseEnd (report_language World Value Thrown Rest))). bads l) r.2 ∙ bads_append mine more in
        let own : shows (report_row t mine next) ≡ list_any bad_end mine = item_shown t t.chosen.item.node mine next r.3 in
        let whole : (list_any bad_end mine || list_any shows (with_ends next ts (by_item more))) ≡ true =
        (elim (list_any bad_end mine) as (λ b. list_any bad_end mine ≡ b → (b || list_any shows (with_ends next ts (by_item more))) ≡ true) [
          | true ↦ λ e. refl
          | false ↦ λ e.
              (let least : 1 ≤ bads more =
              (let none : 1 ≤ bads mine → ⊥ = λ m. (let z : false ≡ true = sym e ∙ some_bad mine m in cc) in omega (arith, none, sum, some)) in
              (elim (reaches maxfail n) as (λ b. MatchBool b (more ≡ []) (Reported maxfail n (map task_item ts) more) → list_any shows (with_ends next ts (by_item more)) ≡ true) [
                | true ↦ λ q. (let z = ap (λ (l : List (PhaseEnd (report_language World Value Thrown Rest))). bads l) q in absurd (omega (arith, z, least)))
                | false ↦ λ q. rows_bad maxfail n next ts more q least
              ]) r.4)
        ]) refl in
        subst (λ (l : List (List (PhaseEnd (report_language World Value Thrown Rest)))). list_any shows (with_ends arrivals (t ∷ ts) l) ≡ true) (sym cut)
        (ap (λ (b : Bool). b || list_any shows (with_ends next ts (by_item more))) own ∙ whole)

module _ {World Value Thrown Rest Source Table : Type 0} (holds : List ℕ → Source → Type 0) (profile : Profile (report_language World Value Thrown Rest) Source Table) (options : Options) (c : Collected (report_language World Value Thrown Rest) Table) (taken : List (List ℕ)) where
  abbrev shows_row : ReportRow (report_language World Value Thrown Rest) → Bool
  shows_row r = is_bad (report_of holds profile options c.table r)

  all_shown : (rs : List (ReportRow (report_language World Value Thrown Rest))) → list_any is_bad (map (report_of holds profile options c.table) rs) ≡ list_any shows_row rs
  all_shown [] = refl
  all_shown (r ∷ rs) = ap (λ (b : Bool). shows_row r || b) (all_shown rs)

  pub stopped_fails : reached_maxfail (profile.rules options c.table) options c ≡ true → (report holds profile options c taken).1 ≡ Failed
  stopped_fails e =
      let rules = profile.rules options c.table in
      let s = ran rules c.world options.maxfail (single_thread c) in
      let p = and_both (runs options c && eqb (workers_of options c) 0) (has_stopped options.maxfail s) e in
      let q = and_both (runs options c) (eqb (workers_of options c) 0) p.0 in
      let o : (options.collect_only || not_empty c.errors) ≡ false = not_false (options.collect_only || not_empty c.errors) q.0 in
      let both = or_parts options.collect_only (not_empty c.errors) o in
      let m = and_both (nat_lt 0 options.maxfail) (nat_le options.maxfail s.bad) p.1 in
      let rep = session_reports rules options.maxfail (map task_item (single_thread c)) c.world in
      let low = ltb-true 0 options.maxfail m.0 in
      let most = leb-true options.maxfail s.bad m.1 in
      let counted = rep.counted in
      let some : 1 ≤ bads s.ends = omega (arith, low, most, counted) in
      let rs = session_rows rules c.world options.maxfail (single_thread c) in
      let bad : list_any shows_row rs ≡ true = rows_bad options rules.scope (profile.fixture c.table) options.maxfail 0 [] (single_thread c) s.ends rep.reported some in
      let by = by_group 0 (length (groups c.selected)) (worked rules c.world (tasks_from (groups c.selected) 0 taken)) in
      let same : rows_reported rules options c taken ≡ rs =
      ap (λ (b : Bool). cond b (map (λ t. report_row t [] []) (single_thread c)) (cond (not_empty c.errors) [] (cond (eqb (workers_of options c) 0) rs by))) both.0
      ∙ (ap (λ (b : Bool). cond b [] (cond (eqb (workers_of options c) 0) rs by)) both.1 ∙ ap (λ (b : Bool). cond b rs by) q.1) in
      let any : list_any is_bad (reports_told holds profile options c taken) ≡ true = all_shown (rows_reported rules options c taken) ∙ (ap (λ (l : List (ReportRow (report_language World Value Thrown Rest))). list_any shows_row l) same ∙ bad) in
      ap₂ (λ (a b : Bool). cond a Interrupted (cond b Failed (cond (eqb (length c.selected) 0) NoTests Passed))) both.1 any
    where
      not_false : (b : Bool) → not b ≡ true → b ≡ false
      not_false true z = sym z
      not_false false z = refl
