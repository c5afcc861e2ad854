pub use Rattle.runtest_rules.proofs.report_rules_lemmas
pub use Rattle.runtest_rules.proofs as runtest_rules_lemmas
