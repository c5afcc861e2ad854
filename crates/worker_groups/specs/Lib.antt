pub use Rattle.report_rules.specs as report_rules
pub mod Numbers
