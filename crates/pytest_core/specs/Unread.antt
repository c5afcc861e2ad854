use Rattle.std.specs.Prelude.{codes}
use Rattle.worker_sessions.specs.run_items.report_rules.Answer.{PrintedAnswer, refusal}

-- what is said of a command line with a word that is not UTF-8, whatever the other words and the tree are
abbrev pub unread_words : PrintedAnswer
unread_words = refusal (codes "a word is not UTF-8")
