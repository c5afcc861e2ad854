use Rattle.std.proofs.Common.{None, Some, lit<, refl}
use Rattle.std.proofs.lemmas.Str.Pattern.{strip_suffix_char}
use Rattle.report_parts.proofs.BlankLemmas.{ends_with_blank, second_end}
use Rattle.report_parts.proofs.blanks.before_blank.Goals as goal

pub returns-in-Some : goal.returns-in-Some
returns-in-Some c =
    ends_with_blank 32 c.args.text.now c.in-Some.rest.now refl (lit< tt) c.utf8.text (strip_suffix_char 32 c.args.text.now (Some c.in-Some.rest) c.in-Some.ensures.cases (lit< tt))

pub returns-in-None : goal.returns-in-None
returns-in-None c =
    second_end c.args.text.now c.strip_suffix-in-None.result c.utf8.text (strip_suffix_char 32 c.args.text.now None c.in-None.ensures.cases (lit< tt)) (strip_suffix_char 9 c.args.text.now c.strip_suffix-in-None.result c.strip_suffix-in-None.ensures.cases (lit< tt))
