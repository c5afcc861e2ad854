use Rattle.std.proofs.Common.{Some, None, sym}
use Rattle.std.proofs.lemmas.Str.Pattern.{split_once_first}
use Rattle.cli_words.proofs.Cuts.{behind_none, behind_some}
use Rattle.cli_words.proofs.setting.cut_at.Goals as goal

pub returns-in-Some-clause-behind : goal.returns-in-Some-clause-behind
returns-in-Some-clause-behind c =
    let first = split_once_first c.args.mark c.args.text.now (Some (c.in-Some.before, c.in-Some.behind)) c.in-Some.ensures.cases c.requires in
    rw first.2 (sym (behind_some c.args.mark c.args.text.now first.0))

pub returns-in-None-clause-behind : goal.returns-in-None-clause-behind
returns-in-None-clause-behind c =
    sym (behind_none c.args.mark c.args.text.now (split_once_first c.args.mark c.args.text.now None c.in-None.ensures.cases c.requires))
