use Rattle.cli_words.proofs.Settings.{path_is}
use Rattle.cli_words.proofs.options.Options.push_path.Goals as goal

pub returns : goal.returns
returns c = rw c.in_ok-push.ensures.ok (path_is c.args.self.now c.args.path)
