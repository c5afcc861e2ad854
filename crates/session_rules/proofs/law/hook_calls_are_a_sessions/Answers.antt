use Rattle.session_rules.proofs.HookCalls.{hook_agrees}
use Rattle.session_rules.specs.Session.{hook_runner}
use Rattle.session_rules.proofs.law.hook_calls_are_a_sessions.Goals as goal

pub returns : goal.returns
returns g c = λ rules view f impls before after end values h. hook_agrees view g.R.Runner.calls g.R.Runner.begins g.R.Runner.resumes (hook_runner rules) f impls before after end values h
