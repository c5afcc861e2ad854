use Rattle.std.proofs.Common.{refl, sym, ◌∙◌}
use Rattle.pytest_core.proofs.Ran.{answer_failed}
use Rattle.pytest_core.proofs.Streamed.{no_progress}
use Rattle.pytest_core.proofs.collected.interrupted.Goals as goal

pub returns : goal.returns
returns c = λ found numbers errors w failed.
    record {
      is = answer_failed c.args.options.now found numbers errors w _ _ c.requires.running failed c.new.ensures.items refl;
      whole = no_progress c.args.options.now _ _ c.new.ensures.items c.new-2.ensures.items;
    }
