use Rattle.std.proofs.Common.{refl}
use Rattle.session_rules.specs.Hooks.{AllValues, InnerGave, InnerRaised}
use Rattle.collect_ids.specs.Hook.{id_runner}
use Rattle.collect_ids.proofs.Called.{given_value, resumed_as}
use Rattle.collect_ids.proofs.hook.resume_one.Goals as goal

pub returns-in-List-clause-run : goal.returns-in-List-clause-run
returns-in-List-clause-run c = λ value name.
    resumed_as (λ inside. (id_runner c.args.limit c.args.table.now value name).resume c.args.frame inside c.args.world.now) c.args.world.now c.with_value.new.world c.with_value.result c.args.inner AllValues
    (rw c.in-List.is refl) (c.with_value.ensures AllValues tt)

pub returns-in-Gave-clause-run : goal.returns-in-Gave-clause-run
returns-in-Gave-clause-run c = λ value name.
    resumed_as (λ inside. (id_runner c.args.limit c.args.table.now value name).resume c.args.frame inside c.args.world.now) c.args.world.now c.with_value-in-Gave.new.world c.with_value-in-Gave.result c.args.inner (InnerGave c.in-Gave.value)
    (rw c.in-Gave.is (given_value c.in-Gave.value)) (c.with_value-in-Gave.ensures (InnerGave c.in-Gave.value) tt)

pub returns-in-Raised-clause-run : goal.returns-in-Raised-clause-run
returns-in-Raised-clause-run c = λ value name.
    resumed_as (λ inside. (id_runner c.args.limit c.args.table.now value name).resume c.args.frame inside c.args.world.now) c.args.world.now c.with_exception.new.world c.with_exception.result c.args.inner (InnerRaised c.in-Raised.got)
    (rw c.in-Raised.is refl) (c.with_exception.ensures value name)

pub with_value-requires : goal.with_value-requires
with_value-requires c = record { out = rw c.in-List.is at c.requires.out }

pub with_value-requires-in-Gave : goal.with_value-requires-in-Gave
with_value-requires-in-Gave c = record { out = rw c.in-Gave.is at c.requires.out }

pub with_exception-requires : goal.with_exception-requires
with_exception-requires c = record { out = rw c.in-Raised.is at c.requires.out }
