-- How the ends of bodies that yield are told.
use Rattle.py_world.specs.Resuming as world
use Rattle.py_world.specs.declared.ended.Outcome.TheVariants as out
use Rattle.test_session.specs.declared.bodies.Begun.{Begun}
use Rattle.test_session.specs.declared.bodies.BegunOut.{BegunOut}
use Rattle.test_session.specs.declared.bodies.BegunOut.TheVariants.{Yielded, Value, Raised, Exhausted}

-- a body that is over has ended as a call does
abbrev pub out_told : BegunOut → world.BegunOut
out_told (Yielded v n) = world.Yielded v n
out_told (Value v) = world.Over (out.Value v)
out_told (Raised thrown) = world.Over (out.Raised thrown)
out_told (Exhausted trace) = world.Over (out.Exhausted trace)

abbrev pub begun_told : Begun → world.BegunBody
begun_told b = world.begun_with (out_told b.out) b.steps
