-- How the calls tell of bodies that stop at a `yield`.
use Rattle.lower_law.specs.py_world.Resuming as world
use Rattle.py_machine.specs.declared.resuming.Begun.{Begun}
use Rattle.py_machine.specs.declared.resuming.BegunOut.{BegunOut}
use Rattle.py_machine.specs.declared.resuming.BegunOut.TheVariants.{Yielded, Over}
use Rattle.py_machine.specs.declared.resuming.Sent.{Sent}
use Rattle.py_machine.specs.declared.resuming.Sent.TheVariants.{Value, Throw}

-- a frozen frame is told by its number
abbrev pub told_out : BegunOut → world.BegunOut
told_out (Yielded v n) = world.Yielded v n
told_out (Over o) = world.Over o

abbrev pub told_begun : Begun → world.BegunBody
told_begun b = world.begun_with (told_out b.out) b.steps

abbrev pub sent_of : Sent → world.Sent
sent_of (Value v) = world.SentValue v
sent_of (Throw t) = world.SentThrow t
