-- Worlds of sources are a set, since they have a code: an equation of two of them holds in one way.
use Rattle.std.proofs.Common.{List}
use Rattle.std.specs.Coded.{Coded-set, codes}
use Rattle.std.proofs.Props.{props}
use Rattle.py_source.specs.declared.pos.Pos.{Pos}
use Rattle.source_meaning.specs.py_world.Runs.{Told}
use Rattle.source_meaning.specs.py_world.Resuming.{ToldBegun}
use Rattle.source_meaning.specs.Requests.{source_kinds}
use Rattle.source_meaning.specs.Meaning.{SourceWorld}
use Rattle.source_meaning.proofs.Codes.{pos_code, world_code}

world-set : IsSet SourceWorld
world-set = Coded-set world_code

pos-set : IsSet Pos
pos-set = Coded-set pos_code

pub told-set : IsSet (Told source_kinds)
told-set = hlevel (codes, props, world-set)

pub begun-set : IsSet (ToldBegun source_kinds)
begun-set = hlevel (codes, props, world-set)

pub tape-set : IsSet (List Pos)
tape-set = hlevel (pos-set, props)
