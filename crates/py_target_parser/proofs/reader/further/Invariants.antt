use Rattle.std.proofs.Common.{◌≡◌, ◌<◌, false, length}
use Rattle.py_target_parser.specs.Aims.{places_of, places_more}
use Rattle.py_target_parser.proofs.reader.further.Given as goal

abbrev pub invariant-loop-comma : goal.invariant-loop-comma
invariant-loop-comma l = record {
  reads : places_more l.levels (places_of l.places, l.places.height) l.p.rest.now ≡ places_more l.levels (places_of l.fn.places, l.fn.places.height) l.fn.p.rest.now;
  unended : l.places.ended ≡ false;
  low : l.places.height < l.levels;
}

abbrev pub decreases-loop-comma : goal.decreases-loop-comma
decreases-loop-comma l = length l.p.rest.now
