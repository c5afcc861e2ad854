use Rattle.std.proofs.Common.{◌≡◌, ◌-◌, true, false, [], ◌∷◌, refl, ap, length, arith}
use Rattle.py_tree.specs.Statements.{place}
use Rattle.grammar_code.specs.Walk.{starts_with}
use Rattle.py_cursor.specs.token_kinds.Kinds.{kind}
use Rattle.py_cursor.specs.token_kinds.Numbers as k
use Rattle.py_cursor.specs.py_expressions.Values as v
use Rattle.py_cursor.specs.py_expressions.Sorts.{single}
use Rattle.py_cursor.specs.py_expressions.Lines.{atom_begins}
use Rattle.py_cursor.proofs.Loops.{first_takes}
use Rattle.py_expression_parser.proofs.Lines.{takes}
use Rattle.py_target_parser.specs.Aims.{places_of}
use Rattle.py_target_parser.proofs.Aims.{places_end, places_fails, places_next}
use Rattle.py_target_parser.proofs.reader.further.Goals as goal

pub returns-then-not-at_any-clause-reads : goal.returns-then-not-at_any-clause-reads
returns-then-not-at_any-clause-reads c = let b : starts_with kind atom_begins c.take_op.new.self.rest.now ≡ false = cc in places_end c.args.levels (places_of c.loop-comma.places, c.loop-comma.places.height) c.loop-comma.p.rest.now c.in-Some._comma.now c.take_op.new.self.rest.now (v.no_place (places_of c.loop-comma.places)) c.loop-comma.places.height _ c.loop-comma.invariant.unended c.in-Some.ensures b refl refl c.loop-comma.invariant.reads

pub returns-in_default-single-clause-reads : goal.returns-in_default-single-clause-reads
returns-in_default-single-clause-reads c = let b : starts_with kind atom_begins c.take_op.new.self.rest.now ≡ true = cc in places_fails c.args.levels (places_of c.loop-comma.places, c.loop-comma.places.height) c.loop-comma.p.rest.now c.in-Some._comma.now c.take_op.new.self.rest.now c.single.new.p.stop _ c.loop-comma.invariant.unended c.in-Some.ensures b c.in_default-single.ensures.reads c.loop-comma.invariant.reads

pub loop-comma-smaller : goal.loop-comma-smaller
loop-comma-smaller c = omega (arith, ap length c.in-Some-made.ensures.makes.1, first_takes (k.comma ∷ []) c.loop-comma.p.rest.now c.in-Some._comma.now c.take_op.new.self.rest.now c.in-Some.ensures, takes (c.args.levels - 1) single c.take_op.new.self.rest.now (place c.in-Some-single.next.single, c.in-Some-single.next.height) c.single.new.p.rest.now c.in-Some-single.ensures.reads)

pub loop-comma-preserved : goal.loop-comma-preserved
loop-comma-preserved c = let b : starts_with kind atom_begins c.take_op.new.self.rest.now ≡ true = cc in let r = rw c.in-Some-made.ensures.makes.0 at c.add_place.ensures.places in let h = rw c.in-Some-made.ensures.makes.0 at c.add_place.ensures.height in record {
  reads = rw (c.in-Some-made.ensures.makes.1) (places_next c.args.levels (places_of c.loop-comma.places, c.loop-comma.places.height) c.loop-comma.p.rest.now c.in-Some._comma.now c.take_op.new.self.rest.now (place c.in-Some-single.next.single, c.in-Some-single.next.height) c.single.new.p.rest.now (places_of c.in-Some-made.more) c.in-Some-made.more.height _ c.loop-comma.invariant.unended c.in-Some.ensures b c.in-Some-single.ensures.reads r h c.loop-comma.invariant.reads);
  unended = ap (λ r. r.ended) r;
  low = omega (arith, c.in-Some-single.ensures.fits, h, c.loop-comma.invariant.low);
}
