use Rattle.std.proofs.Common.{◌≡◌, ◌<◌, true, false, sym, ap, ◌∙◌, arith}
use Rattle.py_tree.specs.Trees.{tree}
use Rattle.py_tree.specs.Statements.{place}
use Rattle.grammar_code.specs.Walk.{starts_with}
use Rattle.py_cursor.specs.token_kinds.Kinds.{kind}
use Rattle.py_cursor.specs.py_expressions.Values.{place_in}
use Rattle.py_target_parser.specs.Aims.{aim_of, aim_tall}
use Rattle.py_target_parser.proofs.Aims.{goes_on, aims_deep_so, aims_fails, aims_next, aims_bad_so, aims_found_so, low_of, step_takes, single_found}
use Rattle.py_target_parser.proofs.reader.single.Goals as goal
use Rattle.py_target_parser.proofs.reader.single.Goals.{else-aim-via-then-aim+else-aim-levels, else-aim-via-else-aim}

pub returns-then-aim-levels-clause-reads : goal.returns-then-aim-levels-clause-reads
returns-then-aim-levels-clause-reads c = let n : starts_with kind goes_on c.loop-p.p.rest.now ≡ true = cc in let b : c.loop-p.aim.is_target ≡ true = cc in rw (c.stop_deep.ensures.stops) (aims_deep_so c.args.levels c.loop-p.aim.is_target (tree c.loop-p.aim.node.expr.value) c.loop-p.aim.node.height c.loop-p.p.rest.now _ b c.loop-p.invariant.place c.loop-p.aim.node.some (omega arith) n c.loop-p.invariant.reads)

pub returns-in_default-step-clause-reads : goal.returns-in_default-step-clause-reads
returns-in_default-step-clause-reads c = let n : starts_with kind goes_on c.loop-p.p.rest.now ≡ true = cc in let l : c.loop-p.aim.node.height < c.args.levels = elim c.else-aim.branch [ else-aim-via-then-aim+else-aim-levels w ↦ omega arith | else-aim-via-else-aim w ↦ low_of c.loop-p.aim.is_target c.loop-p.aim.node.height c.args.levels (cc) c.loop-p.invariant.fits ] in
    aims_fails c.args.levels c.loop-p.aim.is_target (tree c.loop-p.aim.node.expr.value) c.loop-p.aim.node.height c.loop-p.p.rest.now c.step.new.p.stop _ c.loop-p.invariant.place l n c.in_default-step.ensures.reads c.loop-p.invariant.reads

pub loop-p-smaller : goal.loop-p-smaller
loop-p-smaller c = step_takes c.args.levels (tree c.loop-p.aim.node.expr.value, c.loop-p.aim.node.height) c.loop-p.p.rest.now (aim_of c.in-Some-step.next.is_target (tree c.in-Some-step.next.node.expr.value), aim_tall c.in-Some-step.next.is_target c.in-Some-step.next.node.height) c.step.new.p.rest.now c.in-Some-step.ensures.reads

pub loop-p-preserved : goal.loop-p-preserved
loop-p-preserved c = let n : starts_with kind goes_on c.loop-p.p.rest.now ≡ true = cc in let l : c.loop-p.aim.node.height < c.args.levels = elim c.else-aim.branch [ else-aim-via-then-aim+else-aim-levels w ↦ omega arith | else-aim-via-else-aim w ↦ low_of c.loop-p.aim.is_target c.loop-p.aim.node.height c.args.levels (cc) c.loop-p.invariant.fits ] in record {
  reads = aims_next c.args.levels c.loop-p.aim.is_target (tree c.loop-p.aim.node.expr.value) c.loop-p.aim.node.height c.loop-p.p.rest.now (aim_of c.in-Some-step.next.is_target (tree c.in-Some-step.next.node.expr.value), aim_tall c.in-Some-step.next.is_target c.in-Some-step.next.node.height) c.step.new.p.rest.now _ c.loop-p.invariant.place l n c.in-Some-step.ensures.reads c.loop-p.invariant.reads;
  place = c.in-Some-step.ensures.place;
  fits = c.in-Some-step.ensures.fits;
}

pub returns-then-not-aim-clause-reads : goal.returns-then-not-aim-clause-reads
returns-then-not-aim-clause-reads c = let n : starts_with kind goes_on c.loop-p.p.rest.now ≡ false = cc in let b : c.loop-p.aim.is_target ≡ false = cc in aims_bad_so c.args.levels c.loop-p.aim.is_target (tree c.loop-p.aim.node.expr.value) c.loop-p.aim.node.height c.loop-p.p.rest.now _ b n c.loop-p.invariant.reads

pub returns-clause-reads : goal.returns-clause-reads
returns-clause-reads c = let n : starts_with kind goes_on c.loop-p.p.rest.now ≡ false = cc in let b : c.loop-p.aim.is_target ≡ true = cc in let f = rw c.in-Some-made.ensures.makes.0 at c.single_in.ensures in
    rw (c.in-Some-made.ensures.makes.1) (aims_found_so c.args.levels c.loop-p.aim.is_target (tree c.loop-p.aim.node.expr.value) c.loop-p.aim.node.height c.loop-p.p.rest.now (place c.in-Some-found.single) _ b (ap (λ e. place_in (tree e)) (sym c.deref.ensures) ∙ single_found (tree c.deref.result.now) c.in-Some-made.found c.in-Some-found.single c.in-Some-found.is f) n c.loop-p.invariant.reads)
