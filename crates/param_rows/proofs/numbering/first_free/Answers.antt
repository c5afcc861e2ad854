use Rattle.std.proofs.Common.{◌++◌, arith, sym, ◌∙◌, ap, not}
use Rattle.std.proofs.lemmas.List.{length-append}
use Rattle.param_rows.proofs.Free.{first_free_at, first_taken, not_all_taken}
use Rattle.param_rows.proofs.Tables.{taken_next}
use Rattle.param_rows.proofs.numbering.first_free.Goals as goal

pub loop-number-preserved : goal.loop-number-preserved
loop-number-preserved c =
    first_taken (c.args.ids.now ++ c.args.made.now) c.args.id.now c.in_ok-one.one c.loop-number.number c.in_ok-one.ensures c.is_free.result (c.is_free.ensures ∙ ap not (c.requires.same c.in_ok-one.one)) c.if-is_free.false c.loop-number.invariant

pub returns-then-is_free : goal.returns-then-is_free
returns-then-is_free c = record {
  value = first_free_at (c.args.ids.now ++ c.args.made.now) c.args.id.now c.in_ok-one.one c.loop-number.number c.in_ok-one.ensures (omega (arith, length-append c.args.ids.now c.args.made.now))
      (sym (c.is_free.ensures ∙ ap not (c.requires.same c.in_ok-one.one)) ∙ c.if-is_free.true) c.loop-number.invariant;
  next = taken_next c.args.ids.now c.args.made.now c.args.id.now c.in_ok-one.one c.loop-number.number c.in_ok-one.ensures c.loop-number.invariant;
}

pub unreachable-requires : goal.unreachable-requires
unreachable-requires c =
    let both = length-append c.args.ids.now c.args.made.now in
    not_all_taken c.args.id.now (c.args.ids.now ++ c.args.made.now) (omega arith) (λ k le. c.loop-number.invariant k (omega (arith, both)))
