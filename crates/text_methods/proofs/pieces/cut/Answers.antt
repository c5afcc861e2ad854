use Rattle.std.proofs.Common.{ℕ, List, ◌≡◌, ◌≤◌, ◌∙◌, ◌+◌, ◌-◌, Some, None, refl, sym, arith, length, drop}
use Rattle.std.proofs.lemmas.List.{take_rest}
use Rattle.call_products.specs.py_operands.Search.{first_place}
use Rattle.text_methods.specs.Pieces.{cut_behind}
use Rattle.text_methods.proofs.Cutting.{cut_turn, turn_fits, cut_end}
use Rattle.text_methods.proofs.pieces.cut.Goals as goal

pub overflow_add-from : goal.overflow_add-from
overflow_add-from c =
    let e : first_place c.args.part.now 0 (drop c.loop-far.from c.args.text.now) ≡ Some c.in-Some.far
    = sym (c.in-Some.ensures c.args.text.now c.args.part.now (c.deref.ensures.value ∙ c.in_ok-bytes.ensures.value) (c.deref-in-loop-far.ensures.value ∙ c.in_ok-sought.ensures.value)) in
    let f : c.loop-far.from + c.in-Some.far + length c.args.part.now ≤ length c.args.text.now
    = turn_fits c.args.part.now c.args.text.now c.loop-far.from c.in-Some.far c.requires.some e c.loop-far.invariant.within in
    omega arith

pub slice_bounds-from_chars-end : goal.slice_bounds-from_chars-end
slice_bounds-from_chars-end c =
    let e : first_place c.args.part.now 0 (drop c.loop-far.from c.args.text.now) ≡ Some c.in-Some.far
    = sym (c.in-Some.ensures c.args.text.now c.args.part.now (c.deref.ensures.value ∙ c.in_ok-bytes.ensures.value) (c.deref-in-loop-far.ensures.value ∙ c.in_ok-sought.ensures.value)) in
    let f : c.loop-far.from + c.in-Some.far + length c.args.part.now ≤ length c.args.text.now
    = turn_fits c.args.part.now c.args.text.now c.loop-far.from c.in-Some.far c.requires.some e c.loop-far.invariant.within in
    omega arith

pub loop-far-smaller : goal.loop-far-smaller
loop-far-smaller c =
    let e : first_place c.args.part.now 0 (drop c.loop-far.from c.args.text.now) ≡ Some c.in-Some.far
    = sym (c.in-Some.ensures c.args.text.now c.args.part.now (c.deref.ensures.value ∙ c.in_ok-bytes.ensures.value) (c.deref-in-loop-far.ensures.value ∙ c.in_ok-sought.ensures.value)) in
    let f : c.loop-far.from + c.in-Some.far + length c.args.part.now ≤ length c.args.text.now
    = turn_fits c.args.part.now c.args.text.now c.loop-far.from c.in-Some.far c.requires.some e c.loop-far.invariant.within in
    omega (arith, c.requires.some)

pub loop-far-preserved : goal.loop-far-preserved
loop-far-preserved c =
    let text : List ℕ = c.args.text.now in
    let part : List ℕ = c.args.part.now in
    let from : ℕ = c.loop-far.from in
    let far : ℕ = c.in-Some.far in
    let e : first_place part 0 (drop from text) ≡ Some far
    = sym (c.in-Some.ensures text part (c.deref.ensures.value ∙ c.in_ok-bytes.ensures.value) (c.deref-in-loop-far.ensures.value ∙ c.in_ok-sought.ensures.value)) in
    let z : from + far - from ≡ far = omega arith in
    record {
      rest = rw (c.in_ok-push.ensures.items, c.in_ok-from_chars.ensures, z)
          (cut_turn part text (cut_behind part 0 text) c.loop-far.pieces.items from far (from + far + length part) c.requires.some e refl c.loop-far.invariant.rest);
      within = turn_fits part text from far c.requires.some e c.loop-far.invariant.within;
    }

pub returns : goal.returns
returns c =
    let text : List ℕ = c.args.text.now in
    let part : List ℕ = c.args.part.now in
    let from : ℕ = c.loop-far.from in
    let e : None ≡ first_place part 0 (drop from text)
    = c.in_default.ensures text part (c.deref.ensures.value ∙ c.in_ok-bytes.ensures.value) (c.deref-in-loop-far.ensures.value ∙ c.in_ok-sought.ensures.value) in
    rw (c.in_ok-push-2.ensures.items, c.in_ok-from_chars-2.ensures, take_rest text from)
    (sym (cut_end part text (cut_behind part 0 text) c.loop-far.pieces.items from e c.loop-far.invariant.rest))
