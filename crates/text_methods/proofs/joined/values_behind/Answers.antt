use Rattle.std.proofs.Common.{◌<◌, map, arith, refl, length}
use Rattle.text_methods.specs.Joins.{chars_of}
use Rattle.text_methods.specs.Pieces.{joined_behind}
use Rattle.text_methods.proofs.Rooms.{not_begun, begun, no_fit, fitted, fitted_all}
use Rattle.text_methods.proofs.joined.values_behind.Goals as goal

pub returns-then-not-begun : goal.returns-then-not-begun
returns-then-not-begun c =
    not_begun (chars_of c.args.heap.now c.args.first) (joined_behind c.args.sep.now (map (chars_of c.args.heap.now) c.args.rest.now)) _ _
    c.new-chars.ensures.items c.in_ok-begun.ensures.room c.if-not-begun.true

pub loop-v-init : goal.loop-v-init
loop-v-init c =
    let p = begun (chars_of c.args.heap.now c.args.first) _ _ _ c.new-chars.ensures.items c.in_ok-begun.ensures.room c.if-not-begun.false c.in_ok-begun.ensures.more in
    record { rest = rw p.0 refl; short = p.1 }

pub returns-then-not-fits : goal.returns-then-not-fits
returns-then-not-fits c =
    let lt : c.loop-v.v-index < length c.args.rest.now = omega arith in
    no_fit (chars_of c.args.heap.now) c.args.sep.now c.args.rest.now c.loop-v.v-index _ _ _ _ lt c.in_ok-fits.ensures.room c.if-not-fits.true c.loop-v.invariant.rest

pub loop-v-preserved : goal.loop-v-preserved
loop-v-preserved c =
    let lt : c.loop-v.v-index < length c.args.rest.now = omega arith in
    let p = fitted (chars_of c.args.heap.now) c.args.sep.now c.args.rest.now c.loop-v.v-index _ _ _ _ _ lt c.in_ok-fits.ensures.room c.if-not-fits.false c.in_ok-fits.ensures.more c.loop-v.invariant.rest in
    record { rest = p.0; short = p.1 }

pub returns : goal.returns
returns c =
    rw (c.in_ok-from_chars.ensures, c.deref.ensures.value)
    (fitted_all (chars_of c.args.heap.now) c.args.sep.now c.args.rest.now c.loop-v.v-index c.loop-v.chars.items _ (omega arith) c.loop-v.invariant.rest c.loop-v.invariant.short)
