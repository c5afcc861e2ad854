use Rattle.std.proofs.Common.{◌≡◌, ◌<◌, ◌/◌, ◌%◌, ℕ, get_or, length, arith, vec_len}
use Rattle.machine_expr.proofs.Pairs.{next_key, next_value}
use Rattle.machine_expr.proofs.containers.pair_part.Goals as goal

some_left : (n : ℕ) → (n ≡ 0 → ⊥) → 0 < n
some_left n h = omega (arith, h)

pub returns-then-at-eq0 : goal.returns-then-at-eq0
returns-then-at-eq0 c =
    let at = c.args.at in
    let e = c.index.result.now in
    let a : at / 2 < vec_len c.args.ks.now.value = rw (c.len.ensures, c.deref.ensures) at c.if-pair-len.false in
    let b : at / 2 < vec_len c.args.es.now.value = rw (c.len-else-pair-len.ensures, c.deref-else-pair-len.ensures) at c.if-pair-len-2.false in
    let p : at / 2 < length c.args.ks.now.value.items = omega (arith, a, c.args.ks.now.value.ok) in
    let q : at / 2 < length c.args.es.now.value.items = omega (arith, b, c.args.es.now.value.ok) in
    let h : e ≡ get_or c.args.ks.now.value.items (at / 2) e = rw c.deref-then-at-eq0.ensures at c.index.ensures in
    next_key c.args.ks.now c.args.es.now at e c.in_ok-clone.field-0 c.if-at-eq0.true p q h c.in_ok-clone.ensures.cases

pub returns : goal.returns
returns c =
    let at = c.args.at in
    let e = c.index-2.result.now in
    let a : at / 2 < vec_len c.args.ks.now.value = rw (c.len.ensures, c.deref.ensures) at c.if-pair-len.false in
    let b : at / 2 < vec_len c.args.es.now.value = rw (c.len-else-pair-len.ensures, c.deref-else-pair-len.ensures) at c.if-pair-len-2.false in
    let p : at / 2 < length c.args.ks.now.value.items = omega (arith, a, c.args.ks.now.value.ok) in
    let q : at / 2 < length c.args.es.now.value.items = omega (arith, b, c.args.es.now.value.ok) in
    let h : e ≡ get_or c.args.es.now.value.items (at / 2) e = rw c.deref-2.ensures at c.index-2.ensures in
    next_value c.args.ks.now c.args.es.now at e c.in_ok-clone-2.field-0 (some_left (at % 2) c.if-at-eq0.false) p q h c.in_ok-clone-2.ensures.cases
