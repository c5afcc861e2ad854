use Rattle.std.proofs.Common.{◌≡◌, ◌<◌, ◌≤◌, ◌∙◌, length, get_or, sym, arith}
use Rattle.std.specs.Str.{chars}
use Rattle.std.proofs.lemmas.Iterator.{YieldsList-from_chars}
use Rattle.std.proofs.lemmas.Iterator.Consumers.{YieldsList-turn, YieldsList-end}
use Rattle.std.proofs.lemmas.List.{length_push}
use Rattle.machine_state.proofs.Spelled.{spelled_on, spelled_other, spelled_short, spelled_over}
use Rattle.machine_state.proofs.sources.is_spelled.Goals as goal

pub returns-then-at-letters : goal.returns-then-at-letters
returns-then-at-letters c =
    let xs = chars c.args.text.now in
    let t = YieldsList-turn (YieldsList-from_chars c.args.text.now c.utf8.text cc) c.loop-c.yielded _ c.loop-c.yielded_by _ _ c.in-Some.c c.in-Some.is c.next.ensures.steps in
    let w : c.loop-c.at < length xs = omega (arith, t.0, c.loop-c.invariant.at) in
    let h : c.in-Some.c ≡ get_or xs c.loop-c.at c.in-Some.c = rw c.loop-c.invariant.at t.1 in
    sym (spelled_short xs c.args.letters.now c.loop-c.at c.in-Some.c w h c.if-at-letters.true) ∙ c.loop-c.invariant.same

pub returns-then-letters-at : goal.returns-then-letters-at
returns-then-letters-at c =
    let xs = chars c.args.text.now in
    let t = YieldsList-turn (YieldsList-from_chars c.args.text.now c.utf8.text cc) c.loop-c.yielded _ c.loop-c.yielded_by _ _ c.in-Some.c c.in-Some.is c.next.ensures.steps in
    let w : c.loop-c.at < length xs = omega (arith, t.0, c.loop-c.invariant.at) in
    let h : c.in-Some.c ≡ get_or xs c.loop-c.at c.in-Some.c = rw c.loop-c.invariant.at t.1 in
    sym (spelled_other xs c.args.letters.now c.loop-c.at c.in-Some.c c.index-letters-at.result w h c.if-at-letters.false c.index-letters-at.is c.if-letters-at.true) ∙ c.loop-c.invariant.same

pub loop-c-preserved : goal.loop-c-preserved
loop-c-preserved c =
    let xs = chars c.args.text.now in
    let t = YieldsList-turn (YieldsList-from_chars c.args.text.now c.utf8.text cc) c.loop-c.yielded _ c.loop-c.yielded_by _ _ c.in-Some.c c.in-Some.is c.next.ensures.steps in
    let w : c.loop-c.at < length xs = omega (arith, t.0, c.loop-c.invariant.at) in
    let h : c.in-Some.c ≡ get_or xs c.loop-c.at c.in-Some.c = rw c.loop-c.invariant.at t.1 in
    let g : c.in-Some.c ≡ get_or c.args.letters.now c.loop-c.at c.in-Some.c = rw c.if-letters-at.false at c.index-letters-at.is in
    record {
      at = omega (arith, c.loop-c.invariant.at, length_push c.loop-c.yielded c.in-Some.c);
      within = omega (arith, c.if-at-letters.false);
      same = sym (spelled_on xs c.args.letters.now c.loop-c.at c.in-Some.c w h c.if-at-letters.false g) ∙ c.loop-c.invariant.same;
    }

pub returns : goal.returns
returns c =
    let xs = chars c.args.text.now in
    let t = YieldsList-end (YieldsList-from_chars c.args.text.now c.utf8.text cc) c.loop-c.yielded _ c.loop-c.yielded_by _ _ c.in-None.is c.next.ensures.steps in
    let over : length xs ≤ c.loop-c.at = omega (arith, t.1, c.loop-c.invariant.at) in
    spelled_over xs c.args.letters.now c.loop-c.at over c.loop-c.invariant.within ∙ c.loop-c.invariant.same
