use Rattle.std.proofs.Common.{◌≡◌, ◌∙◌, ◌<◌, ℕ, List, ap, arith, get_or, length, subst, sym}
use Rattle.std.specs.Prelude.{IfNone, IfSome}
use Rattle.fixture_table.specs.Index.{HoldsOfNone, IsLast, is_called}
use Rattle.fixture_table.specs.Marks.{row_of}
use Rattle.fixture_table.proofs.Grows.{row_read}
use Rattle.fixture_table.proofs.Index.{row_is}
use Rattle.fixture_table.proofs.Nearest.{above_more, last_is, nearest_low, nearest_within, parent_on, root_is}
use Rattle.fixture_table.proofs.looking.nearest.Goals as goal

pub last_called-requires-clause-row : goal.last_called-requires-clause-row
last_called-requires-clause-row c =
    let row : c.items.result.now ≡ row_of c.args.at_nodes.now c.loop-at.at = c.items.ensures ∙ row_read c.args.at_nodes.now c.loop-at.at c.index-at_nodes-at.result (omega (arith, c.requires.index.many, c.loop-at.invariant.within)) c.index-at_nodes-at.is in
    subst (λ (l : List ℕ). (q : ℕ) → q < length l → get_or l q 0 < length c.args.defs.now) (sym row) (λ q lt. (row_is c.args.nodes.now c.args.defs.now c.args.at_nodes.now c.requires.index c.loop-at.at q lt).0)

pub returns-in-Some-clause-answer : goal.returns-in-Some-clause-answer
returns-in-Some-clause-answer c =
    let row : c.items.result.now ≡ row_of c.args.at_nodes.now c.loop-at.at = c.items.ensures ∙ row_read c.args.at_nodes.now c.loop-at.at c.index-at_nodes-at.result (omega (arith, c.requires.index.many, c.loop-at.invariant.within)) c.index-at_nodes-at.is in
    last_is c.args.nodes.now c.args.defs.now c.args.name c.args.item c.args.beyond c.args.at_nodes.now c.requires.tree c.requires.index c.loop-at.at c.loop-at.invariant.within c.loop-at.invariant.on c.loop-at.invariant.above c.in-Some.place
    (subst (λ (l : List ℕ). IsLast (is_called c.args.nodes.now c.args.defs.now c.args.name c.args.beyond) l c.in-Some.place) row c.in-Some.ensures.found)

pub returns-in-Some-clause-within : goal.returns-in-Some-clause-within
returns-in-Some-clause-within c =
    let row : c.items.result.now ≡ row_of c.args.at_nodes.now c.loop-at.at = c.items.ensures ∙ row_read c.args.at_nodes.now c.loop-at.at c.index-at_nodes-at.result (omega (arith, c.requires.index.many, c.loop-at.invariant.within)) c.index-at_nodes-at.is in
    nearest_within c.args.nodes.now c.args.defs.now c.args.name c.args.item c.args.beyond c.in-Some.place
    (sym (last_is c.args.nodes.now c.args.defs.now c.args.name c.args.item c.args.beyond c.args.at_nodes.now c.requires.tree c.requires.index c.loop-at.at c.loop-at.invariant.within c.loop-at.invariant.on c.loop-at.invariant.above c.in-Some.place
    (subst (λ (l : List ℕ). IsLast (is_called c.args.nodes.now c.args.defs.now c.args.name c.args.beyond) l c.in-Some.place) row c.in-Some.ensures.found)))

pub loop-at-preserved : goal.loop-at-preserved
loop-at-preserved c =
    let row : c.items.result.now ≡ row_of c.args.at_nodes.now c.loop-at.at = c.items.ensures ∙ row_read c.args.at_nodes.now c.loop-at.at c.index-at_nodes-at.result (omega (arith, c.requires.index.many, c.loop-at.invariant.within)) c.index-at_nodes-at.is in
    record {
      within = (let up = c.requires.tree.behind c.loop-at.at (omega (arith, c.loop-at-test.true)) c.loop-at.invariant.within in let w = c.loop-at.invariant.within in omega (arith, up, w));
      on = parent_on c.args.nodes.now c.requires.tree c.args.item c.loop-at.at c.args.item (omega arith) c.requires.item c.loop-at-test.true c.loop-at.invariant.on;
      above = above_more c.args.nodes.now c.args.defs.now c.args.name c.args.item c.args.beyond c.args.at_nodes.now c.requires.tree c.requires.index c.loop-at.at c.loop-at.invariant.within c.loop-at.invariant.on c.loop-at.invariant.above
          (subst (λ (l : List ℕ). HoldsOfNone (is_called c.args.nodes.now c.args.defs.now c.args.name c.args.beyond) l) row c.in-None.ensures.none) c.loop-at-test.true;
    }

pub last_called-requires-2-clause-row : goal.last_called-requires-2-clause-row
last_called-requires-2-clause-row c =
    let row : c.items-2.result.now ≡ row_of c.args.at_nodes.now 0 = c.items-2.ensures ∙ row_read c.args.at_nodes.now 0 c.index-at_nodes-0.result (omega (arith, c.requires.index.many, c.loop-at.invariant.within)) c.index-at_nodes-0.is in
    subst (λ (l : List ℕ). (q : ℕ) → q < length l → get_or l q 0 < length c.args.defs.now) (sym row) (λ q lt. (row_is c.args.nodes.now c.args.defs.now c.args.at_nodes.now c.requires.index 0 q lt).0)

pub returns-clause-answer : goal.returns-clause-answer
returns-clause-answer c =
    let row : c.items-2.result.now ≡ row_of c.args.at_nodes.now c.loop-at.at = c.items-2.ensures ∙ (row_read c.args.at_nodes.now 0 c.index-at_nodes-0.result (omega (arith, c.requires.index.many, c.loop-at.invariant.within)) c.index-at_nodes-0.is ∙ ap (row_of c.args.at_nodes.now) (sym c.loop-at-test.false)) in
    root_is c.args.nodes.now c.args.defs.now c.args.name c.args.item c.args.beyond c.args.at_nodes.now c.requires.tree c.requires.index c.loop-at.at c.loop-at.invariant.within c.loop-at.invariant.on c.loop-at.invariant.above c.last_called-2.result c.loop-at-test.false
    (subst (λ (l : List ℕ). IfSome c.last_called-2.result (IsLast (is_called c.args.nodes.now c.args.defs.now c.args.name c.args.beyond) l)) row c.last_called-2.ensures.found)
    (subst (λ (l : List ℕ). IfNone c.last_called-2.result (HoldsOfNone (is_called c.args.nodes.now c.args.defs.now c.args.name c.args.beyond) l)) row c.last_called-2.ensures.none)

pub returns-clause-within : goal.returns-clause-within
returns-clause-within c =
    let row : c.items-2.result.now ≡ row_of c.args.at_nodes.now c.loop-at.at = c.items-2.ensures ∙ (row_read c.args.at_nodes.now 0 c.index-at_nodes-0.result (omega (arith, c.requires.index.many, c.loop-at.invariant.within)) c.index-at_nodes-0.is ∙ ap (row_of c.args.at_nodes.now) (sym c.loop-at-test.false)) in
    nearest_low c.args.nodes.now c.args.defs.now c.args.name c.args.item c.args.beyond c.last_called-2.result
    (root_is c.args.nodes.now c.args.defs.now c.args.name c.args.item c.args.beyond c.args.at_nodes.now c.requires.tree c.requires.index c.loop-at.at c.loop-at.invariant.within c.loop-at.invariant.on c.loop-at.invariant.above c.last_called-2.result c.loop-at-test.false
    (subst (λ (l : List ℕ). IfSome c.last_called-2.result (IsLast (is_called c.args.nodes.now c.args.defs.now c.args.name c.args.beyond) l)) row c.last_called-2.ensures.found)
    (subst (λ (l : List ℕ). IfNone c.last_called-2.result (HoldsOfNone (is_called c.args.nodes.now c.args.defs.now c.args.name c.args.beyond) l)) row c.last_called-2.ensures.none))
