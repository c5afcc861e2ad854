use Rattle.std.proofs.Common.{◌≡◌, ◌∷◌, ◌++◌, [], ap, arith, length, length-append, refl, sym, subst, ◌∙◌, ◌<◌, List, ℕ, set}
use Rattle.std.proofs.lemmas.List.{length-set}
use Rattle.fixture_table.specs.Index.{IsIndex}
use Rattle.fixture_table.specs.Marks.{row_of}
use Rattle.fixture_table.specs.Nearest.{StandAtNodes}
use Rattle.fixture_table.specs.declared.types.FixtureDef.{FixtureDef}
use Rattle.fixture_table.proofs.Index.{index_push, stand_push}
use Rattle.fixture_table.proofs.table.Table.add.Goals as goal

pub invariant_of-self-2 : goal.invariant_of-self-2
invariant_of-self-2 c =
    let nodes = c.self.inside.nodes.items in
    let defs = c.self.inside.defs.items in
    let rows = c.self.inside.at_nodes.items in
    let pushed : c.push.new.self.items ≡ defs ++ c.args.def ∷ [] = rw (c.push.ensures.items, c.unwrap.ensures, c.in_ok-reserve.ensures.items) refl in
    let counted : c.len-number.result ≡ length defs = omega (arith, c.len-number.ensures, c.self.inside.defs.ok) in
    let low = c.if-len.false in
    let there : c.args.def.node < length nodes = omega (arith, c.requires, ap (λ v. length v.nodes) c.self.view_is) in
    let there_row : c.args.def.node < length rows = omega (arith, c.requires, c.self.invariant.index.many, ap (λ v. length v.nodes) c.self.view_is) in
    let is : c.push_at.new.rows.items ≡ set rows c.args.def.node (row_of rows c.args.def.node ++ length defs ∷ []) = c.in_ok-push_at.ensures.ok ∙ ap (λ (n : ℕ). set rows c.args.def.node (row_of rows c.args.def.node ++ n ∷ [])) counted in
    let same : length c.push_at.new.rows.items ≡ length rows = ap (λ (l : List (List ℕ)). length l) is ∙ length-set rows c.args.def.node (row_of rows c.args.def.node ++ length defs ∷ []) in
    record {
      tree = c.self.invariant.tree;
      stand = subst (λ (l : List FixtureDef). StandAtNodes nodes l) (sym pushed) (stand_push nodes defs c.args.def c.self.invariant.stand there);
      few = (let n = ap (λ (l : List FixtureDef). length l) pushed in let a = length-append defs (c.args.def ∷ []) in omega (arith, n, a, low, c.len.ensures));
      index = subst (λ (l : List FixtureDef). IsIndex nodes l c.push_at.new.rows.items) (sym pushed) (index_push nodes defs rows c.args.def c.self.invariant.index there_row c.push_at.new.rows.items is same);
    }
