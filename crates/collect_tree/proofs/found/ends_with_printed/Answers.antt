use Rattle.std.proofs.Common.{◌++◌, ◌∷◌, [], arith, sym, ap, ◌∙◌}
use Rattle.collect_ids.specs.declared.files.AskedFile.{AskedFile}
use Rattle.collect_tree.proofs.Finds.{printed_done, printed_more, printed_none}
use Rattle.collect_tree.specs.Collection.{with_printed}
use Rattle.collect_tree.proofs.found.ends_with_printed.Goals as goal

pub returns-then-is_empty : goal.returns-then-is_empty
returns-then-is_empty c = printed_none c.args.asked.now c.loop-at.at c.loop-at.left.len c.loop-at.left.items c.loop-at.all.items _ (omega (arith, c.loop-at.left.ok.0)) c.if-is_empty.ensures c.loop-at.invariant

pub loop-at-preserved : goal.loop-at-preserved
loop-at-preserved c =
    printed_more c.args.asked.now c.loop-at.at c.loop-at.left.len c.index-asked-at.result c.remove-end.result c.loop-at.left.items _ c.loop-at.all.items _ _ (omega arith) c.index-asked-at.is
    (omega (arith, c.loop-at.left.ok.0)) c.if-is_empty.ensures c.remove-end.ensures.value c.remove-end.ensures.items c.loop-at.invariant
    (c.in_ok-push_printed.ensures ∙ ap (λ (x : AskedFile). c.loop-at.all.items ++ with_printed c.remove-end.result x.printed ∷ []) (sym c.index-asked-at.is))

pub returns : goal.returns
returns c = c.in_ok-append.ensures.items ∙ printed_done c.args.asked.now c.loop-at.at c.loop-at.left.items c.loop-at.all.items _ (omega arith) c.loop-at.invariant
