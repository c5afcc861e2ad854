use Rattle.std.proofs.Common.{◌≡◌, ◌+◌, ◌∷◌, codes, take}
use Rattle.py_tree.specs.Trees.{trees}
use Rattle.py_world.specs.Explained.{joined_shows, kept_count_all, last_operand, last_pair, named_shows, show_all, show_evaluated}
use Rattle.assert_explain.specs.Texts.{joint_text}
use Rattle.assert_explain.proofs.parts.+part.Given as goal

abbrev pub invariant-show_args-loop-i : goal.invariant-show_args-loop-i
invariant-show_args-loop-i l = record {
  place : l.at ≡ l.n + kept_count_all (trees (take l.i l.es));
  so_far : l.all ≡ joined_shows (codes ", ") (named_shows l.names (show_all l.heap l.kept l.n (trees (take l.i l.es))));
}

abbrev pub invariant-show_others-loop-i : goal.invariant-show_others-loop-i
invariant-show_others-loop-i l = record {
  place : l.at ≡ l.n + kept_count_all (trees (take l.i l.es));
  so_far : l.all ≡ joined_shows (joint_text l.joint) (l.initial.all ∷ show_evaluated l.heap l.kept l.n (trees (take l.i l.es)));
}

abbrev pub invariant-show_pairs-loop-i : goal.invariant-show_pairs-loop-i
invariant-show_pairs-loop-i l = record {
  place : l.at ≡ l.n + kept_count_all (trees (take l.i l.es));
  last : l.last ≡ last_operand l.heap l.kept l.n l.initial.last (trees (take l.i l.es));
  pair : l.pair ≡ last_pair l.heap l.kept l.n l.initial.last l.ops (trees (take l.i l.es));
}
