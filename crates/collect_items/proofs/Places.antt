-- Nodes at their places.
use Rattle.std.proofs.Common.{◌≡◌, ℕ, List, [], ◌∷◌, ◌++◌, Option, Some, refl, sym, ap, ◌∙◌}
use Rattle.std.specs.Prelude.{slice_set, option_to_list}
use Rattle.collect_items.specs.Nodes.{with_nodes}
use Rattle.collect_words.specs.declared.nodes.FileNodes.{FileNodes}

with_last : (files : List (ℕ × FileNodes)) (place : ℕ) (file : FileNodes) (nodes : List FileNodes)
    → with_nodes (files ++ (place, file) ∷ []) nodes ≡ with_nodes files (slice_set nodes place file)
with_last [] place file nodes = refl
with_last (f ∷ files) place file nodes = ap (λ (ns : List FileNodes). slice_set ns f.0 f.1) (with_last files place file nodes)

-- the last file is put in its place
pub with_popped : (before files : List (ℕ × FileNodes)) (last : Option (ℕ × FileNodes)) (place : ℕ) (file : FileNodes) (nodes more all : List FileNodes)
    → before ≡ files ++ option_to_list last → last ≡ Some (place, file) → with_nodes before nodes ≡ all → more ≡ slice_set nodes place file → with_nodes files more ≡ all
with_popped before files last place file nodes more all b l is new =
    ap (with_nodes files) new
    ∙ (sym (with_last files place file nodes)
    ∙ (ap (λ (o : Option (ℕ × FileNodes)). with_nodes (files ++ option_to_list o) nodes) (sym l)
    ∙ (ap (λ (fs : List (ℕ × FileNodes)). with_nodes fs nodes) (sym b) ∙ is)))
