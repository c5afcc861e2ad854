use Rattle.std.proofs.Common.{◌∙◌, [], ℕ, List, ap, Global}
use Rattle.std.specs.declared.vec.Vec.{Vec}
use Rattle.collect_words.specs.Keys.{parts_with}
use Rattle.collect_words.proofs.Splits.{onto_nothing}
use Rattle.collect_words.proofs.paths.parts.Goals as goal

pub loop-byte-init : goal.loop-byte-init
loop-byte-init c =
    ap (λ (ns : List (Vec ℕ Global)). parts_with ns c.new-name.result.items c.args.path.now) c.new-names.ensures.items
    ∙ (ap (λ (n : List ℕ). parts_with [] n c.args.path.now) c.new-name.ensures.items ∙ onto_nothing c.args.path.now)
