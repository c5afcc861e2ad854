use Rattle.std.proofs.Common.{◌≡◌, drop}
use Rattle.std.specs.Prelude.{bytes_eq}
use Rattle.std.specs.List.{list_any}
use Rattle.collect_words.proofs.select.has_class.Given as goal

abbrev pub invariant-loop-class : goal.invariant-loop-class
invariant-loop-class l =
    list_any (λ class. bytes_eq class l.part) l.classes ≡ list_any (λ class. bytes_eq class l.part) (drop l.class-index l.classes)
