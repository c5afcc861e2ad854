use Rattle.std.proofs.Common.{◌≡◌, map, drop}
use Rattle.std.specs.Prelude.{bytes_eq, codes}
use Rattle.std.specs.List.{list_any}
use Rattle.collect_words.proofs.paths.is_up.Given as goal

abbrev pub invariant-loop-name : goal.invariant-loop-name
invariant-loop-name l =
    list_any (λ part. bytes_eq part (codes "..")) (map (λ name. name.items) l.names) ≡ list_any (λ part. bytes_eq part (codes "..")) (map (λ name. name.items) (drop l.name-index l.names))
