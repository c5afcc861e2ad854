use Rattle.std.proofs.Common.{◌/◌, ◌++◌, sym, ap, ◌∙◌}
use Rattle.std.proofs.lemmas.List.{append_assoc}
use Rattle.collect_params.specs.Values.{hex_digits}
use Rattle.collect_params.proofs.Digits.{eight}
use Rattle.collect_params.proofs.escaping.push_eight.Goals as goal

pub returns : goal.returns
returns c =
    c.in_ok-push_four-2.ensures
    ∙ (ap (λ xs. xs ++ hex_digits 4 c.args.n) c.in_ok-push_four.ensures
    ∙ (append_assoc c.args.id.now.items (hex_digits 4 (c.args.n / 65536)) (hex_digits 4 c.args.n) ∙ ap (λ ys. c.args.id.now.items ++ ys) (sym (eight c.args.n))))
