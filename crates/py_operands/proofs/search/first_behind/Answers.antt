use Rattle.std.proofs.Common.{ℕ, List, ◌∙◌, ◌*◌, drop, ap}
use Rattle.std.proofs.lemmas.List.{take_rest}
use Rattle.py_operands.proofs.Searching.{encoded_drop}
use Rattle.py_operands.proofs.search.first_behind.Goals as goal

pub returns : goal.returns
returns c t p e g =
    c.first_encoded.ensures (drop c.args.from t) p
    (take_rest c.args.text.now (3 * c.args.from) ∙ (ap (λ (l : List ℕ). drop (3 * c.args.from) l) e ∙ encoded_drop t c.args.from)) g
