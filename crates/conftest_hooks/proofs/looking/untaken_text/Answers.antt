use Rattle.std.proofs.Common.{◌++◌, ◌∙◌, List, ℕ, ap}
use Rattle.std.specs.Prelude.{codes}
use Rattle.std.proofs.lemmas.List.{append_assoc}
use Rattle.conftest_hooks.proofs.looking.untaken_text.Goals as goal

pub returns : goal.returns
returns c =
    let name = c.args.name.now in
    let argument = c.args.argument.now in
    let head = codes "hook '" in
    let between = codes "' has no argument '" in
    let end = codes "'" in
    let one = c.in_ok-push_ascii.ensures ∙ ap (λ (l : List ℕ). l ++ head) c.new-text.ensures.items in
    let two = c.in_ok-extend_from_slice.ensures.items ∙ ap (λ (l : List ℕ). l ++ name) one in
    let three = c.in_ok-push_ascii-2.ensures ∙ ap (λ (l : List ℕ). l ++ between) two in
    let four = c.in_ok-extend_from_slice-2.ensures.items ∙ ap (λ (l : List ℕ). l ++ argument) three in
    let five = c.in_ok-push_ascii-3.ensures ∙ ap (λ (l : List ℕ). l ++ end) four in
    c.from_vec.ensures
    ∙ (five ∙ ap (λ (l : List ℕ). head ++ l) (append_assoc (name ++ between) argument end ∙ append_assoc name between (argument ++ end)))
