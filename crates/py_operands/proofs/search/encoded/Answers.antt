use Rattle.std.proofs.Common.{◌≡◌, ◌∙◌, ◌+◌, ◌++◌, List, [], ◌∷◌, ℕ, sym, ap, arith, take}
use Rattle.py_operands.specs.Search.{encoded}
use Rattle.py_operands.proofs.Searching.{encoded_more, encoded_full}
use Rattle.py_operands.proofs.search.encoded.Goals as goal

pub loop-c-preserved : goal.loop-c-preserved
loop-c-preserved c =
    let more : encoded (take (c.loop-c.c-index + 1) c.args.text.now) ≡ encoded (take c.loop-c.c-index c.args.text.now) ++ encoded (c.c-item.result ∷ [])
    = rw (← c.c-item.is) at (encoded_more c.args.text.now c.loop-c.c-index c.c-item.result (omega arith)) in
    c.in_ok-push_encoded.ensures ∙ (ap (λ (l : List ℕ). l ++ encoded (c.c-item.result ∷ [])) c.loop-c.invariant ∙ sym more)

pub returns-clause-length : goal.returns-clause-length
returns-clause-length c = encoded_full c.args.text.now c.loop-c.bytes.items c.loop-c.c-index (omega arith) c.loop-c.invariant
