use Rattle.std.proofs.Common.{◌∙◌, ◌∷◌, ℕ, List, ap, sym, eq-eqb, Global}
use Rattle.std.specs.declared.vec.Vec.{Vec}
use Rattle.collect_words.specs.Keys.{parts_with}
use Rattle.collect_words.proofs.Splits.{parts_slash, parts_byte, not_slash}
use Rattle.collect_words.proofs.paths.push_byte.Goals as goal

pub returns-then-byte-eq47 : goal.returns-then-byte-eq47
returns-then-byte-eq47 c = λ rest.
    ap (λ (v : Vec ℕ Global). parts_with c.args.names.now.items v.items (c.args.byte ∷ rest)) (sym c.replace-whole.ensures.value)
    ∙ (parts_slash c.args.names.now.items c.push.new.self.items c.replace-whole.result c.args.byte (eq-eqb c.args.byte 47 c.if-byte-eq47.true) c.in_ok-push.ensures.items rest
    ∙ ap (λ (n : List ℕ). parts_with c.push.new.self.items n rest) (sym (ap (λ (v : Vec ℕ Global). v.items) c.replace-whole.ensures.after ∙ c.new.ensures.items)))

pub returns : goal.returns
returns c = λ rest. parts_byte c.args.names.now.items c.args.name.now.items c.push-2.new.self.items c.args.byte (not_slash c.args.byte c.if-byte-eq47.false) c.in_ok-push-2.ensures.items rest
