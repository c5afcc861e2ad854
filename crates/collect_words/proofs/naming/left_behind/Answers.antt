use Rattle.std.proofs.Common.{◌∙◌, ap, sym, length, drop}
use Rattle.std.specs.Prelude.{bytes_eq, ◌&&◌}
use Rattle.std.proofs.lemmas.List.{take_rest}
use Rattle.collect_words.proofs.Splits.{joined_front}
use Rattle.collect_words.proofs.naming.left_behind.Goals as goal

pub returns-then-not-starts_with : goal.returns-then-not-starts_with
returns-then-not-starts_with c = λ rest. joined_front c.args.front.now rest c.args.text.now ∙ ap (λ t. t && bytes_eq rest (drop (length c.args.front.now) c.args.text.now)) (sym c.starts_with.ensures.value ∙ c.if-not-starts_with.true)

pub returns : goal.returns
returns c = λ rest. joined_front c.args.front.now rest c.args.text.now ∙ (ap (λ t. t && bytes_eq rest (drop (length c.args.front.now) c.args.text.now)) (sym c.starts_with.ensures.value ∙ c.if-not-starts_with.false) ∙ ap (bytes_eq rest) (sym (take_rest c.args.text.now (length c.args.front.now))))
