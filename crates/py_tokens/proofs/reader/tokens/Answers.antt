use Rattle.std.proofs.Common.{append_assoc, ◌-◌, ◌∷◌, [], ◌∙◌, ◌++◌, List, ℕ, sym, ap, length}
use Rattle.std.specs.Str.{chars}
use Rattle.std.specs.Prelude.{replicate}
use Rattle.py_tokens.specs.declared.token.TokenKind.TheVariants as kind
use Rattle.py_tokens.specs.Layout.{closing_tokens, token_at}
use Rattle.py_tokens.specs.Places.{place_behind}
use Rattle.py_tokens.proofs.Steps.{empty_length}
use Rattle.py_tokens.proofs.Texts.{all_read, start_read}
use Rattle.py_tokens.proofs.reader.tokens.Goals as goal

pub returns-clause-value : goal.returns-clause-value
returns-clause-value c =
    all_read c.loop-alloc.columns.items c.loop-alloc.tokens.items c.close.new.tokens.items (place_behind c.new-cursor.result.place c.new-cursor.result.rest.now) c.loop-alloc.cursor.place c.loop-alloc.cursor.rest.now _
    (empty_length (length c.loop-alloc.cursor.rest.now) (sym c.is_empty.ensures ∙ c.loop-alloc-test.false)) (sym c.loop-alloc.invariant.end)
    (c.loop-alloc.invariant.same (place_behind c.new-cursor.result.place c.new-cursor.result.rest.now)
    ∙ start_read (chars c.args.text.now) c.chars.result.now c.new-cursor.result.rest.now c.new-cursor.result.place (c.chars.ensures ∙ c.in_ok-source.ensures) c.new-cursor.ensures.rest c.new-cursor.ensures.place)
    (c.in_ok-close.ensures ∙ ap (λ (cs : List ℕ). c.loop-alloc.tokens.items ++ closing_tokens cs c.loop-alloc.cursor.place) c.deref.ensures.value)

pub returns-clause-ended : goal.returns-clause-ended
returns-clause-ended c = (
  c.loop-alloc.tokens.items ++ replicate (length c.deref.result.now - 1) (token_at kind.Dedent c.loop-alloc.cursor.place c.loop-alloc.cursor.place),
  c.loop-alloc.cursor.place,
  c.in_ok-close.ensures ∙ sym (append_assoc c.loop-alloc.tokens.items (replicate (length c.deref.result.now - 1) (token_at kind.Dedent c.loop-alloc.cursor.place c.loop-alloc.cursor.place)) (token_at kind.End c.loop-alloc.cursor.place c.loop-alloc.cursor.place ∷ [])),
)
