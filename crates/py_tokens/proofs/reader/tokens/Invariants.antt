use Rattle.std.proofs.Common.{◌≡◌, length, [], ◌∷◌}
use Rattle.py_tokens.specs.declared.place.Place.{Place}
use Rattle.py_tokens.specs.Places.{place_behind}
use Rattle.py_tokens.specs.Reading.{whole_from, lexer_state}
use Rattle.py_tokens.proofs.reader.tokens.Given as goal

abbrev pub invariant-loop-alloc : goal.invariant-loop-alloc
invariant-loop-alloc l = record {
  same : (end : Place) → whole_from (lexer_state l.tokens.items l.columns.items l.cursor.place l.cursor.rest.now) end ≡ whole_from (lexer_state [] (0 ∷ []) l.initial.cursor.place l.initial.cursor.rest.now) end;
  end : place_behind l.cursor.place l.cursor.rest.now ≡ place_behind l.initial.cursor.place l.initial.cursor.rest.now;
}

abbrev pub decreases-loop-alloc : goal.decreases-loop-alloc
decreases-loop-alloc l = length l.cursor.rest.now
