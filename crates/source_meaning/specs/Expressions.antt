-- What expressions do (Language Reference, expressions).
use Rattle.std.specs.Prelude.{List, [], ◌∷◌, ◌++◌, Option, Some, None, true, false}
use Rattle.py_values.specs.declared.value.Value.TheVariants as val
use Rattle.py_tree.specs.Trees as t
use Rattle.py_tree.specs.Trees.{Tree, Trees, Empty, More, Maybe, Absent, Present}
use Rattle.source_meaning.specs.Requests.{source_kinds}
use Rattle.py_world.specs.Arguments.{arguments_of}
use Rattle.py_world.specs.Outcome.{Denotation}
use Rattle.py_world.specs.Expressions.{noted, constant, name_part, text_part, unary_part, binary_part, compare_part, not_part, and_part, or_part, choice_part, call_part}
use Rattle.py_world.specs.Displays.{list_part, tuple_part, dict_part, subscript_part, slice_part}
use Rattle.py_world.specs.Attributes.{attribute_part}

abbrev pub SourcePart : Type 0
SourcePart = Denotation source_kinds

abbrev mutual
  -- WHAT AN EXPRESSION DOES
  pub source_eval : Tree → SourcePart
  source_eval (t.Name at name) = noted at (name_part name)
  source_eval (t.Number at n) = noted at (constant (val.Int n))
  source_eval (t.Text at text) = noted at (text_part text)
  source_eval (t.True at) = noted at (constant (val.Bool true))
  source_eval (t.False at) = noted at (constant (val.Bool false))
  source_eval (t.NoneTree at) = noted at (constant val.None)
  source_eval (t.Paren at e) = noted at (source_eval e)
  source_eval (t.Call at f args names) = noted at (call_part (source_eval f) (arguments_of names) (source_parts args))
  source_eval (t.Unary at op e) = noted at (unary_part op (source_eval e))
  source_eval (t.Binary at l op r) = noted at (binary_part (source_eval l) op (source_eval r))
  source_eval (t.Compare at e ops es) = noted at (compare_part (source_eval e) ops (source_parts es))
  source_eval (t.Not at e) = noted at (not_part (source_eval e))
  source_eval (t.And at e es) = noted at (and_part (source_eval e) (source_parts es))
  source_eval (t.Or at e es) = noted at (or_part (source_eval e) (source_parts es))
  source_eval (t.IfElse at e condition other) = noted at (choice_part (source_eval e) (source_eval condition) (source_eval other))
  source_eval (t.Tuple at es) = noted at (tuple_part (source_parts es))
  source_eval (t.Listed at es) = noted at (list_part (source_parts es))
  source_eval (t.Dict at ks es) = noted at (dict_part (source_parts ks) (source_parts es))
  source_eval (t.Attribute at e name) = noted at (attribute_part (source_eval e) name)
  source_eval (t.Subscript at e i) = noted at (subscript_part (source_eval e) (source_eval i))
  source_eval (t.Slice at e from to by) = noted at (slice_part (source_eval e) (some_source_part from) (some_source_part to) (some_source_part by))

  -- what each of them does
  pub source_parts : Trees → List SourcePart
  source_parts Empty = []
  source_parts (More before e) = source_parts before ++ source_eval e ∷ []

  pub some_source_part : Maybe → Option SourcePart
  some_source_part Absent = None
  some_source_part (Present e) = Some (source_eval e)
