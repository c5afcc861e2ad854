-- A condition whose parts are kept, for the explanation of a failed assert.
use Rattle.std.specs.Prelude.{ℕ, suc, ◌+◌, List, [], ◌∷◌, ◌++◌}
use Rattle.py_tree.specs.Trees as t
use Rattle.py_tree.specs.Trees.{Tree, Trees, Empty, More}
use Rattle.source_meaning.specs.Expressions.{SourcePart, source_eval}
use Rattle.py_world.specs.Arguments.{arguments_of}
use Rattle.py_world.specs.Explained.{kept_count, kept_count_all}
use Rattle.py_world.specs.Expressions.{noted, unary_part, binary_part, compare_part, not_part, and_part, or_part, call_part, kept_part}
use Rattle.py_world.specs.Attributes.{attribute_part}

abbrev mutual
  -- WHAT A CONDITION DOES, whose parts are numbered from n on
  pub watch : ℕ → Tree → SourcePart
  watch n (t.Paren at e) = noted at (watch n e)
  watch n (t.Call at f args names) = kept_part n (noted at (call_part (watch (suc n) f) (arguments_of names) (watch_all (suc n + kept_count f) args)))
  watch n (t.Unary at op e) = noted at (unary_part op (watch n e))
  watch n (t.Binary at l op r) = noted at (binary_part (watch n l) op (watch (n + kept_count l) r))
  watch n (t.Compare at e ops es) = noted at (compare_part (watch n e) ops (watch_all (n + kept_count e) es))
  watch n (t.Not at e) = noted at (not_part (watch n e))
  watch n (t.And at e es) = noted at (and_part (watch n e) (watch_all (n + kept_count e) es))
  watch n (t.Or at e es) = noted at (or_part (watch n e) (watch_all (n + kept_count e) es))
  watch n (t.Name at name) = kept_part n (source_eval (t.Name at name))
  watch n (t.Number at x) = kept_part n (source_eval (t.Number at x))
  watch n (t.Text at text) = kept_part n (source_eval (t.Text at text))
  watch n (t.True at) = kept_part n (source_eval (t.True at))
  watch n (t.False at) = kept_part n (source_eval (t.False at))
  watch n (t.NoneTree at) = kept_part n (source_eval (t.NoneTree at))
  watch n (t.Tuple at es) = kept_part n (source_eval (t.Tuple at es))
  watch n (t.Listed at es) = kept_part n (source_eval (t.Listed at es))
  watch n (t.Dict at ks es) = kept_part n (source_eval (t.Dict at ks es))
  watch n (t.Attribute at e name) = kept_part n (noted at (attribute_part (watch (suc n) e) name))
  watch n (t.Subscript at e i) = kept_part n (source_eval (t.Subscript at e i))
  watch n (t.Slice at e from to by) = kept_part n (source_eval (t.Slice at e from to by))
  watch n (t.IfElse at e c o) = kept_part n (source_eval (t.IfElse at e c o))

  pub watch_all : ℕ → Trees → List SourcePart
  watch_all n Empty = []
  watch_all n (More before e) = watch_all n before ++ watch (n + kept_count_all before) e ∷ []
