-- The explanation of a failed assert (pytest, assertion introspection): the values of the parts of its condition, which are numbered
-- in the order of the text.
use Rattle.std.specs.Prelude.{ℕ, zero, suc, ◌+◌, ◌-◌, List, [], ◌∷◌, ◌++◌, length, map, take, Bool, true, false, Option, Some, None, codes, is_some, nat_lt, if◌then◌else◌, slice_get}
use Rattle.py_tree.specs.declared.expr.ArgName.{ArgName}
use Rattle.py_tree.specs.declared.op.CmpOp.{CmpOp}
use Rattle.py_tree.specs.Trees as t
use Rattle.py_tree.specs.Trees.{Tree, Trees, Empty, More}
use Rattle.py_values.specs.declared.object.Obj.{Obj}
use Rattle.py_values.specs.declared.object.Obj.TheVariants as obj
use Rattle.py_values.specs.declared.value.Value.{Value}
use Rattle.py_values.specs.declared.value.Value.TheVariants as val
use Rattle.py_calls.specs.py_repr.Symbols.{char_of}
use Rattle.py_calls.specs.py_repr.Repr.{repr_of}
use Rattle.py_ops.specs.Binary.{binary_text}
use Rattle.py_ops.specs.Unary.{unary_text}
use Rattle.py_ops.specs.Compare.{compare_text}
use Rattle.py_world.specs.World.{Temps, value_at}

-- how many parts of a condition are kept; each has the number of those before it
abbrev mutual
  pub kept_count : Tree → ℕ
  kept_count (t.Paren at e) = kept_count e
  kept_count (t.Call at f args names) = suc (kept_count f + kept_count_all args)
  kept_count (t.Unary at op e) = kept_count e
  kept_count (t.Binary at l op r) = kept_count l + kept_count r
  kept_count (t.Compare at e ops es) = kept_count e + kept_count_all es
  kept_count (t.Not at e) = kept_count e
  kept_count (t.And at e es) = kept_count e + kept_count_all es
  kept_count (t.Or at e es) = kept_count e + kept_count_all es
  kept_count (t.Name at name) = 1
  kept_count (t.Number at n) = 1
  kept_count (t.Text at text) = 1
  kept_count (t.True at) = 1
  kept_count (t.False at) = 1
  kept_count (t.NoneTree at) = 1
  kept_count (t.Tuple at es) = 1
  kept_count (t.Listed at es) = 1
  kept_count (t.Dict at ks es) = 1
  kept_count (t.Attribute at e name) = suc (kept_count e)
  kept_count (t.Subscript at e i) = 1
  kept_count (t.Slice at e from to by) = 1
  kept_count (t.IfElse at e c o) = 1

  pub kept_count_all : Trees → ℕ
  kept_count_all Empty = 0
  kept_count_all (More before e) = kept_count_all before + kept_count e

-- the most characters of a value that are shown, and those that are left where it is cut
abbrev pub most_shown : ℕ
most_shown = 240

abbrev pub left_shown : ℕ
left_shown = most_shown - 3

-- a value as it is shown: its repr, or its first characters and three dots
abbrev pub shortened : List ℕ → List ℕ
shortened text = if nat_lt most_shown (length text) then take left_shown text ++ codes "..." else text

abbrev pub value_text : List Obj → Value → List ℕ
value_text heap v = shortened (map char_of (repr_of heap v))

-- a fact about a value, and how deep it stands below others, from 1
pub record Fact : Type 0 where
  pub depth : ℕ
  pub text : List ℕ

-- what is shown of a part: its text, and facts, each before those below it
pub record Explanation : Type 0 where
  pub text : List ℕ
  pub facts : List Fact

abbrev pub shows : List ℕ → List Fact → Explanation
shows text facts = record { text = text; facts = facts }

-- one level deeper
abbrev pub facts_below : List Fact → List Fact
facts_below [] = []
facts_below (f ∷ fs) = record { depth = suc f.depth; text = f.text } ∷ facts_below fs

-- a value, and the one fact of how it came
abbrev pub came_from : List ℕ → List ℕ → List Fact → Explanation
came_from text how facts = shows text (record { depth = 1; text = text ++ (codes " = " ++ how) } ∷ facts_below facts)

-- the name of a function, class, module or built-in function is shown as it is
abbrev pub is_shown_by_name : Option Obj → Bool
is_shown_by_name (Some (obj.Function x)) = true
is_shown_by_name (Some (obj.Class x)) = true
is_shown_by_name (Some (obj.Module x)) = true
is_shown_by_name (Some (obj.Builtin x)) = true
is_shown_by_name (Some (obj.Text x)) = false
is_shown_by_name (Some (obj.List x)) = false
is_shown_by_name (Some (obj.Tuple x)) = false
is_shown_by_name (Some (obj.Dict x)) = false
is_shown_by_name (Some (obj.Range x)) = false
is_shown_by_name (Some (obj.Method x)) = false
is_shown_by_name (Some (obj.Instance x)) = false
is_shown_by_name (Some (obj.Exception x)) = false
is_shown_by_name (Some (obj.Fixture x)) = false
is_shown_by_name (Some obj.MarkMaker) = false
is_shown_by_name (Some (obj.Mark x)) = false
is_shown_by_name (Some (obj.Hook x)) = false
is_shown_by_name (Some (obj.Param x)) = false
is_shown_by_name (Some (obj.Request x)) = false
is_shown_by_name (Some (obj.Raises x)) = false
is_shown_by_name (Some (obj.Info x)) = false
is_shown_by_name (Some (obj.Item x)) = false
is_shown_by_name None = false

abbrev pub value_is_shown_by_name : List Obj → Option Value → Bool
value_is_shown_by_name heap (Some (val.Ref id)) = is_shown_by_name (slice_get heap id.at)
value_is_shown_by_name heap (Some val.None) = false
value_is_shown_by_name heap (Some (val.Bool b)) = false
value_is_shown_by_name heap (Some (val.Int n)) = false
value_is_shown_by_name heap None = false

-- the texts of those that were evaluated, with a word between them, and their facts
abbrev pub joined_shows : List ℕ → List Explanation → Explanation
joined_shows word [] = shows [] []
joined_shows word (s ∷ []) = s
joined_shows word (s ∷ (r ∷ rest)) = let j : Explanation = joined_shows word (r ∷ rest) in shows (s.text ++ (word ++ j.text)) (s.facts ++ j.facts)

abbrev pub named_show : Option ArgName → Explanation → Explanation
named_show (Some n) s = shows (n.name ++ (codes "=" ++ s.text)) s.facts
named_show None s = s

abbrev pub named_shows : List (Option ArgName) → List Explanation → List Explanation
named_shows names [] = []
named_shows [] (s ∷ rest) = s ∷ named_shows [] rest
named_shows (n ∷ names) (s ∷ rest) = named_show n s ∷ named_shows names rest

abbrev pub pair_shows : List ℕ → Explanation → Explanation → Explanation
pair_shows word l r = shows (l.text ++ (codes " " ++ (word ++ (codes " " ++ r.text)))) (l.facts ++ r.facts)

abbrev pub compare_word : Option CmpOp → List ℕ
compare_word (Some op) = compare_text op
compare_word None = []

abbrev pub tree_count : Trees → ℕ
tree_count Empty = 0
tree_count (More before e) = suc (tree_count before)

module _ (heap : List Obj) (kept : Temps) where
  abbrev pub kept_value : ℕ → Option Value
  kept_value n = value_at (slice_get kept n)

  -- the value of a part; one that was not evaluated has no text
  abbrev pub kept_text : Option Value → List ℕ
  kept_text (Some v) = value_text heap v
  kept_text None = []

  abbrev pub leaf_show : ℕ → Explanation
  leaf_show n = shows (kept_text (kept_value n)) []

  -- whether a part was evaluated: its first part was
  abbrev pub evaluated : ℕ → Tree → Bool
  evaluated n (t.Paren at e) = evaluated n e
  evaluated n (t.Unary at op e) = evaluated n e
  evaluated n (t.Binary at l op r) = evaluated n l
  evaluated n (t.Compare at e ops es) = evaluated n e
  evaluated n (t.Not at e) = evaluated n e
  evaluated n (t.And at e es) = evaluated n e
  evaluated n (t.Or at e es) = evaluated n e
  evaluated n (t.Name at name) = is_some (kept_value n)
  evaluated n (t.Call at f args names) = is_some (kept_value n)
  evaluated n (t.Attribute at e name) = is_some (kept_value n)
  evaluated n (t.Number at x) = is_some (kept_value n)
  evaluated n (t.Text at text) = is_some (kept_value n)
  evaluated n (t.True at) = is_some (kept_value n)
  evaluated n (t.False at) = is_some (kept_value n)
  evaluated n (t.NoneTree at) = is_some (kept_value n)
  evaluated n (t.Tuple at es) = is_some (kept_value n)
  evaluated n (t.Listed at es) = is_some (kept_value n)
  evaluated n (t.Dict at ks es) = is_some (kept_value n)
  evaluated n (t.Subscript at e i) = is_some (kept_value n)
  evaluated n (t.Slice at e from to by) = is_some (kept_value n)
  evaluated n (t.IfElse at e c o) = is_some (kept_value n)

  abbrev mutual
    -- WHAT IS SHOWN of a part whose parts are numbered from n on
    pub show_part : ℕ → Tree → Explanation
    show_part n (t.Paren at e) = show_part n e
    show_part n (t.Name at name) = if value_is_shown_by_name heap (kept_value n) then shows name [] else leaf_show n
    show_part n (t.Call at f args names) =
        let callee : Explanation = show_part (suc n) f in
        let given : Explanation = joined_shows (codes ", ") (named_shows names (show_all (suc n + kept_count f) args)) in
        came_from (kept_text (kept_value n)) (callee.text ++ (codes "(" ++ (given.text ++ codes ")"))) (callee.facts ++ given.facts)
    show_part n (t.Unary at op e) = let s : Explanation = show_part n e in shows (unary_text op ++ s.text) s.facts
    show_part n (t.Binary at l op r) =
        let s : Explanation = pair_shows (binary_text op) (show_part n l) (show_part (n + kept_count l) r) in shows (codes "(" ++ (s.text ++ codes ")")) s.facts
    show_part n (t.Compare at e ops es) = last_pair (n + kept_count e) (show_part n e) ops es
    show_part n (t.Not at e) = let s : Explanation = show_part n e in shows (codes "not " ++ s.text) s.facts
    show_part n (t.And at e es) = let s : Explanation = joined_shows (codes " and ") (show_part n e ∷ show_evaluated (n + kept_count e) es) in shows (codes "(" ++ (s.text ++ codes ")")) s.facts
    show_part n (t.Or at e es) = let s : Explanation = joined_shows (codes " or ") (show_part n e ∷ show_evaluated (n + kept_count e) es) in shows (codes "(" ++ (s.text ++ codes ")")) s.facts
    show_part n (t.Attribute at e name) = let s : Explanation = show_part (suc n) e in came_from (kept_text (kept_value n)) (s.text ++ (codes "." ++ name)) s.facts
    show_part n (t.Number at x) = leaf_show n
    show_part n (t.Text at text) = leaf_show n
    show_part n (t.True at) = leaf_show n
    show_part n (t.False at) = leaf_show n
    show_part n (t.NoneTree at) = leaf_show n
    show_part n (t.Tuple at es) = leaf_show n
    show_part n (t.Listed at es) = leaf_show n
    show_part n (t.Dict at ks es) = leaf_show n
    show_part n (t.Subscript at e i) = leaf_show n
    show_part n (t.Slice at e from to by) = leaf_show n
    show_part n (t.IfElse at e c o) = leaf_show n

    pub show_all : ℕ → Trees → List Explanation
    show_all n Empty = []
    show_all n (More before e) = show_all n before ++ show_part (n + kept_count_all before) e ∷ []

    pub show_evaluated : ℕ → Trees → List Explanation
    show_evaluated n Empty = []
    show_evaluated n (More before e) = if evaluated (n + kept_count_all before) e then show_evaluated n before ++ show_part (n + kept_count_all before) e ∷ [] else show_evaluated n before

    -- the last operand of some behind a first one
    pub last_operand : ℕ → Explanation → Trees → Explanation
    last_operand n first Empty = first
    last_operand n first (More before e) = show_part (n + kept_count_all before) e

    -- a comparison, chained or not: the last pair that was compared
    pub last_pair : ℕ → Explanation → List CmpOp → Trees → Explanation
    last_pair n first ops Empty = first
    last_pair n first ops (More before e) =
        if evaluated (n + kept_count_all before) e
        then pair_shows (compare_word (slice_get ops (tree_count before))) (last_operand n first before) (show_part (n + kept_count_all before) e)
        else last_pair n first ops before

  abbrev pub fact_indent : ℕ → List ℕ
  fact_indent zero = []
  fact_indent (suc n) = codes "  " ++ fact_indent n

  -- a line a fact; the first of those below the same one has another word, and stands right behind it
  abbrev pub fact_lines : ℕ → List Fact → List ℕ
  fact_lines above [] = []
  fact_lines above (f ∷ fs) = codes "\n +" ++ (fact_indent f.depth ++ ((if nat_lt above f.depth then codes "where " else codes "and   ") ++ (f.text ++ fact_lines f.depth fs)))

  abbrev pub condition_text : Tree → List ℕ
  condition_text e = let s : Explanation = show_part 0 e in codes "assert " ++ (s.text ++ fact_lines 0 s.facts)

-- the message in front: its own text where it is one
abbrev pub text_or : List Obj → Value → Option Obj → List ℕ
text_or heap v (Some (obj.Text x)) = x
text_or heap v (Some (obj.List x)) = value_text heap v
text_or heap v (Some (obj.Tuple x)) = value_text heap v
text_or heap v (Some (obj.Dict x)) = value_text heap v
text_or heap v (Some (obj.Range x)) = value_text heap v
text_or heap v (Some (obj.Function x)) = value_text heap v
text_or heap v (Some (obj.Method x)) = value_text heap v
text_or heap v (Some (obj.Builtin x)) = value_text heap v
text_or heap v (Some (obj.Class x)) = value_text heap v
text_or heap v (Some (obj.Instance x)) = value_text heap v
text_or heap v (Some (obj.Exception x)) = value_text heap v
text_or heap v (Some (obj.Module x)) = value_text heap v
text_or heap v (Some (obj.Fixture x)) = value_text heap v
text_or heap v (Some obj.MarkMaker) = value_text heap v
text_or heap v (Some (obj.Mark x)) = value_text heap v
text_or heap v (Some (obj.Hook x)) = value_text heap v
text_or heap v (Some (obj.Param x)) = value_text heap v
text_or heap v (Some (obj.Request x)) = value_text heap v
text_or heap v (Some (obj.Raises x)) = value_text heap v
text_or heap v (Some (obj.Info x)) = value_text heap v
text_or heap v (Some (obj.Item x)) = value_text heap v
text_or heap v None = value_text heap v

abbrev pub message_shown : List Obj → Value → List ℕ
message_shown heap (val.Ref id) = text_or heap (val.Ref id) (slice_get heap id.at)
message_shown heap val.None = value_text heap val.None
message_shown heap (val.Bool b) = value_text heap (val.Bool b)
message_shown heap (val.Int z) = value_text heap (val.Int z)

abbrev pub message_before : List Obj → Option Value → List ℕ
message_before heap (Some m) = message_shown heap m ++ codes "\n"
message_before heap None = []

-- THE TEXT of a failed assert that is explained: from its condition, what was kept of it, its message, and the heap as it is then
unfoldable pub explanation : Tree → Temps → Option Value → List Obj → List ℕ
explanation e kept message heap = message_before heap message ++ condition_text heap kept e
