-- No two parameters of a function that is read have one name.
use Rattle.std.proofs.Common.{◌≡◌, ◌∙◌, ℕ, Bool, true, false, not, ◌&&◌, ◌||◌, List, [], ◌∷◌, ◌++◌, refl, sym, ap}
use Rattle.std.specs.List.{list_any}
use Rattle.std.specs.Str.{bytes_eq}
use Rattle.std.proofs.lemmas.Bool.{false≢true, false_from_ne_true, or_from, or_parts}
use Rattle.std.proofs.lemmas.Slice.Eq.{bytes_eq-Decides}
use Rattle.py_source.specs.declared.pos.Pos.{Pos}
use Rattle.py_tree.specs.Trees.{Maybe, Trees}
use Rattle.py_tree.specs.Statements.{Block, Parameter, Parameter_at, Def}
use Rattle.py_tree.specs.Names.{globals_of, is_among}
use Rattle.py_grammar.specs.Context.{StatementContext, in_function, in_maybe, in_params, in_trees, is_function, is_present, misplaced, misplaced_in, unless}
use Rattle.lower_law.specs.py_world.Definitions.{Written, with_defaults}
use Rattle.py_values.specs.declared.value.Value.{Value}
use Rattle.lower_law.specs.source_meaning.Statements.{source_written}
use Rattle.py_bind.specs.Binding.{is_parameter}
use Rattle.core_rules.specs.Bindings.{NamesDiffer, formals}
use Rattle.read_law.specs.Yielding.{YieldsStand}
use Rattle.read_law.proofs.Parts.{no_front, no_end, unless_is}
use Rattle.read_law.proofs.Standing.{IsPlaced}
use Rattle.read_law.proofs.Yielding.{yields_stand}

-- NAMES of parameters as they are written
abbrev has_name : List Written → List ℕ → Bool
has_name ws n = list_any (λ w. bytes_eq w.0 n) ws

abbrev AllDiffer : List Written → Type 0
AllDiffer [] = Unit {0}
AllDiffer (w ∷ ws) = (has_name ws w.0 ≡ false) × AllDiffer ws

-- whatever the defaults are
named_same : (ws : List Written) (vs : List Value) (n : List ℕ) → is_parameter (formals (with_defaults ws vs)) n ≡ has_name ws n
named_same [] vs n = refl
named_same ((name, false) ∷ ws) vs n = ap (λ (b : Bool). bytes_eq name n || b) (named_same ws vs n)
named_same ((name, true) ∷ ws) [] n = ap (λ (b : Bool). bytes_eq name n || b) (named_same ws [] n)
named_same ((name, true) ∷ ws) (v ∷ vs) n = ap (λ (b : Bool). bytes_eq name n || b) (named_same ws vs n)

names_differ : (ws : List Written) (vs : List Value) → AllDiffer ws → NamesDiffer (with_defaults ws vs)
names_differ [] vs d = tt
names_differ ((name, false) ∷ ws) vs d = (named_same ws vs name ∙ d.0, names_differ ws vs d.1)
names_differ ((name, true) ∷ ws) [] d = (named_same ws [] name ∙ d.0, names_differ ws [] d.1)
names_differ ((name, true) ∷ ws) (v ∷ vs) d = (named_same ws vs name ∙ d.0, names_differ ws vs d.1)

-- NAMES THAT STAND ONCE
turned : (a b : List ℕ) → bytes_eq a b ≡ false → bytes_eq b a ≡ false
turned a b h = false_from_ne_true (bytes_eq b a) (λ e. false≢true (sym h ∙ (bytes_eq-Decides a b).1 (sym ((bytes_eq-Decides b a).0 e))))

-- no parameter has one of these names
abbrev NoneOf : List (List ℕ) → List Parameter → Type 0
NoneOf before [] = Unit {0}
NoneOf before (Parameter_at at name annotation default ∷ ps) = (is_among before name ≡ false) × NoneOf before ps

among_parts : (before : List (List ℕ)) (m name : List ℕ) → is_among (before ++ m ∷ []) name ≡ false → (is_among before name ≡ false) × (bytes_eq m name ≡ false)
among_parts [] m name h = (refl, (or_parts (bytes_eq m name) false h).0)
among_parts (b ∷ before) m name h =
    let o = or_parts (bytes_eq b name) (is_among (before ++ m ∷ []) name) h in
    let r = among_parts before m name o.1 in
    (or_from (bytes_eq b name) (is_among before name) o.0 r.0, r.1)

none_of_front : (before : List (List ℕ)) (m : List ℕ) (ps : List Parameter) → NoneOf (before ++ m ∷ []) ps → NoneOf before ps
none_of_front before m [] h = tt
none_of_front before m (Parameter_at at name annotation default ∷ ps) h = ((among_parts before m name h.0).0, none_of_front before m ps h.1)

none_of_last : (before : List (List ℕ)) (m : List ℕ) (ps : List Parameter) → NoneOf (before ++ m ∷ []) ps → has_name (source_written ps) m ≡ false
none_of_last before m [] h = refl
none_of_last before m (Parameter_at at name annotation default ∷ ps) h =
    or_from (bytes_eq name m) (has_name (source_written ps) m) (turned m name (among_parts before m name h.0).1) (none_of_last before m ps h.1)

not_true : (b : Bool) → not b ≡ true → b ≡ false
not_true true h = absurd (false≢true h)
not_true false h = refl

abbrev is_wrong : List (List ℕ) → List (List ℕ) → Bool → List ℕ → Maybe → Bool
is_wrong globals before defaulted name default = (is_among before name || is_among globals name) || (defaulted && not (is_present default))

abbrev behind_one : List (List ℕ) → List (List ℕ) → Bool → List ℕ → Maybe → List Parameter → List Pos
behind_one globals before defaulted name default ps = in_params globals (before ++ name ∷ []) (defaulted || is_present default) ps

first_is_new : (globals before : List (List ℕ)) (defaulted : Bool) (at : Pos) (name : List ℕ) (default : Maybe) (places : List Pos) → unless (not (is_wrong globals before defaulted name default)) at ++ places ≡ [] → is_among before name ≡ false
first_is_new globals before defaulted at name default places h =
    let ok = not_true (is_wrong globals before defaulted name default) (unless_is (not (is_wrong globals before defaulted name default)) at (no_front (unless (not (is_wrong globals before defaulted name default)) at) places h)) in
    (or_parts (is_among before name) (is_among globals name) (or_parts (is_among before name || is_among globals name) (defaulted && not (is_present default)) ok).0).0

differ : (globals before : List (List ℕ)) (defaulted : Bool) (ps : List Parameter) → in_params globals before defaulted ps ≡ [] → NoneOf before ps × AllDiffer (source_written ps)
differ globals before defaulted [] h = (tt, tt)
differ globals before defaulted (Parameter_at at name annotation default ∷ ps) h =
    let r = differ globals (before ++ name ∷ []) (defaulted || is_present default) ps
    (no_end (in_maybe default) (behind_one globals before defaulted name default ps)
    (no_end (in_maybe annotation) (in_maybe default ++ behind_one globals before defaulted name default ps)
    (no_end (unless (not (is_wrong globals before defaulted name default)) at) (in_maybe annotation ++ (in_maybe default ++ behind_one globals before defaulted name default ps)) h))) in
    ((first_is_new globals before defaulted at name default (in_maybe annotation ++ (in_maybe default ++ behind_one globals before defaulted name default ps)) h, none_of_front before name ps r.0), (none_of_last before name ps r.0, r.1))

-- A FUNCTION THAT STANDS WHERE IT MAY
abbrev behind_params : List Parameter → Maybe → Block → List Pos
behind_params params returns body = in_params (globals_of body) [] false params ++ (in_maybe returns ++ misplaced in_function body)

head_of : (w : StatementContext) (at word : Pos) (decorators : Trees) (name : List ℕ) (params : List Parameter) (returns : Maybe) (body : Block) → misplaced_in w (Def at decorators word name params returns body) ≡ [] → behind_params params returns body ≡ []
head_of w at word decorators name params returns body h =
    no_end (in_trees decorators) (behind_params params returns body) (no_end (unless (not (is_function w.scope)) at) (in_trees decorators ++ behind_params params returns body) h)

pub parameters_differ : (at word : Pos) (decorators : Trees) (name : List ℕ) (params : List Parameter) (returns : Maybe) (body : Block) → IsPlaced (Def at decorators word name params returns body) → (values : List Value) → NamesDiffer (with_defaults (source_written params) values)
parameters_differ at word decorators name params returns body h values =
    names_differ (source_written params) values
    (differ (globals_of body) [] false params (no_front (in_params (globals_of body) [] false params) (in_maybe returns ++ misplaced in_function body) (head_of h.0 at word decorators name params returns body h.1))).1

pub body_yields_stand : (at word : Pos) (decorators : Trees) (name : List ℕ) (params : List Parameter) (returns : Maybe) (body : Block) → IsPlaced (Def at decorators word name params returns body) → YieldsStand body
body_yields_stand at word decorators name params returns body h =
    yields_stand in_function body
    (no_end (in_maybe returns) (misplaced in_function body)
    (no_end (in_params (globals_of body) [] false params) (in_maybe returns ++ misplaced in_function body) (head_of h.0 at word decorators name params returns body h.1)))
