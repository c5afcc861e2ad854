-- WHAT IS MADE, with the tokens behind it, and faults, as the code meets them.
use Rattle.std.proofs.Common.{[], ◌∷◌, ◌≡◌, ℕ, ◌≤◌, max, List, Option, Some, None, Result, Ok, Err, IfOk, IfSome, refl, sym, ap, ◌∙◌, subst}
use Rattle.py_tokens.specs.declared.token.Token.{Token}
use Rattle.py_tree.specs.declared.expr.ArgName.{ArgName}
use Rattle.py_tree.specs.Trees.{Tree, tree}
use Rattle.parsing.specs.Reading.{Read, Found, ◌>>=◌}
use Rattle.grammar_code.specs.Walk.{first_of, pick}
use Rattle.py_cursor.specs.token_kinds.Kinds.{kind}
use Rattle.py_cursor.specs.token_kinds.Numbers as k
use Rattle.py_cursor.specs.py_expressions.Values as v
use Rattle.py_nodes.specs.declared.node.Node.{Node}
use Rattle.py_nodes.specs.declared.parts.Arguments.{Arguments}
use Rattle.py_nodes.specs.declared.parts.Pairs.{Pairs}
use Rattle.py_nodes.specs.Parts.{args_of, pairs_of}
use Rattle.py_cursor.specs.declared.stop.Stop.{Stop}
use Rattle.py_cursor.specs.declared.parser.Parser.{Parser}
use Rattle.py_cursor.specs.Cursor.{FailsAs}
use Rattle.py_cursor.specs.Parser.{Gives, Makes}
use Rattle.py_cursor.proofs.Loops.{fails_on}
use Rattle.py_expression_parser.specs.Pieces.{assigned_on}

-- what is seen of what was made is what is read
pub made_reads : {X A E : Type 0} (see : X → A) (made : Result X E) (ts : List Token) (result : Option X) (p : Parser) (a : A) (read : Read Token A) → Makes made ts result p → IfOk made (λ x. see x ≡ a) → read ≡ Found a ts → Gives see result p read
made_reads see made ts (Some x) p a read b e f = f ∙ ap (λ z. Found z ts) (sym (subst (λ m. IfOk m (λ x. see x ≡ a)) b.0 e)) ∙ ap (λ z. Found (see x) z) (sym b.1)
made_reads see made ts None p a read b e f = subst (λ s. FailsAs s read) (sym b) tt

pub made_fits : {X E : Type 0} (P Q : X → Type 0) (made : Result X E) (ts : List Token) (result : Option X) (p : Parser) → Makes made ts result p → IfOk made P → ((x : X) → P x → Q x) → IfSome result Q
made_fits P Q made ts (Some x) p b e f = f x (subst (λ m. IfOk m P) b.0 e)
made_fits P Q made ts None p b e f = tt

abbrev some_name : ArgName → List Token → Option (ArgName × List Token)
some_name n ts = Some (n, ts)

abbrev none_named : Option (ArgName × List Token)
none_named = None

abbrev pub with_height : {A : Type 0} → A → ℕ → A × ℕ
with_height a h = (a, h)

abbrev pub seen_args : Arguments → v.Args × ℕ
seen_args a = (args_of a, a.all.height)

abbrev pub seen_pairs : Pairs → v.Pairs × ℕ
seen_pairs p = (pairs_of p, max p.names.height p.values.height)

abbrev pub seen : Node → Tree × ℕ
seen n = (tree n.expr.value, n.height)

both : {E : Type 0} (made : Result Node E) (t : Tree) (h : ℕ) → IfOk made (λ n. tree n.expr.value ≡ t) → IfOk made (λ n. n.height ≡ h) → IfOk made (λ n. seen n ≡ with_height t h)
both (Ok n) t h d e = ap (λ x. with_height x n.height) d ∙ ap (λ x. with_height t x) e
both (Err x) t h d e = tt

-- a node
pub node_reads : {E : Type 0} (made : Result Node E) (ts : List Token) (result : Option Node) (p : Parser) (t : Tree) (h : ℕ) (read : Read Token (Tree × ℕ)) → Makes made ts result p → IfOk made (λ n. tree n.expr.value ≡ t) → IfOk made (λ n. n.height ≡ h) → read ≡ Found (t, h) ts → Gives (λ x. (tree x.expr.value, x.height)) result p read
node_reads made ts result p t h read b d e f = made_reads seen made ts result p (with_height t h) read b (both made t h d e) f

-- arguments
pub args_reads : {E : Type 0} (made : Result Arguments E) (ts : List Token) (result : Option Arguments) (p : Parser) (t : v.Args) (h : ℕ) (read : Read Token (v.Args × ℕ)) → Makes made ts result p → IfOk made (λ a. args_of a ≡ t) → IfOk made (λ a. a.all.height ≡ h) → read ≡ Found (t, h) ts → Gives (λ x. (args_of x, x.all.height)) result p read
args_reads {E} made ts result p t h read b d e f = made_reads seen_args made ts result p (with_height t h) read b (all made d e) f
  where
    all : (made : Result Arguments E) → IfOk made (λ a. args_of a ≡ t) → IfOk made (λ a. a.all.height ≡ h) → IfOk made (λ a. seen_args a ≡ with_height t h)
    all (Ok a) d e = ap (λ x. with_height x a.all.height) d ∙ ap (λ x. with_height t x) e
    all (Err x) d e = tt

-- pairs
pub pairs_reads : {E : Type 0} (made : Result Pairs E) (ts : List Token) (result : Option Pairs) (p : Parser) (t : v.Pairs) (h l : ℕ) (read : Read Token (v.Pairs × ℕ)) → Makes made ts result p → IfOk made (λ p. pairs_of p ≡ t) → IfOk made (λ p. p.names.height ≡ h) → IfOk made (λ p. p.values.height ≡ l) → read ≡ Found (t, max h l) ts → Gives (λ x. (pairs_of x, max x.names.height x.values.height)) result p read
pairs_reads {E} made ts result p t h l read b d e i f = made_reads seen_pairs made ts result p (with_height t (max h l)) read b (all made d e i) f
  where
    all : (made : Result Pairs E) → IfOk made (λ p. pairs_of p ≡ t) → IfOk made (λ p. p.names.height ≡ h) → IfOk made (λ p. p.values.height ≡ l) → IfOk made (λ p. seen_pairs p ≡ with_height t (max h l))
    all (Ok p) d e i = ap (λ x. with_height x (max p.names.height p.values.height)) d ∙ ap (λ x. with_height t (max x p.values.height)) e ∙ ap (λ x. with_height t (max h x)) i
    all (Err x) d e i = tt

-- what was made, where it was
pub made_is : {X E : Type 0} (P : X → Type 0) (made : Result X E) (x : X) → made ≡ Ok x → IfOk made P → P x
made_is P made x e h = subst (λ m. IfOk m P) e h

-- a fault of a part is the fault of the whole
pub part_fails : {A B : Type 0} (stop : Stop) (part : Read Token A) (f : A × List Token → Read Token B) → FailsAs stop part → FailsAs stop (part >>= f)
part_fails stop part f d = fails_on stop part (part >>= f) f d refl

pub higher : {A : Type 0} (a : A) (h l : ℕ) (ts : List Token) → h ≡ l → Found (with_height a h) ts ≡ Found (with_height a l) ts
higher a h l ts e = ap (λ x. Found (with_height a x) ts) e

-- no name is assigned to
pub nameless : (e : Tree) (ts : List Token) → v.name_in e ≡ None → assigned_on e ts ≡ None
nameless e ts h = ap (λ a. pick (first_of kind (k.equal ∷ []) ts) (λ o. pick a (λ n. some_name n o.1) None) None) h ∙ nothing (first_of kind (k.equal ∷ []) ts)
  where
    nothing : (o : Option (Token × List Token)) → pick o (λ o. none_named) none_named ≡ none_named
    nothing (Some o) = refl
    nothing None = refl
