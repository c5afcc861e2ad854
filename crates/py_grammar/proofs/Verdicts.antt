-- THE LAWS OF THE VERDICT: the reader's is one, no list of tokens has two, and a list that ends with the text's end has one.
use Rattle.std.proofs.Common.{◌≡◌, ℕ, ◌==◌, Bool, true, false, cond, List, [], ◌∷◌, ◌++◌, Some, refl, sym, ap, ◌∙◌, subst, arith, append_assoc, append-nil}
use Rattle.std.proofs.Math.Nat.{lt_of_not-le}
use Rattle.py_source.specs.Limits.{most_levels}
use Rattle.py_source.specs.declared.pos.Pos.{Pos}
use Rattle.py_expressions.specs.py_tokens.declared.token.Token.{Token}
use Rattle.py_expressions.specs.py_tokens.Layout.{EndsText}
use Rattle.py_tree.specs.Statements.{Block}
use Rattle.parsing.specs.Reading.{Read, Found, Bad, Deep, CanStart, CanGoOn}
use Rattle.parsing.specs.Answer.{FirstFault as Fault, FirstDeep}
use Rattle.parsing.proofs.Sets.{no_false}
use Rattle.grammar.specs.Table.{Reads as Reading, token, line, by_token, by_node, by_line, both, left, right, Line}
use Rattle.grammar.specs.Answer.{Within, Without}
use Rattle.py_expressions.specs.token_kinds.Kinds.{kind}
use Rattle.py_expressions.specs.token_kinds.Numbers as k
use Rattle.py_grammar.specs.Context.{misplaced, in_module, first_pos}
use Rattle.py_grammar.specs.Lines.{statements}
use Rattle.py_grammar.specs.Sorts as v
use Rattle.py_grammar.specs.Sorts.{source, stmts}
use Rattle.py_grammar.specs.Sources.{limited, unlimited, source_read, IsSourceReading}
use Rattle.py_grammar.specs.Verdict.{Source, Shallow, UnexpectedToken, FirstTooDeep, is_unsupported, Verdict, Accepted, Unexpected, Unsupported, Context, Nesting, IsVerdict, verdict_on, fault_at, verdict_by}
use Rattle.py_grammar.proofs.Heights.{reading_depth}
use Rattle.py_grammar.proofs.Laws.{source_answer, source_only, no_end_inside}
use Rattle.py_grammar.proofs.Levels.{limited_low, low_limited}

-- WITHIN THE LIMIT, by heights and by the tree
abbrev Low : List Token → Block × ℕ → Type 0
Low = Within statements (limited most_levels) 101 source

abbrev Any : List Token → Block × ℕ → Type 0
Any = Line statements unlimited source

to_shallow : (w : List Token) (x : Block × ℕ) → Low w x → Shallow w x.0
to_shallow w x d = let a = limited_low most_levels source w x d.0 in let h = reading_depth source w x a.0 in let e = a.1 in let l = d.1 in ((x.1, a.0), omega (arith, h, e, l))

of_shallow : (w : List Token) (b : Block) → Shallow w b → (h : ℕ) × Low w (b, h)
of_shallow w b d = let h = d.0.0 in let r = d.0.1 in let l = d.1 in let q = reading_depth source w (b, h) r in (h, (low_limited most_levels source w (b, h) r (omega (arith, l)), omega (arith, q, l)))

to_start : (w : List Token) → CanStart Low w → CanStart Shallow w
to_start w s = record { more = s.more; tree = s.tree.0; reads = to_shallow (w ++ s.more) s.tree s.reads }

of_start : (w : List Token) → CanStart Shallow w → CanStart Low w
of_start w s = let d = of_shallow (w ++ s.more) s.tree s.reads in record { more = s.more; tree = (s.tree, d.0); reads = d.1 }

-- FAULTS, and what is too deep, of the one kind and of the other
to_fault : (w : List Token) (t : Token) (rest : List Token) → Fault Low Any w (t ∷ rest) → UnexpectedToken w t
to_fault w t rest f = record { front = f.front; behind = rest; whole = f.whole; start = to_start f.front f.start; stops = λ z b r. f.stops z (b, r.0) r.1 }

of_fault : (w : List Token) (t : Token) (f : UnexpectedToken w t) → Fault Low Any w (t ∷ f.behind)
of_fault w t f = record { front = f.front; whole = f.whole; start = of_start f.front f.start; stops = λ z x r. f.stops z x.0 (x.1, r) }

to_too_deep : (w : List Token) (t : Token) (rest : List Token) → FirstDeep Low Any w (t ∷ rest) → FirstTooDeep w t
to_too_deep w t rest f = let e : t ≡ f.head = let d = f.rest_is in cc in record {
  front = f.front;
  behind = f.behind;
  whole = subst (λ v. w ≡ f.front ++ v ∷ f.behind) (sym e) f.whole;
  start = to_start f.front f.start;
  begins = subst (λ v. CanGoOn Source f.front v) (sym e) (record { more = f.wide.more; tree = f.wide.tree.0; reads = (f.wide.tree.1, f.wide.reads) });
  deep = λ z b r. lt_of_not-le (λ h. let d = of_shallow (f.front ++ t ∷ z) b (r, h) in f.narrow z (b, d.0) (subst (λ v. Low (f.front ++ v ∷ z) (b, d.0)) e d.1));
}

of_too_deep : (w : List Token) (t : Token) (f : FirstTooDeep w t) → FirstDeep Low Any w (t ∷ f.behind)
of_too_deep w t f = record {
  front = f.front;
  head = t;
  behind = f.behind;
  whole = f.whole;
  rest_is = refl;
  start = of_start f.front f.start;
  wide = record { more = f.begins.more; tree = (f.begins.tree, f.begins.reads.0); reads = f.begins.reads.1 };
  narrow = λ z x r. let d = to_shallow (f.front ++ t ∷ z) x r in let i = f.deep z x.0 d.0 in let j = d.1 in absurd (omega (arith, i, j));
}

-- THE READER'S VERDICT IS ONE
on_block : (w : List Token) (b : Block) (ps : List Pos) → misplaced in_module b ≡ ps → Shallow w b → IsVerdict w (verdict_on b ps)
on_block w b [] e r = (r, e)
on_block w b (at ∷ rest) e r = record { block = b; reads = r; first = ap first_pos e }

on_fault : (w : List Token) (t : Token) (rest : List Token) → Fault Low Any w (t ∷ rest) → IsVerdict w (fault_at t)
on_fault w t rest f = go (is_unsupported t) refl
  where
    go : (b : Bool) → is_unsupported t ≡ b → IsVerdict w (cond b (Unsupported t.at) (Unexpected t.at))
    go true e = (t, to_fault w t rest f, e, refl)
    go false e = (t, to_fault w t rest f, e, refl)

by_reading : (w : List Token) (x : Read Token (Block × ℕ)) (v : Verdict) → IsSourceReading most_levels w x → verdict_by x ≡ Some v → IsVerdict w v
by_reading w (Found x rest) v s e = let d : verdict_on x.0 (misplaced in_module x.0) ≡ v = cc in subst (λ v. IsVerdict w v) d (on_block w x.0 (misplaced in_module x.0) refl (to_shallow w x s.1))
by_reading w (Bad []) v s e = absurd (cc)
by_reading w (Bad (t ∷ rest)) v s e = let d : fault_at t ≡ v = cc in subst (λ v. IsVerdict w v) d (on_fault w t rest s)
by_reading w (Deep []) v s e = absurd (cc)
by_reading w (Deep (t ∷ rest)) v s e = let d : Nesting t.at ≡ v = cc in subst (λ v. IsVerdict w v) d (t, to_too_deep w t rest s, refl)

pub read_verdict : (w : List Token) (v : Verdict) → verdict_by (source_read most_levels w) ≡ Some v → IsVerdict w v
read_verdict w v e = by_reading w (source_read most_levels w) v (source_answer 99 w) e

-- AND EACH VERDICT IS THE READER'S
no_place : (b : Block) (ps : List Pos) → ps ≡ [] → verdict_on b ps ≡ Accepted b
no_place b ps e = ap (λ v. verdict_on b v) e

some_place : (b : Block) (at : Pos) (ps : List Pos) → first_pos ps ≡ Some at → verdict_on b ps ≡ Context at
some_place b at [] e = absurd (cc)
some_place b at (p ∷ rest) e = let d : p ≡ at = cc in ap (λ v. Context v) d

found : (w : List Token) (b : Block) → Shallow w b → (h : ℕ) × (source_read most_levels w ≡ Found (b, h) [])
found w b r = let d = of_shallow w b r in (d.0, source_only 99 w (Found (b, d.0) []) (refl, d.1))

fault_true : (t : Token) → is_unsupported t ≡ true → fault_at t ≡ Unsupported t.at
fault_true t e = ap (λ b. cond b (Unsupported t.at) (Unexpected t.at)) e

fault_false : (t : Token) → is_unsupported t ≡ false → fault_at t ≡ Unexpected t.at
fault_false t e = ap (λ b. cond b (Unsupported t.at) (Unexpected t.at)) e

pub verdict_read : (w : List Token) (v : Verdict) → IsVerdict w v → verdict_by (source_read most_levels w) ≡ Some v
verdict_read w (Accepted b) r = ap verdict_by (found w b r.0).1 ∙ ap (λ v. Some v) (no_place b (misplaced in_module b) r.1)
verdict_read w (Context at) r = ap verdict_by (found w r.block r.reads).1 ∙ ap (λ v. Some v) (some_place r.block at (misplaced in_module r.block) r.first)
verdict_read w (Unexpected at) r = ap verdict_by (source_only 99 w (Bad (r.0 ∷ r.1.behind)) (of_fault w r.0 r.1)) ∙ ap (λ v. Some v) (fault_false r.0 r.2 ∙ ap (λ v. Unexpected v) (sym r.3))
verdict_read w (Unsupported at) r = ap verdict_by (source_only 99 w (Bad (r.0 ∷ r.1.behind)) (of_fault w r.0 r.1)) ∙ ap (λ v. Some v) (fault_true r.0 r.2 ∙ ap (λ v. Unsupported v) (sym r.3))
verdict_read w (Nesting at) r = ap verdict_by (source_only 99 w (Deep (r.0 ∷ r.1.behind)) (of_too_deep w r.0 r.1)) ∙ ap (λ v. Some (Nesting v)) (sym r.2)

pub one_verdict : (w : List Token) (u v : Verdict) → IsVerdict w u → IsVerdict w v → u ≡ v
one_verdict w u v a b = let c : Some u ≡ Some v = sym (verdict_read w u a) ∙ verdict_read w v b in cc

-- THE TOKENS DON'T RUN OUT where the last is the text's end: that stands at the end of a reading and nowhere else.
record Ended (w : List Token) : Type 0 where
  front : List Token
  last : Token
  whole : w ≡ front ++ last ∷ []
  plain : Without kind k.end front

one_token : {S A : v.BlockSort} {F : List ℕ} {f : v.BlockValue S → Token → v.BlockValue A} {s : v.BlockValue S} {a : v.BlockValue A} {h i : ℕ} {w : List Token} → Reading statements unlimited S A (token F f) s h w a i → (t : Token) × (w ≡ t ∷ [])
one_token (by_token t e) = (t, refl)

plain_stmts : {S A : v.BlockSort} {f : v.BlockValue S → Block → v.BlockValue A} {s : v.BlockValue S} {a : v.BlockValue A} {h i : ℕ} {w : List Token} → Reading statements unlimited S A (line stmts f) s h w a i → Without kind k.end w
plain_stmts (by_line {w = w} {t = b} {k = j} d) = no_end_inside stmts refl w (b, j) d

source_ends : {w : List Token} {b : Block} {i : ℕ} → Reading statements unlimited statements.start (statements.sort source) (statements.body source) statements.empty 0 w b i → Ended w
source_ends (left (both (by_token t e) by_node)) = record { front = []; last = t; whole = refl; plain = tt }
source_ends (right (both {u = u} d e)) = let t = one_token e in record { front = u; last = t.0; whole = ap (λ v. u ++ v) t.1; plain = plain_stmts d }

-- what stands before another token has no end
not_inside : (f u z : List Token) (t s : Token) → (kind t == k.end) ≡ true → f ++ t ∷ z ≡ u ++ s ∷ [] → Without kind k.end u → z ≡ []
not_inside [] [] z t s e d p = cc
not_inside [] (c ∷ u) z t s e d p = let q : t ≡ c = cc in no_false (sym p.0 ∙ subst (λ v. (kind v == k.end) ≡ true) q e)
not_inside (c ∷ f) [] z t s e d p = absurd (no_cons f z t (let q : f ++ t ∷ z ≡ [] = cc in q))
  where
    no_cons : (f z : List Token) (t : Token) → f ++ t ∷ z ≡ [] → ⊥
    no_cons [] z t e = absurd (cc)
    no_cons (c ∷ f) z t e = absurd (cc)
not_inside (c ∷ f) (a ∷ u) z t s e d p = not_inside f u z t s e (cc) p.1

no_run_out : (w : List Token) → EndsText w → Fault Low Any w [] → ⊥
no_run_out w q f = let front : List Token = q.0 in let s = f.start in
    let whole : w ≡ f.front = f.whole ∙ append-nil f.front in
    let a = (to_shallow (f.front ++ s.more) s.tree s.reads).0 in
    let e = source_ends a.1 in
    let j : f.front ≡ front ++ _ ∷ [] = sym whole ∙ q.2 in
    let more : s.more ≡ [] = not_inside front e.front s.more _ e.last refl (sym (append_assoc front (_ ∷ []) s.more) ∙ ap (λ v. v ++ s.more) (sym j) ∙ e.whole) e.plain in
    f.stops (s.tree.0, a.0) (subst (λ v. Any v (s.tree.0, a.0)) (ap (λ v. f.front ++ v) more ∙ append-nil f.front) a.1)

some_verdict : (w : List Token) → EndsText w → (x : Read Token (Block × ℕ)) → IsSourceReading most_levels w x → (v : Verdict) × (verdict_by x ≡ Some v)
some_verdict w q (Found x rest) s = (verdict_on x.0 (misplaced in_module x.0), refl)
some_verdict w q (Bad []) s = absurd (no_run_out w q s)
some_verdict w q (Bad (t ∷ rest)) s = (fault_at t, refl)
some_verdict w q (Deep []) s = let d = s.rest_is in absurd (cc)
some_verdict w q (Deep (t ∷ rest)) s = (Nesting t.at, refl)

pub read_some : (w : List Token) → EndsText w → (v : Verdict) × (verdict_by (source_read most_levels w) ≡ Some v)
read_some w q = some_verdict w q (source_read most_levels w) (source_answer 99 w)

-- EXACTLY ONE
pub has_verdict : (w : List Token) → EndsText w → (v : Verdict) × IsVerdict w v
has_verdict w q = let s = read_some w q in (s.0, read_verdict w s.0 s.1)
