-- What the forms do keeps sameness: of parts that do the same, each form makes one that does the same.
use Rattle.std.proofs.Common.{ℕ, List, [], ◌∷◌, ◌++◌, Option, Some, None, Bool, true, false, refl, ap}
use Rattle.std.specs.Prelude.{cond, nat_lt, length, not, codes}
use Rattle.explain_law.proofs.Until as until
use Rattle.explain_law.proofs.Following as following
use Rattle.explain_law.proofs.Runs.{spend_all_same}
use Rattle.py_source.specs.declared.pos.Pos.{Pos}
use Rattle.py_tree.specs.declared.op.BinOp.{BinOp}
use Rattle.py_tree.specs.declared.op.UnOp.{UnOp}
use Rattle.py_tree.specs.declared.op.CmpOp.{CmpOp}
use Rattle.py_values.specs.declared.end.Effect.{Effect}
use Rattle.py_values.specs.declared.end.Effect.TheVariants.{Give, New, Put, Fail}
use Rattle.py_values.specs.declared.end.Raise.{Raise}
use Rattle.py_values.specs.declared.object.Obj.{Obj}
use Rattle.py_values.specs.declared.value.Value.{Value}
use Rattle.py_values.specs.declared.value.Value.TheVariants as val
use Rattle.py_values.specs.Ends.{cost_of}
use Rattle.py_values.specs.Raises.{text_raise}
use Rattle.py_values.specs.Limits.{most_elements}
use Rattle.py_values.specs.declared.class.ExcClass.TheVariants.{MemoryError}
use Rattle.source_meaning.specs.py_kinds.Truth.{truth}
use Rattle.source_meaning.specs.py_ops.Binary.{binary_of}
use Rattle.source_meaning.specs.py_ops.Unary.{unary_of}
use Rattle.source_meaning.specs.py_ops.Compare.{compare_of}
use Rattle.source_meaning.specs.py_world.declared.trace.TraceFrame.{TraceFrame}
use Rattle.source_meaning.specs.py_world.World.{Temps, CallState, heap_of, back_to, with_temp, set_at}
use Rattle.source_meaning.specs.py_world.Site.{Site, trace_of, around_of}
use Rattle.source_meaning.specs.py_world.Arguments.{Arguments}
use Rattle.source_meaning.specs.py_world.Outcome.{Outcome, Gave, Rest, Continuation, Denotation, Ways, route, onward, raised, made, call_end, on_value, if_true, costing, operated}
use Rattle.source_meaning.specs.py_world.Names.{value_of_name, name_end}
use Rattle.source_meaning.specs.py_world.Expressions.{noted, constant, kept_part, name_part, text_part, unary_part, binary_part, compared, compare_on, compare_part, not_part, and_on, and_part, or_on, or_part, choice_part, called, call_on, call_part}
use Rattle.explain_law.specs.Choices as alike
use Rattle.explain_law.specs.Choices.{Choices, K, J, worlds, StatesByChoice, states, TwoTemps, Tied, EndsByChoice, gave, next, returned, broke, continued}
use Rattle.explain_law.proofs.Following.{Apart, SpentByChoice, out, PausedByChoice, RequestsByChoice, calls, does}

set_tied : (m : Bool) (i : ℕ) (v : Value) (t u : Temps) → Tied m t u → Tied m (set_at i v t) (set_at i v u)
set_tied true i v t u h = ap (set_at i v) h
set_tied false i v t u h = tt

-- nothing is kept
pub tied_none : (m : Bool) → Tied m [] []
tied_none true = refl
tied_none false = tt

abbrev pub none_kept : (m : Bool) → TwoTemps m
none_kept m = record { first = []; second = []; tied = tied_none m }

module _ (R : Choices) (P : Apart) (m : Bool) where
  abbrev pub States : CallState K → CallState J → Type 0
  States = StatesByChoice R m

  abbrev pub Ends : Outcome K → Outcome J → Type 0
  Ends = EndsByChoice R m

  abbrev pub Follow : Rest K → Rest J → Type 0
  Follow = following.Follow R P

  -- whatever is kept
  pub loosen : {s : CallState K} {r : CallState J} → States s r → StatesByChoice R false s r
  loosen (states a t ws) = states a (record { first = t.first; second = t.second; tied = tt }) ws

  pub loosen_end : {o : Outcome K} {q : Outcome J} → Ends o q → EndsByChoice R false o q
  loosen_end (gave v ss) = gave v (loosen ss)
  loosen_end (next ss) = next (loosen ss)
  loosen_end (returned v ss) = returned v (loosen ss)
  loosen_end (broke ss) = broke (loosen ss)
  loosen_end (continued ss) = continued (loosen ss)
  loosen_end (alike.raised e trace ss) = alike.raised e trace (loosen ss)

  -- what follows two parts
  abbrev pub Behind : Continuation K → Continuation J → Type 0
  Behind k l = (o : Outcome K) (q : Outcome J) → Ends o q → Follow (k o) (l q)

  -- two parts that do the same
  pub record PartSame (e : Denotation K) (f : Denotation J) : Type 0 where
    pub does : (p : Site) {s : CallState K} {r : CallState J} → States s r → (k : Continuation K) (l : Continuation J) → Behind k l → Follow (e p s k) (f p r l)

  pub data PartsSame : List (Denotation K) → List (Denotation J) → Type 0 where
    none : PartsSame [] []
    more : {e : Denotation K} {f : Denotation J} {es : List (Denotation K)} {fs : List (Denotation J)} → PartSame e f → PartsSame es fs → PartsSame (e ∷ es) (f ∷ fs)

  -- what follows two parts in each way
  pub record WaysSame (w : Ways K) (x : Ways J) : Type 0 where
    pub gave : (v : Value) (s : CallState K) (r : CallState J) → States s r → Follow (w.gave v s) (x.gave v r)
    pub next : (s : CallState K) (r : CallState J) → States s r → Follow (w.next s) (x.next r)
    pub returned : (v : Value) (s : CallState K) (r : CallState J) → States s r → Follow (w.returned v s) (x.returned v r)
    pub broke : (s : CallState K) (r : CallState J) → States s r → Follow (w.broke s) (x.broke r)
    pub continued : (s : CallState K) (r : CallState J) → States s r → Follow (w.continued s) (x.continued r)
    pub raised : (e : Value) (trace : List TraceFrame) (s : CallState K) (r : CallState J) → States s r → Follow (w.raised e trace s) (x.raised e trace r)

  pub route_same : {w : Ways K} {x : Ways J} → WaysSame w x → {o : Outcome K} {q : Outcome J} → Ends o q → Follow (route w o) (route x q)
  route_same w (gave v ss) = w.gave v _ _ ss
  route_same w (next ss) = w.next _ _ ss
  route_same w (returned v ss) = w.returned v _ _ ss
  route_same w (broke ss) = w.broke _ _ ss
  route_same w (continued ss) = w.continued _ _ ss
  route_same w (alike.raised e trace ss) = w.raised e trace _ _ ss

  pub onward_same : (k : Continuation K) (l : Continuation J) → Behind k l → WaysSame (onward k) (onward l)
  onward_same k l h =
      record { gave = λ v s r ss. h _ _ (gave v ss); next = λ s r ss. h _ _ (next ss); returned = λ v s r ss. h _ _ (returned v ss); broke = λ s r ss. h _ _ (broke ss); continued = λ s r ss. h _ _ (continued ss); raised = λ e trace s r ss. h _ _ (alike.raised e trace ss) }

  pub value_same : {o : Outcome K} {q : Outcome J} → Ends o q → (k : Continuation K) (l : Continuation J) → Behind k l → (go : Value → CallState K → Rest K) (go' : Value → CallState J → Rest J) → ((v : Value) (s : CallState K) (r : CallState J) → States s r → Follow (go v s) (go' v r)) → Follow (on_value o k go) (on_value q l go')
  value_same n k l h go go' g =
      let w : WaysSame (onward k) (onward l) = onward_same k l h in
      route_same (record { gave = g; next = w.next; returned = w.returned; broke = w.broke; continued = w.continued; raised = w.raised }) n

  pub if_same : (b : Bool) (x y : Rest K) (x' y' : Rest J) → Follow x x' → Follow y y' → Follow (if_true b x y) (if_true b x' y')
  if_same true x y x' y' h g = h
  if_same false x y x' y' h g = g

  pub truth_same : (v : Value) {s : CallState K} {r : CallState J} → States s r → (x y : Rest K) (x' y' : Rest J) → Follow x x' → Follow y y' → Follow (if_true (truth (heap_of s) v) x y) (if_true (truth (heap_of r) v) x' y')
  truth_same v (states a t (worlds ss cs fs modules heap printed traces)) x y x' y' h g = if_same (truth heap v) x y x' y' h g

  pub raised_same : (r : Raise) (trace : List TraceFrame) {s : CallState K} {z : CallState J} → States s z → Ends (raised r trace s) (raised r trace z)
  raised_same r trace (states a t (worlds ss cs fs modules heap printed traces)) = alike.raised _ trace (states a t (worlds ss cs fs modules _ printed traces))

  pub made_same : (x : Effect) (trace : List TraceFrame) {s : CallState K} {r : CallState J} → States s r → Ends (made x trace s) (made x trace r)
  made_same (Give v n) trace ss = gave v ss
  made_same (New o n) trace (states a t (worlds ss cs fs modules heap printed traces)) = gave _ (states a t (worlds ss cs fs modules _ printed traces))
  made_same (Put id c v n) trace (states a t (worlds ss cs fs modules heap printed traces)) = gave v (states a t (worlds ss cs fs modules _ printed traces))
  made_same (Fail r n) trace ss = raised_same r trace ss

  pub costing_same : (x : Effect) (trace : List TraceFrame) {s : CallState K} {r : CallState J} → States s r → (k : Continuation K) (l : Continuation J) → Behind k l → Follow (costing x trace s k) (costing x trace r l)
  costing_same x trace ss k l h =
      spend_all_same (SpentByChoice R) (RequestsByChoice R) (EndsByChoice R false) (PausedByChoice R) P (cost_of x) _ _ _ _ (out trace (loosen ss)) (h _ _ (made_same x trace ss))

  pub operated_same : (f : List Obj → Effect) (p : Site) {s : CallState K} {r : CallState J} → States s r → (k : Continuation K) (l : Continuation J) → Behind k l → Follow (operated (f (heap_of s)) p s k) (operated (f (heap_of r)) p r l)
  operated_same f p (states a t (worlds ss cs fs modules heap printed traces)) k l h =
      until.spend (out (trace_of p) (loosen (states a t (worlds ss cs fs modules heap printed traces)))) (costing_same (f heap) (trace_of p) (states a t (worlds ss cs fs modules heap printed traces)) k l h)

  pub noted_same : (at : Pos) {e : Denotation K} {f : Denotation J} → PartSame e f → PartSame (noted at e) (noted at f)
  noted_same at e = record { does = λ p ss k l h. until.note at (e.does p ss k l h) }

  pub constant_same : (v : Value) → PartSame (constant v) (constant v)
  constant_same v = record { does = λ p ss k l h. h _ _ (gave v ss) }

  -- the value of a name is decided by the local names and the heap
  pub name_end_same : (name : List ℕ) (p : Site) {s : CallState K} {r : CallState J} → States s r → Ends (name_end name p s) (name_end name p r)
  name_end_same name p (states a t (worlds ss cs fs modules heap printed traces)) =
      made_same (value_of_name name p.scene a heap) (trace_of p) (states a t (worlds ss cs fs modules heap printed traces))

  pub name_same : (name : List ℕ) → PartSame (name_part name) (name_part name)
  name_same name = record { does = λ p ss k l h. h _ _ (name_end_same name p ss) }

  pub follow_cond : (b : Bool) (x y : Rest K) (x' y' : Rest J) → Follow x x' → Follow y y' → Follow (cond b x y) (cond b x' y')
  follow_cond true x y x' y' h g = h
  follow_cond false x y x' y' h g = g

  text_does : (text : List ℕ) (p : Site) {s : CallState K} {r : CallState J} → States s r → (k : Continuation K) (l : Continuation J) → Behind k l → Follow (text_part text p s k) (text_part text p r l)
  text_does text p (states a t (worlds ss cs fs modules heap printed traces)) k l h =
      follow_cond (nat_lt most_elements (length text)) _ _ _ _ (h _ _ (raised_same (text_raise MemoryError (codes "sequence too long")) (trace_of p) (states a t (worlds ss cs fs modules heap printed traces)))) (h _ _ (gave _ (states a t (worlds ss cs fs modules _ printed traces))))

  pub text_same : (text : List ℕ) → PartSame (text_part text) (text_part text)
  text_same text = record { does = λ p ss k l h. text_does text p ss k l h }

  pub unary_same : (op : UnOp) {e : Denotation K} {f : Denotation J} → PartSame e f → PartSame (unary_part op e) (unary_part op f)
  unary_same op e = record { does = λ p ss k l h. e.does p ss _ _ (λ o q n. value_same n k l h _ _ (λ x s r ss. operated_same (λ heap. unary_of op heap x) p ss k l h)) }

  pub binary_same : (op : BinOp) {e e' : Denotation K} {f f' : Denotation J} → PartSame e f → PartSame e' f' → PartSame (binary_part e op e') (binary_part f op f')
  binary_same op e e' = record { does = λ p ss k l h. e.does p ss _ _ (λ o q n. value_same n k l h _ _ (λ x s r ss. e'.does p ss _ _ (λ o q n. value_same n k l h _ _ (λ y s r ss. operated_same (λ heap. binary_of op heap x y) p ss k l h)))) }

  gave_not : (x : Value) {s : CallState K} {r : CallState J} → States s r → Ends (Gave (val.Bool (not (truth (heap_of s) x))) s) (Gave (val.Bool (not (truth (heap_of r) x))) r)
  gave_not x (states a t (worlds ss cs fs modules heap printed traces)) = gave _ (states a t (worlds ss cs fs modules heap printed traces))

  pub not_same : {e : Denotation K} {f : Denotation J} → PartSame e f → PartSame (not_part e) (not_part f)
  not_same e = record { does = λ p ss k l h. e.does p ss _ _ (λ o q n. value_same n k l h _ _ (λ x s r ss. h _ _ (gave_not x ss))) }

  pub choice_same : {e c e' : Denotation K} {f d f' : Denotation J} → PartSame e f → PartSame c d → PartSame e' f' → PartSame (choice_part e c e') (choice_part f d f')
  choice_same e c e' = record { does = λ p ss k l h. c.does p ss _ _ (λ o q n. value_same n k l h _ _ (λ v s r ss. truth_same v ss _ _ _ _ (e.does p ss k l h) (e'.does p ss k l h))) }

  and_on_same : {es : List (Denotation K)} {fs : List (Denotation J)} → PartsSame es fs → (p : Site) {o : Outcome K} {q : Outcome J} → Ends o q → (k : Continuation K) (l : Continuation J) → Behind k l → Follow (and_on es p o k) (and_on fs p q l)
  and_on_same none p n k l h = h _ _ n
  and_on_same (more e es) p n k l h = value_same n k l h _ _ (λ v s r ss. truth_same v ss _ _ _ _ (e.does p ss _ _ (λ o q n. and_on_same es p n k l h)) (h _ _ (gave v ss)))

  or_on_same : {es : List (Denotation K)} {fs : List (Denotation J)} → PartsSame es fs → (p : Site) {o : Outcome K} {q : Outcome J} → Ends o q → (k : Continuation K) (l : Continuation J) → Behind k l → Follow (or_on es p o k) (or_on fs p q l)
  or_on_same none p n k l h = h _ _ n
  or_on_same (more e es) p n k l h = value_same n k l h _ _ (λ v s r ss. truth_same v ss _ _ _ _ (h _ _ (gave v ss)) (e.does p ss _ _ (λ o q n. or_on_same es p n k l h)))

  pub and_same : {e : Denotation K} {f : Denotation J} {es : List (Denotation K)} {fs : List (Denotation J)} → PartSame e f → PartsSame es fs → PartSame (and_part e es) (and_part f fs)
  and_same e es = record { does = λ p ss k l h. e.does p ss _ _ (λ o q n. and_on_same es p n k l h) }

  pub or_same : {e : Denotation K} {f : Denotation J} {es : List (Denotation K)} {fs : List (Denotation J)} → PartSame e f → PartsSame es fs → PartSame (or_part e es) (or_part f fs)
  or_same e es = record { does = λ p ss k l h. e.does p ss _ _ (λ o q n. or_on_same es p n k l h) }

  compared_same : {es : List (Denotation K)} {fs : List (Denotation J)} → PartsSame es fs → {e : Denotation K} {f : Denotation J} → PartSame e f → (p : Site) {o : Outcome K} {q : Outcome J} → Ends o q → (k : Continuation K) (l : Continuation J) → Behind k l → Follow (compared es e p o k) (compared fs f p q l)
  compared_same none e p n k l h = h _ _ n
  compared_same (more x xs) e p n k l h = value_same n k l h _ _ (λ v s r ss. truth_same v ss _ _ _ _ (e.does p ss k l h) (h _ _ (gave v ss)))

  compare_on_same : (ops : List CmpOp) {es : List (Denotation K)} {fs : List (Denotation J)} → PartsSame es fs → (x : Value) → PartSame (compare_on ops es x) (compare_on ops fs x)
  compare_on_same [] es x = record { does = λ p ss k l h. h _ _ (gave x ss) }
  compare_on_same (op ∷ ops) none x = record { does = λ p ss k l h. h _ _ (gave x ss) }
  compare_on_same (op ∷ ops) (more e es) x = record { does = λ p ss k l h. e.does p ss _ _ (λ o q n. value_same n k l h _ _ (λ y s r ss. operated_same (λ heap. compare_of op heap x y) p ss _ _ (λ o q n. compared_same es (compare_on_same ops es y) p n k l h))) }

  pub compare_same : (ops : List CmpOp) {e : Denotation K} {f : Denotation J} {es : List (Denotation K)} {fs : List (Denotation J)} → PartSame e f → PartsSame es fs → PartSame (compare_part e ops es) (compare_part f ops fs)
  compare_same ops e es = record { does = λ p ss k l h. e.does p ss _ _ (λ o q n. value_same n k l h _ _ (λ x s r ss. (compare_on_same ops es x).does p ss k l h)) }

  -- the caller has its names and temporaries again
  back_same : {s s' : CallState K} {r r' : CallState J} → States s r → StatesByChoice R false s' r' → States (back_to s s') (back_to r r')
  back_same (states a t ws) (states b u xs) = states a t xs

  pub call_end_same : {s : CallState K} {r : CallState J} → States s r → {o : Outcome K} {q : Outcome J} → EndsByChoice R false o q → Ends (call_end s o) (call_end r q)
  call_end_same ss (gave v n) = gave v (back_same ss n)
  call_end_same ss (next n) = gave val.None (back_same ss n)
  call_end_same ss (returned v n) = gave v (back_same ss n)
  call_end_same ss (broke n) = gave val.None (back_same ss n)
  call_end_same ss (continued n) = gave val.None (back_same ss n)
  call_end_same ss (alike.raised e trace n) = alike.raised e trace (back_same ss n)

  called_same : (c : Value) (args : Arguments) → PartSame (called c args) (called c args)
  called_same c args = record { does = λ p ss k l h. until.ask (out (trace_of p) (loosen ss)) (calls c args (around_of p) (loosen ss)) (λ o q n. h _ _ (call_end_same ss n)) }

  call_on_same : (c : Value) (shape : List Value → Arguments) {es : List (Denotation K)} {fs : List (Denotation J)} → PartsSame es fs → (vs : List Value) → PartSame (call_on c shape es vs) (call_on c shape fs vs)
  call_on_same c shape none vs = record { does = λ p ss k l h. (called_same c (shape vs)).does p ss k l h }
  call_on_same c shape (more e es) vs = record { does = λ p ss k l h. e.does p ss _ _ (λ o q n. value_same n k l h _ _ (λ v s r ss. (call_on_same c shape es (vs ++ v ∷ [])).does p ss k l h)) }

  pub call_same : (shape : List Value → Arguments) {e : Denotation K} {f : Denotation J} {es : List (Denotation K)} {fs : List (Denotation J)} → PartSame e f → PartsSame es fs → PartSame (call_part e shape es) (call_part f shape fs)
  call_same shape e es = record { does = λ p ss k l h. e.does p ss _ _ (λ o q n. value_same n k l h _ _ (λ c s r ss. (call_on_same c shape es []).does p ss k l h)) }

  -- a value that is kept
  abbrev set_both : ℕ → Value → TwoTemps m → TwoTemps m
  set_both i v t = record { first = set_at i v t.first; second = set_at i v t.second; tied = set_tied m i v t.first t.second t.tied }

  temp_same : (i : ℕ) (v : Value) {s : CallState K} {r : CallState J} → States s r → States (with_temp i v s) (with_temp i v r)
  temp_same i v (states a t ws) = states a (set_both i v t) ws

  pub kept_same : (i : ℕ) {e : Denotation K} {f : Denotation J} → PartSame e f → PartSame (kept_part i e) (kept_part i f)
  kept_same i e = record { does = λ p ss k l h. e.does p ss _ _ (λ o q n. value_same n k l h _ _ (λ v s r ss. h _ _ (gave v (temp_same i v ss)))) }

  pub data SomeSame : Option (Denotation K) → Option (Denotation J) → Type 0 where
    absent : SomeSame None None
    present : {e : Denotation K} {f : Denotation J} → PartSame e f → SomeSame (Some e) (Some f)

  pub parts_push : {es : List (Denotation K)} {fs : List (Denotation J)} {e : Denotation K} {f : Denotation J} → PartsSame es fs → PartSame e f → PartsSame (es ++ e ∷ []) (fs ++ f ∷ [])
  parts_push none x = more x none
  parts_push (more y ys) x = more y (parts_push ys x)

-- what is kept on one side alone
module _ (R : Choices) (P : Apart) where
  abbrev Loose : Denotation K → Denotation J → Type 0
  Loose = PartSame R P false

  kept_second : (i : ℕ) (v : Value) {s : CallState K} {r : CallState J} → StatesByChoice R false s r → StatesByChoice R false s (with_temp i v r)
  kept_second i v (states a t ws) = states a (record { first = t.first; second = set_at i v t.second; tied = tt }) ws

  kept_first : (i : ℕ) (v : Value) {s : CallState K} {r : CallState J} → StatesByChoice R false s r → StatesByChoice R false (with_temp i v s) r
  kept_first i v (states a t ws) = states a (record { first = set_at i v t.first; second = t.second; tied = tt }) ws

  to_second : (i : ℕ) (l : Continuation J) → {k : Continuation K} → Behind R P false k l → Behind R P false k (λ o. on_value o l (λ v s. l (Gave v (with_temp i v s))))
  to_second i l h _ _ (gave v ss) = h _ _ (gave v (kept_second i v ss))
  to_second i l h _ _ (next ss) = h _ _ (next ss)
  to_second i l h _ _ (returned v ss) = h _ _ (returned v ss)
  to_second i l h _ _ (broke ss) = h _ _ (broke ss)
  to_second i l h _ _ (continued ss) = h _ _ (continued ss)
  to_second i l h _ _ (alike.raised e trace ss) = h _ _ (alike.raised e trace ss)

  to_first : (i : ℕ) (k : Continuation K) → {l : Continuation J} → Behind R P false k l → Behind R P false (λ o. on_value o k (λ v s. k (Gave v (with_temp i v s)))) l
  to_first i k h _ _ (gave v ss) = h _ _ (gave v (kept_first i v ss))
  to_first i k h _ _ (next ss) = h _ _ (next ss)
  to_first i k h _ _ (returned v ss) = h _ _ (returned v ss)
  to_first i k h _ _ (broke ss) = h _ _ (broke ss)
  to_first i k h _ _ (continued ss) = h _ _ (continued ss)
  to_first i k h _ _ (alike.raised e trace ss) = h _ _ (alike.raised e trace ss)

  pub second_kept : (i : ℕ) {e : Denotation K} {f : Denotation J} → Loose e f → Loose e (kept_part i f)
  second_kept i e = record { does = λ p ss k l h. e.does p ss k _ (to_second i l h) }

  pub first_kept : (i : ℕ) {e : Denotation K} {f : Denotation J} → Loose e f → Loose (kept_part i e) f
  first_kept i e = record { does = λ p ss k l h. e.does p ss _ l (to_first i k h) }
