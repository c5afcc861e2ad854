-- A run keeps its world.
use Rattle.std.proofs.Common.{◌≡◌, ◌≤◌, ◌+◌, ◌∙◌, ℕ, List, [], ◌∷◌, ◌++◌, length, map, Bool, true, false, Option, Some, None, nat_eq, ◌&&◌, refl, sym, ap, arith, append_assoc}
use Rattle.std.specs.Prelude.{cond, slice_get, IsSome}
use Rattle.std.specs.List.{list_any}
use Rattle.std.proofs.lemmas.Bool.{eqb-true, eq-eqb}
use Rattle.std.proofs.lemmas.List.{length_push, length-set}
use Rattle.py_values.specs.Changes.{changed}
use Rattle.py_values.specs.declared.class.ClassRef.{ClassRef}
use Rattle.py_values.specs.declared.class.ClassRef.TheVariants as ref
use Rattle.py_values.specs.declared.class.ExcClass.TheVariants.{StepLimit}
use Rattle.py_values.specs.declared.end.Raise.{Raise}
use Rattle.py_values.specs.declared.object.Obj.{Obj}
use Rattle.py_values.specs.declared.object.Obj.TheVariants as obj
use Rattle.py_values.specs.declared.value.ObjId.{ObjId}
use Rattle.py_values.specs.declared.value.Value.{Value}
use Rattle.py_values.specs.Names.{name_eq}
use Rattle.py_values.specs.Raises.{text_raise, thrown, thrown_by, thrown_with}
use Rattle.source_meaning.specs.py_world.declared.load.Load.{Load}
use Rattle.source_meaning.specs.py_world.declared.load.Load.TheVariants.{Running, Loaded, Failed}
use Rattle.source_meaning.specs.py_world.declared.trace.TraceFrame.{TraceFrame}
use Rattle.source_meaning.specs.py_world.World.{Kinds, World, FunctionCode}
use Rattle.source_meaning.specs.py_world.Runs.{load_at, with_load, failed, is_running, fail_running, out_of_steps, step_limit}
use Rattle.core_rules.specs.Keeps.{IsKeptIn}
use Rattle.core_rules.proofs.Keeping.{Closed, append-empty}

both : (a b : Bool) → (a && b) ≡ true → (a ≡ true) × (b ≡ true)
both true true h = (refl, refl)
both true false h = absurd cc
both false b h = absurd cc

-- names with the same characters
same_name : (xs ys : List ℕ) → name_eq xs ys ≡ true → xs ≡ ys
same_name [] [] h = refl
same_name [] (y ∷ ys) h = absurd cc
same_name (x ∷ xs) [] h = absurd cc
same_name (x ∷ xs) (y ∷ ys) h =
    let b : (nat_eq x y ≡ true) × (name_eq xs ys ≡ true) = both (nat_eq x y) (name_eq xs ys) h in
    let e : x ≡ y = eqb-true x y b.0 in
    let r : xs ≡ ys = same_name xs ys b.1 in
    rw (e, r) refl

some-none : {A : Type 0} {x : A} → Some x ≡ None → ⊥
some-none h = absurd cc

eq_self : (xs : List ℕ) → name_eq xs xs ≡ false → ⊥
eq_self [] h = absurd cc
eq_self (x ∷ xs) h = eq_self xs (self_by (nat_eq x x) (eq-eqb x x refl) h) where
  self_by : (b : Bool) {c : Bool} → b ≡ true → (b && c) ≡ false → c ≡ false
  self_by true e h = h
  self_by false e h = absurd cc

abbrev Loads : Type 0
Loads = List (List ℕ × Load)

-- what is put at one path leaves the other ones
module _ (path : List ℕ) (l : Load) (other : List ℕ) (differ : name_eq other path ≡ true → ⊥) where
  put_by : (b c : Bool) (m : List ℕ × Load) (ms : Loads) → name_eq path m.0 ≡ b → name_eq other m.0 ≡ c → load_at other (with_load path l ms) ≡ load_at other ms
      → load_at other (cond b ((m.0, l) ∷ ms) (m ∷ with_load path l ms)) ≡ load_at other (m ∷ ms)
  put_by true true m ms e d h =
      let p : path ≡ m.0 = same_name path m.0 e in
      absurd (differ (ap (name_eq other) p ∙ d))
  put_by true false m ms e d h = rw d refl
  put_by false c m ms e d h = ap (λ (o : Option Load). cond (name_eq other m.0) (Some m.1) o) h

  put_elsewhere : (ms : Loads) → load_at other (with_load path l ms) ≡ load_at other ms
  put_elsewhere [] = put_last (name_eq other path) refl where
    put_last : (b : Bool) → name_eq other path ≡ b → load_at other ((path, l) ∷ []) ≡ None
    put_last true e = absurd (differ e)
    put_last false e = rw e refl
  put_elsewhere (m ∷ ms) = put_by (name_eq path m.0) (name_eq other m.0) m ms refl refl (put_elsewhere ms)

-- what is put at a path is there, and a path that is known stays known
put_here_by : (b : Bool) (path : List ℕ) (l : Load) (m : List ℕ × Load) (ms : Loads) → name_eq path m.0 ≡ b → IsSome (load_at path (with_load path l ms)) → IsSome (load_at path (cond b ((m.0, l) ∷ ms) (m ∷ with_load path l ms)))
put_here_by true path l m ms e h = rw e refl
put_here_by false path l m ms e h = rw e h

put_alone : (b : Bool) (path : List ℕ) (l : Load) → name_eq path path ≡ b → IsSome (load_at path ((path, l) ∷ []))
put_alone true path l e = rw e refl
put_alone false path l e = absurd (eq_self path e)

pub put_here : (path : List ℕ) (l : Load) (ms : Loads) → IsSome (load_at path (with_load path l ms))
put_here path l [] = put_alone (name_eq path path) path l refl
put_here path l (m ∷ ms) = put_here_by (name_eq path m.0) path l m ms refl (put_here path l ms)

some_by : (c : Bool) (l : Load) (o : Option Load) → IsSome o → IsSome (cond c (Some l) o)
some_by true l o h = refl
some_by false l o h = h

known_put_by : (b c : Bool) (path other : List ℕ) (l : Load) (m : List ℕ × Load) (ms : Loads) → (IsSome (load_at path ms) → IsSome (load_at path (with_load other l ms)))
    → IsSome (cond c (Some m.1) (load_at path ms)) → name_eq path m.0 ≡ c → IsSome (load_at path (cond b ((m.0, l) ∷ ms) (m ∷ with_load other l ms)))
known_put_by true true path other l m ms h g e = rw e refl
known_put_by true false path other l m ms h g e = rw e g
known_put_by false true path other l m ms h g e = rw e refl
known_put_by false false path other l m ms h g e = rw e (h g)

pub known_put : (path other : List ℕ) (l : Load) (ms : Loads) → IsSome (load_at path ms) → IsSome (load_at path (with_load other l ms))
known_put path other l [] g = absurd cc
known_put path other l (m ∷ ms) g = known_put_by (name_eq other m.0) (name_eq path m.0) path other l m ms (known_put path other l ms) g refl

-- modules that were running have failed; the others are as they were
module _ (exc : Value) (trace : List TraceFrame) (path : List ℕ) where
  abbrev Failing : Option Load → Option Load → Type 0
  Failing (Some (Running id)) o = IsSome o
  Failing (Some (Loaded id)) o = o ≡ Some (Loaded id)
  Failing (Some (Failed e t)) o = o ≡ Some (Failed e t)
  Failing None o = Unit {0}

  fail_by : (b : Bool) (m : List ℕ × Load) (ms : Loads) → name_eq path m.0 ≡ b → Failing (load_at path ms) (load_at path (map (failed exc trace) ms)) → Failing (load_at path (m ∷ ms)) (load_at path (map (failed exc trace) (m ∷ ms)))
  fail_by true (at, Running id) ms e h = rw e refl
  fail_by true (at, Loaded id) ms e h = rw e refl
  fail_by true (at, Failed x t) ms e h = rw e refl
  fail_by false (at, Running id) ms e h = rw e h
  fail_by false (at, Loaded id) ms e h = rw e h
  fail_by false (at, Failed x t) ms e h = rw e h

  fails : (ms : Loads) → Failing (load_at path ms) (load_at path (map (failed exc trace) ms))
  fails [] = tt
  fails (m ∷ ms) = fail_by (name_eq path m.0) m ms refl (fails ms)

changed_length : (f : Obj → Obj) (at : ℕ) (heap : List Obj) (o : Option Obj) → length (changed f at heap o) ≡ length heap
changed_length f at heap (Some o) = length-set heap at (f o)
changed_length f at heap None = refl

with_length : (class : ClassRef) (args : List Value) (heap : List Obj) → length heap ≤ length (thrown_with class args heap).1
with_length class args heap =
    let e : length (thrown_with class args heap).1 ≡ length (heap ++ obj.Tuple args ∷ []) + 1 = length_push (heap ++ obj.Tuple args ∷ []) _ in
    let f : length (heap ++ obj.Tuple args ∷ []) ≡ length heap + 1 = length_push heap (obj.Tuple args) in
    omega (arith, e, f)

thrown_length : (class : ClassRef) (text : List ℕ) (arg : Option Value) (heap : List Obj) → length heap ≤ length (thrown_by class text arg heap).1
thrown_length class text (Some v) heap = with_length class (v ∷ []) heap
thrown_length class [] None heap = with_length class [] heap
thrown_length class (c ∷ cs) None heap =
    let e : length (heap ++ obj.Text (c ∷ cs) ∷ []) ≤ length (thrown_by class (c ∷ cs) None heap).1 = with_length class _ (heap ++ obj.Text (c ∷ cs) ∷ []) in
    let f : length (heap ++ obj.Text (c ∷ cs) ∷ []) ≡ length heap + 1 = length_push heap (obj.Text (c ∷ cs)) in
    omega (arith, e, f)

still_loaded : (exc : Value) (trace : List TraceFrame) (path : List ℕ) (id : ObjId) (o p : Option Load) → Failing exc trace path o p → o ≡ Some (Loaded id) → p ≡ Some (Loaded id)
still_loaded exc trace path id (Some (Loaded i)) p h e = h ∙ e
still_loaded exc trace path id (Some (Running i)) p h e = absurd cc
still_loaded exc trace path id (Some (Failed x t)) p h e = absurd cc
still_loaded exc trace path id None p h e = absurd cc

still_failed : (exc : Value) (trace : List TraceFrame) (path : List ℕ) (x : Value) (t : List TraceFrame) (o p : Option Load) → Failing exc trace path o p → o ≡ Some (Failed x t) → p ≡ Some (Failed x t)
still_failed exc trace path x t (Some (Failed y u)) p h e = h ∙ e
still_failed exc trace path x t (Some (Running i)) p h e = absurd cc
still_failed exc trace path x t (Some (Loaded i)) p h e = absurd cc
still_failed exc trace path x t None p h e = absurd cc

still_known : (exc : Value) (trace : List TraceFrame) (path : List ℕ) (o p : Option Load) → Failing exc trace path o p → IsSome o → IsSome p
still_known exc trace path (Some (Running i)) p h e = h
still_known exc trace path (Some (Loaded i)) p h e = rw h refl
still_known exc trace path (Some (Failed x t)) p h e = rw h refl
still_known exc trace path None p h e = absurd cc

module _ {K : Kinds} where
  -- what a run keeps of its world: each load stays as it is too
  pub record IsRunFrom (w x : World K) : Type 0 where
    pub sources : x.sources ≡ w.sources
    pub frozen : x.frozen ≡ w.frozen
    pub objects : length w.heap ≤ length x.heap
    pub codes : (more : List (FunctionCode K.code)) × (x.codes ≡ w.codes ++ more)
    pub printed : (more : List ℕ) × (x.printed ≡ w.printed ++ more)
    pub loads : (path : List ℕ) (l : Load) → load_at path w.modules ≡ Some l → load_at path x.modules ≡ Some l

  pub run_from-refl : (w : World K) → IsRunFrom w w
  run_from-refl w = record { sources = refl; frozen = refl; objects = omega arith; codes = ([], sym (append-empty w.codes)); printed = ([], sym (append-empty w.printed)); loads = λ path l h. h }

  abbrev pub Fresh : World K → List ℕ → Type 0
  Fresh w path = load_at path w.modules ≡ None

  fresh_by : (w x : World K) (path : List ℕ) (o : Option Load) → load_at path w.modules ≡ o → load_at path x.modules ≡ None → IsRunFrom w x → Fresh w path
  fresh_by w x path (Some l) is h r = absurd (some-none (sym (r.loads path l is) ∙ h))
  fresh_by w x path None is h r = is

  differs : (w : World K) (path other : List ℕ) (l : Load) → Fresh w path → load_at other w.modules ≡ Some l → name_eq other path ≡ true → ⊥
  differs w path other l fresh is same = some-none (sym is ∙ ap (λ p. load_at p w.modules) (same_name other path same) ∙ fresh)

  -- what the forms do keeps that
  pub run_from : (w : World K) → Closed (IsRunFrom w) (Fresh w)
  run_from w =
      record {
        object = λ x o r. record { sources = r.sources; frozen = r.frozen; objects = (let e : length (x.heap ++ o ∷ []) ≡ length x.heap + 1 = length_push x.heap o in omega (arith, e, r.objects)); codes = r.codes; printed = r.printed; loads = r.loads };
        change = λ x f at r. record { sources = r.sources; frozen = r.frozen; objects = (let e : length (changed f at x.heap (slice_get x.heap at)) ≡ length x.heap = changed_length f at x.heap (slice_get x.heap at) in omega (arith, e, r.objects)); codes = r.codes; printed = r.printed; loads = r.loads };
        print = λ x bytes r. record { sources = r.sources; frozen = r.frozen; objects = r.objects; codes = r.codes; printed = (r.printed.0 ++ bytes, ap (λ p. p ++ bytes) r.printed.1 ∙ append_assoc w.printed r.printed.0 bytes); loads = r.loads };
        code = λ x c r. record { sources = r.sources; frozen = r.frozen; objects = r.objects; codes = (r.codes.0 ++ c ∷ [], ap (λ p. p ++ c ∷ []) r.codes.1 ∙ append_assoc w.codes r.codes.0 (c ∷ [])); printed = r.printed; loads = r.loads };
        trace = λ x at t r. record { sources = r.sources; frozen = r.frozen; objects = r.objects; codes = r.codes; printed = r.printed; loads = r.loads };
        fresh = λ x path h r. fresh_by w x path (load_at path w.modules) refl h r;
        load = λ x path l f r. record { sources = r.sources; frozen = r.frozen; objects = r.objects; codes = r.codes; printed = r.printed; loads = λ other m h. put_elsewhere path l other (differs w path other m f h) x.modules ∙ r.loads other m h };
      }

  known_by : (w x : World K) (path : List ℕ) (o : Option Load) → load_at path w.modules ≡ o → IsRunFrom w x → IsSome o → IsSome (load_at path x.modules)
  known_by w x path (Some l) is r h = rw (r.loads path l is) refl
  known_by w x path None is r h = absurd cc

  pub run_kept_in : (w x : World K) → IsRunFrom w x → IsKeptIn w x
  run_kept_in w x r =
      record { sources = r.sources; frozen = r.frozen; objects = r.objects; codes = r.codes; printed = r.printed; loaded = λ path id h. r.loads path (Loaded id) h; failed = λ path e t h. r.loads path (Failed e t) h; known = λ path h. known_by w x path (load_at path w.modules) refl r h }

  running_kept_in : (w x : World K) (r : Raise) (trace : List TraceFrame) → IsKeptIn w x → IsKeptIn w (fail_running (thrown r x.heap) trace x)
  running_kept_in w x r trace h =
      record {
        sources = h.sources;
        frozen = h.frozen;
        objects = (let l : length x.heap ≤ length (thrown r x.heap).1 = thrown_length (ref.Builtin r.class) r.text r.arg x.heap in omega (arith, l, h.objects));
        codes = h.codes;
        printed = h.printed;
        loaded = λ path id e. still_loaded (thrown r x.heap).0 trace path id _ _ (fails (thrown r x.heap).0 trace path x.modules) (h.loaded path id e);
        failed = λ path y t e. still_failed (thrown r x.heap).0 trace path y t _ _ (fails (thrown r x.heap).0 trace path x.modules) (h.failed path y t e);
        known = λ path e. still_known (thrown r x.heap).0 trace path _ _ (fails (thrown r x.heap).0 trace path x.modules) (h.known path e);
      }

  kept_cond : (b : Bool) (w x y : World K) → IsKeptIn w x → IsKeptIn w y → IsKeptIn w (cond b x y)
  kept_cond true w x y h g = h
  kept_cond false w x y h g = g

  pub spent_kept_in : (budget : ℕ) (trace : List TraceFrame) (w x : World K) → IsKeptIn w x → IsKeptIn w (out_of_steps budget trace x)
  spent_kept_in budget trace w x h = kept_cond (list_any is_running x.modules) w _ _ (running_kept_in w x (text_raise StepLimit (step_limit budget)) trace h) h

  -- that a path is known is kept too
  pub known_closed : (path : List ℕ) → Closed (λ (w : World K). IsSome (load_at path w.modules)) (λ other. Unit {0})
  known_closed path = record { object = λ w o g. g; change = λ w f at g. g; print = λ w bytes g. g; code = λ w c g. g; trace = λ w at t g. g; fresh = λ w other h g. tt; load = λ w other l f g. known_put path other l w.modules g }

  pub known_spent : (path : List ℕ) (budget : ℕ) (trace : List TraceFrame) (w : World K) → IsSome (load_at path w.modules) → IsSome (load_at path (out_of_steps budget trace w).modules)
  known_spent path budget trace w g = known_cond (list_any is_running w.modules) _ _ (still_known (thrown (text_raise StepLimit (step_limit budget)) w.heap).0 trace path _ _ (fails (thrown (text_raise StepLimit (step_limit budget)) w.heap).0 trace path w.modules) g) g where
    known_cond : (b : Bool) (x y : World K) → IsSome (load_at path x.modules) → IsSome (load_at path y.modules) → IsSome (load_at path (cond b x y).modules)
    known_cond true x y h g = h
    known_cond false x y h g = g
