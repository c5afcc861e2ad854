-- Where a body comes to one of its `yield`s, and what follows it there (Language Reference, yield expressions; generator-iterator methods).
-- It is said by the forms in which a `yield` may stand: statements one after another, the blocks of an `if`, the block of a `try`.
use Rattle.std.specs.Prelude.{◌≡◌, ℕ, suc, ◌-◌, Bool, true, false, List, [], ◌∷◌, ◌++◌, length, slice_get, Some, Ok}
use Rattle.run_tree.specs.Todo.{Done, Ended, run}
use Rattle.run_tree.specs.Todo as tree
use Rattle.py_source.specs.declared.pos.Pos.{Pos}
use Rattle.py_tree.specs.Trees.{Tree, Maybe, Absent, Present}
use Rattle.py_tree.specs.Statements.{Statement, Block, Branches, Handlers, NoBranch, Branch, Taker, YieldOf, AssignYield, ReturnYield, If, Try}
use Rattle.py_values.specs.declared.object.FunctionObj.{FunctionObj}
use Rattle.py_values.specs.declared.value.ObjId.{ObjId}
use Rattle.py_values.specs.declared.value.Value.{Value}
use Rattle.py_values.specs.declared.value.Value.TheVariants as val
use Rattle.source_meaning.specs.py_kinds.Truth.{truth}
use Rattle.source_meaning.specs.py_world.World.{CallState, FunctionCode, Frozen, Locals, heap_of, state, unset}
use Rattle.source_meaning.specs.py_world.Site.{Scene, Site, no_call, site}
use Rattle.source_meaning.specs.py_world.Outcome.{Continuation, Exhaustion, Gave, Next, Outcome, Request, Rest, Suspension, call_end, on_next}
use Rattle.source_meaning.specs.py_world.Calls.{body_of, scene_of}
use Rattle.source_meaning.specs.py_world.Statements.{no_use, received, return_sent}
use Rattle.source_meaning.specs.py_world.Targets.{store_all}
use Rattle.source_meaning.specs.py_world.Runs.{function_and, start}
use Rattle.source_meaning.specs.py_world.Resuming.{Sent, Yielded, abandon_of, begin_arguments, begun_of, begun_with, frozen_at, sent_end, with_frame}
use Rattle.source_meaning.specs.Requests.{source_kinds, Function, SourceLayer, Statements, Guard}
use Rattle.source_meaning.specs.Expressions.{SourcePart, source_eval}
use Rattle.source_meaning.specs.Statements.{SourceStore, position, source_entry, source_guard, source_sequence, source_statement, source_stores, statements_listed}
use Rattle.source_meaning.specs.Meaning.{SourceWorld, source_begin, source_resume, source_semantics}

-- A `yield` TO WHICH A RUN HAS COME: what was noted, the value that it gives, its place, the state there, and what is left of the budget;
-- what is done with the value that it is given, and what follows it in the body
pub record AtYield : Type 0 where
  pub notes : List Pos
  pub value : Value
  pub site : Site
  pub state : CallState source_kinds
  pub left : ℕ
  pub uses : SourceStore
  pub then : Continuation source_kinds

abbrev pub at_yield : List Pos → Value → Site → CallState source_kinds → ℕ → SourceStore → Continuation source_kinds → AtYield
at_yield notes v p s left uses then = record { notes = notes; value = v; site = p; state = s; left = left; uses = uses; then = then }

abbrev pub noted_before : List Pos → AtYield → AtYield
noted_before notes y = at_yield (notes ++ y.notes) y.value y.site y.state y.left y.uses y.then

-- the run of a source's part
abbrev pub run_source : ℕ → Rest source_kinds → tree.NotedRun Pos (Exhaustion source_kinds) (Request source_kinds) (Outcome source_kinds) (Suspension source_kinds)
run_source n t = run (body_of source_semantics) n t

-- the value that a `yield` gives
abbrev pub given_part : Maybe → SourcePart
given_part Absent p s k = k (Gave val.None s)
given_part (Present e) p s k = source_eval e p s k

-- the branches of an `if`, the first one first: line, condition, block
abbrev pub clauses_of : Branches → List (ℕ × (Tree × Block))
clauses_of NoBranch = []
clauses_of (Branch before at e body) = clauses_of before ++ (at.line, (e, body)) ∷ []

-- z: whether asserts are explained. n: the budget. ls: what the meaning hands a part of what stands behind it. k: what follows the part.
mutual
  -- STATEMENTS ONE AFTER ANOTHER come to a `yield` of the first, or behind it
  pub data ComesIn (z : Bool) : ℕ → List SourceLayer → List Statement → Scene → CallState source_kinds → Continuation source_kinds → AtYield → Type 0 where
    in_first : {n : ℕ} {ls : List SourceLayer} {st : Statement} {ss : List Statement} {scene : Scene} {s : CallState source_kinds} {k : Continuation source_kinds} {y : AtYield}
        → ComesAt z n (Statements z ss ∷ ls) st (site scene (position st).line) s (λ o. on_next o k (λ s. source_sequence z ls ss scene s k)) y → ComesIn z (suc n) ls (st ∷ ss) scene s k y
    in_later : {n m : ℕ} {ls : List SourceLayer} {st : Statement} {ss : List Statement} {scene : Scene} {s t : CallState source_kinds} {k : Continuation source_kinds} {y : AtYield} (notes : List Pos)
        → run_source n (source_statement z (Statements z ss ∷ ls) st (site scene (position st).line) s Done) ≡ (notes, Ended (Next t) m) → ComesIn z m ls ss scene t k y
        → ComesIn z (suc n) ls (st ∷ ss) scene s k (noted_before notes y)

  -- A STATEMENT is a `yield`, or has one in a block of it
  pub data ComesAt (z : Bool) : ℕ → List SourceLayer → Statement → Site → CallState source_kinds → Continuation source_kinds → AtYield → Type 0 where
    alone : {n m : ℕ} {ls : List SourceLayer} {p : Site} {s t : CallState source_kinds} {k : Continuation source_kinds} (at word : Pos) (e : Maybe) (notes : List Pos) (v : Value)
        → run_source n (given_part e p s Done) ≡ (notes, Ended (Gave v t) m) → ComesAt z n ls (YieldOf at word e) p s k (at_yield notes v p t m no_use k)
    assigned : {n m : ℕ} {ls : List SourceLayer} {p : Site} {s t : CallState source_kinds} {k : Continuation source_kinds} (at word : Pos) (ts : List Taker) (e : Maybe) (notes : List Pos) (v : Value)
        → run_source n (given_part e p s Done) ≡ (notes, Ended (Gave v t) m) → ComesAt z n ls (AssignYield at ts word e) p s k (at_yield notes v p t m (store_all (source_stores ts)) k)
    returned : {n m : ℕ} {ls : List SourceLayer} {p : Site} {s t : CallState source_kinds} {k : Continuation source_kinds} (at word : Pos) (e : Maybe) (notes : List Pos) (v : Value)
        → run_source n (given_part e p s Done) ≡ (notes, Ended (Gave v t) m) → ComesAt z n ls (ReturnYield at word e) p s k (at_yield notes v p t m return_sent k)
    in_if : {n : ℕ} {ls : List SourceLayer} {p : Site} {s : CallState source_kinds} {k : Continuation source_kinds} {y : AtYield} (at : Pos) (branches : Branches) (other : Block)
        → ComesThrough z n ls (clauses_of branches) other p.scene (unset s) k y → ComesAt z n ls (If at branches other) p s k y
    in_try : {n : ℕ} {ls : List SourceLayer} {p : Site} {s : CallState source_kinds} {k : Continuation source_kinds} {y : AtYield} (at : Pos) (body : Block) (handlers : Handlers) (other final : Block)
        → ComesIn z n (Guard z p.line handlers (statements_listed other) (statements_listed final) ∷ ls) (statements_listed body) p.scene s (λ o. source_guard z ls handlers (statements_listed other) (statements_listed final) p o k) y
        → ComesAt z n ls (Try at body handlers other final) p s k y

  -- THE BRANCHES OF AN `if`: the block of the first whose condition is true, or else the last block
  pub data ComesThrough (z : Bool) : ℕ → List SourceLayer → List (ℕ × (Tree × Block)) → Block → Scene → CallState source_kinds → Continuation source_kinds → AtYield → Type 0 where
    taken : {n m : ℕ} {ls : List SourceLayer} {line : ℕ} {e : Tree} {body other : Block} {bs : List (ℕ × (Tree × Block))} {scene : Scene} {s t : CallState source_kinds} {k : Continuation source_kinds} {y : AtYield} (notes : List Pos) (v : Value)
        → run_source n (source_eval e (site scene line) s Done) ≡ (notes, Ended (Gave v t) m) → truth (heap_of t) v ≡ true → ComesIn z m ls (statements_listed body) scene t k y
        → ComesThrough z n ls ((line, (e, body)) ∷ bs) other scene s k (noted_before notes y)
    passed : {n m : ℕ} {ls : List SourceLayer} {line : ℕ} {e : Tree} {body other : Block} {bs : List (ℕ × (Tree × Block))} {scene : Scene} {s t : CallState source_kinds} {k : Continuation source_kinds} {y : AtYield} (notes : List Pos) (v : Value)
        → run_source n (source_eval e (site scene line) s Done) ≡ (notes, Ended (Gave v t) m) → truth (heap_of t) v ≡ false → ComesThrough z m ls bs other scene t k y
        → ComesThrough z n ls ((line, (e, body)) ∷ bs) other scene s k (noted_before notes y)
    last : {n : ℕ} {ls : List SourceLayer} {other : Block} {scene : Scene} {s : CallState source_kinds} {k : Continuation source_kinds} {y : AtYield} → ComesIn z n ls (statements_listed other) scene s k y
        → ComesThrough z n ls [] other scene s k y

-- A BEGIN OPENS A BODY: that of a yield function, or of a method that is one, with these local names
pub record OpensBody (w : SourceWorld) (f : Value) (args : List Value) (code : FunctionCode Function) (names : Locals) : Type 0 where
  pub id : ObjId
  pub function : FunctionObj
  pub all : List Value
  pub is : f ≡ val.Ref id
  pub found : function_and w.heap args (slice_get w.heap id.at) ≡ Some (function, all)
  pub coded : slice_get w.codes function.code ≡ Some code
  pub yields : function.yields ≡ true
  pub fits : begin_arguments function all ≡ Ok names

-- and comes to a `yield` of it
abbrev pub BeginsTo : SourceWorld → FunctionCode Function → Locals → ℕ → AtYield → Type 0
BeginsTo w code names budget y = ComesIn code.code.explains budget [] (statements_listed code.code.body) (scene_of source_entry code no_call) (state names [] w) (λ o. Done (call_end (start w) o)) y

-- IT STOPS THERE, AND GOES ON THERE: the frame that is out, and what its resumption does in any world in which it is out, with what is
-- sent and any budget: the `yield` gives the value that is sent, or raises what is thrown, and what follows it in the body follows
pub record StopsAndGoesOn (w : SourceWorld) (f : Value) (args : List Value) (budget : ℕ) (y : AtYield) : Type 0 where
  pub frame : Frozen (List SourceLayer)
  pub stops : source_begin f args budget w ≡ (begun_with (Yielded y.value (length y.state.world.frozen)) (budget - y.left), with_frame frame y.state.world)
  pub goes_on : (x : SourceWorld) (n : ℕ) → frozen_at n x ≡ Some frame → (sent : Sent) (more : ℕ)
      → source_resume n sent more x ≡ begun_of source_semantics more (received y.uses y.site (sent_end sent (state y.state.locals [] (abandon_of n x))) y.then)
