-- Bodies whose end is there at once.
use Rattle.std.proofs.Common.{◌≡◌, ◌≢◌, ◌≤◌, ◌<◌, ◌∙◌, ◌+◌, ◌-◌, ℕ, suc, List, [], ◌∷◌, Option, Some, None, Bool, true, false, IfSome, sym, ap, subst, refl, arith, drop, get_or, length, add-one, drop-cons}
use Rattle.std.proofs.Math.ListN.{drop_of_length-le}
use Rattle.std.specs.declared.alloc.Global.{Global}
use Rattle.std.specs.declared.rc.Rc.{Rc}
use Rattle.std.specs.declared.vec.Vec.{Vec}
use Rattle.py_core.specs.Blocks.{stmts_in}
use Rattle.py_core.specs.declared.expr.CoreExpr.{CoreExpr}
use Rattle.py_core.specs.declared.stmt.CoreBlock.{CoreBlock}
use Rattle.py_core.specs.declared.stmt.CoreBranch as branch
use Rattle.py_core.specs.declared.stmt.CoreBranch.{CoreBranch, out-CoreBranch}
use Rattle.py_core.specs.declared.stmt.CoreStmt.{CoreStmt}
use Rattle.py_core.specs.declared.stmt.CoreStmtKind.{CoreStmtKind}
use Rattle.py_core.specs.declared.stmt.CoreStmtKind.TheVariants as v
use Rattle.py_core.specs.declared.stmt.CoreStmtKind.TheBlock.{items_hidden-the_row-CoreBranch-0}
use Rattle.py_kinds.specs.Truth.{truth}
use Rattle.py_values.specs.declared.value.Value.{Value}
use Rattle.py_values.specs.declared.value.Value.TheVariants as val
use Rattle.machine_state.specs.py_world.declared.trace.TraceFrame.{TraceFrame}
use Rattle.machine_state.specs.py_world.declared.ended.Thrown.{Thrown}
use Rattle.machine_state.specs.py_core.declared.stmt.CoreFn.{CoreFn}
use Rattle.machine_state.specs.py_world.World.{Locals, FunctionCode, heap_of, state}
use Rattle.machine_state.specs.py_world.Site.{site}
use Rattle.machine_state.specs.py_world.Outcome as Outcome
use Rattle.machine_state.specs.py_world.Outcome.{Gave, call_end, if_true, on_next, on_value}
use Rattle.machine_state.specs.py_world.Statements.{asked, branches_on, choose, return_value}
use Rattle.machine_state.specs.core_meaning.Requests.{Layer, StatementOf, Statements}
use Rattle.machine_state.specs.core_meaning.Expressions.{eval}
use Rattle.machine_state.specs.core_meaning.Statements.{CoreBody, CoreChoice, begun, begun_at, block_from, choice, choices, core_block_body, entry, core_statement_at}
use Rattle.machine_state.specs.declared.machine.Machine.{Machine}
use Rattle.machine_state.specs.declared.place.Location.{Location}
use Rattle.machine_state.specs.declared.place.Place.TheVariants.{Function}
use Rattle.machine_state.specs.Places.{CoreState, CoreThen, at_line, ends, scene_in, site_of}
use Rattle.machine_state.specs.Frames.{world_of}
use Rattle.machine_state.specs.Found.{OnTrue}
use Rattle.machine_immediate.specs.declared.immediate.BodyEnd.{BodyEnd}
use Rattle.machine_immediate.specs.declared.immediate.BodyEnd.TheVariants.{Over, Returned}
use Rattle.machine_immediate.specs.declared.immediate.Immediate.{Immediate}
use Rattle.machine_immediate.specs.AtOnce.{BodyEnds, HasValueIn, IsRunNow, PartEnds, outcome_of_body, value_of_end}
use Rattle.machine_immediate.proofs.AtOnces.{when_true}

row_at : {A : Type 0} (xs : List A) (i : ℕ) (x : A) → i < length xs → x ≡ get_or xs i x → drop i xs ≡ x ∷ drop (i + 1) xs
row_at xs i x w h = rw add-one (drop-cons xs i x w ∙ ap (λ y. y ∷ drop (suc i) xs) (sym h))

choice_is : (ls : List Layer) (b : CoreBranch) → choice ls b ≡ ((out-CoreBranch b).at.line, (eval (out-CoreBranch b).condition.value, core_block_body ls (out-CoreBranch b).body.value))
choice_is ls (branch.CoreBranch' at condition p body) = rw (branch.outs-CoreBranch') refl

-- what a call gives by the end of its body
abbrev pub given_by : Option Value → Value
given_by None = val.None
given_by (Some v) = v

called_end : (r : Option Value) (caller : CoreState) (names : Locals) (m : Machine) → caller.world ≡ world_of m → call_end caller (outcome_of_body r (state names [] (world_of m))) ≡ Gave (given_by r) caller
called_end None caller names m same = rw (sym same) refl
called_end (Some v) caller names m same = rw (sym same) refl

module _ (m : Machine) where
  -- THE RUN OF A CODE whose body's end is there
  run_now : (code : FunctionCode CoreFn) (around : ℕ) (bound : Locals) (b : CoreBlock) (here : Location) (left n behind : ℕ) (r : Option Value) → left ≡ suc n → core_block_body [] b ≡ (entry code.code).body → here ≡ record { place = Function code; around = around; line = 0 }
      → BodyEnds (λ ls. core_block_body ls b) n r behind m here bound → IsRunNow code around bound left (record { value = given_by r; left = behind }) m
  run_now code around bound b here left n behind r one body is ended =
      record {
        behind = n;
        paid = one;
        fewer = ended.fewer;
        goes_on = λ caller outer handled k same.
            ap (λ (h : Location). ends n ((entry code.code).body (scene_in h.place h.around outer handled) (state bound [] (world_of m)) (λ o. k (call_end caller o)))) (sym is)
            ∙ ap (λ (c : CoreBody). ends n (c (scene_in here.place here.around outer handled) (state bound [] (world_of m)) (λ o. k (call_end caller o)))) (sym body)
            ∙ ended.goes_on [] outer handled (λ o. k (call_end caller o))
            ∙ ap (λ o. ends behind (k o)) (called_end r caller bound m same);
      }

  pub run_step : (code : FunctionCode CoreFn) (around : ℕ) (bound : Locals) (b : CoreBlock) (here : Location) (left behind : ℕ) (r : Option BodyEnd) (end : BodyEnd) (x : Value) → left ≢ 0 → core_block_body [] b ≡ (entry code.code).body
      → here ≡ record { place = Function code; around = around; line = 0 } → r ≡ Some end → IfSome r (λ e. BodyEnds (λ ls. block_from ls b 0 (drop 0 (stmts_in b))) (left - 1) (value_of_end e x) behind m here bound)
      → IsRunNow code around bound left (record { value = given_by (value_of_end end x); left = behind }) m
  run_step code around bound b here left behind r end x some body is found h =
      run_now code around bound b here left (left - 1) behind (value_of_end end x) (omega arith) body is
      (subst (λ (o : Option BodyEnd). IfSome o (λ e. BodyEnds (λ ls. core_block_body ls b) (left - 1) (value_of_end e x) behind m here bound)) found h)

  module _ (here : Location) (names : Locals) where
    abbrev Ends : (List Layer → CoreBody) → ℕ → Option Value → ℕ → Type 0
    Ends body left r behind = BodyEnds body left r behind m here names

    abbrev the_state : CoreState
    the_state = state names [] (world_of m)

    found_end : (body : List Layer → CoreBody) (left behind : ℕ) (x : Value) (r : Option BodyEnd) (end : BodyEnd) → r ≡ Some end → IfSome r (λ e. Ends body left (value_of_end e x) behind) → Ends body left (value_of_end end x) behind
    found_end body left behind x r end is h = subst (λ (o : Option BodyEnd). IfSome o (λ e. Ends body left (value_of_end e x) behind)) is h

    -- A BLOCK that is over
    pub block_over : (b : CoreBlock) (at left : ℕ) → length (stmts_in b) ≤ at → Ends (λ ls. block_from ls b at (drop at (stmts_in b))) left None left
    block_over b at left past =
        record {
          fewer = omega arith;
          goes_on = λ ls outer handled k. ap (λ (ys : List CoreStmt). ends left (block_from ls b at ys (scene_in here.place here.around outer handled) the_state k)) (drop_of_length-le (stmts_in b) past);
        }

    -- a block whose next statement returns
    statement_first : (b : CoreBlock) (at left behind : ℕ) (st : CoreStmt) (r : Option Value) → at < length (stmts_in b) → st ≡ get_or (stmts_in b) at st → Ends (λ ls scene. begun ls st (site scene st.at.line)) left r behind
        → (ls : List Layer) (outer : List TraceFrame) (handled : Option Thrown) (k : CoreThen)
        → ends left (block_from ls b at (drop at (stmts_in b)) (scene_in here.place here.around outer handled) the_state k)
        ≡ ends behind (on_next (outcome_of_body r the_state) k (λ s. block_from ls b (at + 1) (drop (at + 1) (stmts_in b)) (scene_in here.place here.around outer handled) s k))
    statement_first b at left behind st r within is h ls outer handled k =
        let scene = scene_in here.place here.around outer handled in
        ap (λ (ys : List CoreStmt). ends left (block_from ls b at ys scene the_state k)) (row_at (stmts_in b) at st within is)
        ∙ h.goes_on (Statements b (at + 1) ∷ ls) outer handled (λ o. on_next o k (λ s. block_from ls b (at + 1) (drop (at + 1) (stmts_in b)) scene s k))

    pub block_left : (b : CoreBlock) (at left behind : ℕ) (st : CoreStmt) (r : Option BodyEnd) (x : Value) → at < length (stmts_in b) → st ≡ get_or (stmts_in b) at st → r ≡ Some Returned
        → IfSome r (λ e. Ends (λ ls scene. begun ls st (site scene st.at.line)) left (value_of_end e x) behind) → Ends (λ ls. block_from ls b at (drop at (stmts_in b))) left (Some x) behind
    block_left b at left behind st r x within is found h =
        let i : Ends (λ ls scene. begun ls st (site scene st.at.line)) left (Some x) behind = found_end (λ ls scene. begun ls st (site scene st.at.line)) left behind x r Returned found h in
        record { fewer = i.fewer; goes_on = λ ls outer handled k. statement_first b at left behind st (Some x) within is i ls outer handled k }

    -- a block whose next statement is over
    pub block_behind : (b : CoreBlock) (at left between behind : ℕ) (st : CoreStmt) (r : Option BodyEnd) (x : Value) (o : Option BodyEnd) (y : Value) → at < length (stmts_in b) → st ≡ get_or (stmts_in b) at st → r ≡ Some Over
        → IfSome r (λ e. Ends (λ ls scene. begun ls st (site scene st.at.line)) left (value_of_end e x) between) → IfSome o (λ e. Ends (λ ls. block_from ls b (at + 1) (drop (at + 1) (stmts_in b))) between (value_of_end e y) behind)
        → IfSome o (λ e. Ends (λ ls. block_from ls b at (drop at (stmts_in b))) left (value_of_end e y) behind)
    block_behind b at left between behind st r x None y within is found h rest = tt
    block_behind b at left between behind st r x (Some e) y within is found h rest =
        let i : Ends (λ ls scene. begun ls st (site scene st.at.line)) left None between = found_end (λ ls scene. begun ls st (site scene st.at.line)) left between x r Over found h in
        let one : between ≤ left = i.fewer in
        let two : behind ≤ between = rest.fewer in
        record { fewer = omega arith; goes_on = λ ls outer handled k. statement_first b at left between st None within is i ls outer handled k ∙ rest.goes_on ls outer handled k }

    -- A RETURN of a value that is there
    pub return_there : (temps : List (Option Value)) (e : Rc CoreExpr Global) (e' : CoreExpr) (left : ℕ) (ix : Bool) (x : Immediate) → temps ≡ [] → e' ≡ e.value → ix ≡ true → OnTrue ix (HasValueIn (eval e') left x m here names temps) → PartEnds (return_value (Some (eval e.value))) left (Some x.value) x.left m here names
    return_there temps e e' left ix x none same sure h =
        let i : HasValueIn (eval e.value) left x m here names [] = subst (λ (y : CoreExpr). HasValueIn (eval y) left x m here names []) same (subst (λ (ts : List (Option Value)). HasValueIn (eval e') left x m here names ts) none (when_true ix sure h)) in
        record { fewer = i.fewer; goes_on = λ outer handled line k. i.goes_on outer handled line (λ o. on_value o k (λ v s. k (Outcome.Returned v s))) }

    returned_end : (st : CoreStmt) (e : Rc CoreExpr Global) (left n behind : ℕ) (r : Option Value) → st.kind ≡ v.Return (Some e) → left ≡ suc n → PartEnds (return_value (Some (eval e.value))) n r behind m here names → Ends (λ ls scene. begun ls st (site scene st.at.line)) left r behind
    returned_end st e left n behind r is one h =
        let fewer : behind ≤ n = h.fewer in
        record {
          fewer = omega (arith, fewer, one);
          goes_on = λ ls outer handled k.
              let p = site_of (at_line st.at.line here) outer handled in
              ap (λ (kind : CoreStmtKind). ends left (begun_at kind ls st p the_state k)) is ∙ ap (λ (l : ℕ). ends l (asked (StatementOf ls st) p the_state k)) one
              ∙ ap (λ (kind : CoreStmtKind). ends n (core_statement_at ls kind p the_state k)) is ∙ h.goes_on outer handled st.at.line k;
        }

    pub return_ends : (st : CoreStmt) (e : Rc CoreExpr Global) (left behind : ℕ) (r : Option BodyEnd) (x : Value) → left ≢ 0 → st.kind ≡ v.Return (Some e) → IfSome r (λ o. PartEnds (return_value (Some (eval e.value))) (left - 1) (value_of_end o x) behind m here names)
        → IfSome r (λ o. Ends (λ ls scene. begun ls st (site scene st.at.line)) left (value_of_end o x) behind)
    return_ends st e left behind None x some is h = tt
    return_ends st e left behind (Some o) x some is h = returned_end st e left (left - 1) behind (value_of_end o x) is (omega arith) h

    -- A CHOICE
    chosen_end : (st : CoreStmt) (bs : Rc (Vec CoreBranch Global) Global) (other : Rc CoreBlock Global) (left n behind : ℕ) (r : Option Value) → st.kind ≡ v.If bs other → left ≡ suc n
        → Ends (λ ls. branches_on (choices ls bs.value.items) (core_block_body ls other.value)) n r behind → Ends (λ ls scene. begun ls st (site scene st.at.line)) left r behind
    chosen_end st bs other left n behind r is one h =
        let fewer : behind ≤ n = h.fewer in
        record {
          fewer = omega (arith, fewer, one);
          goes_on = λ ls outer handled k.
              let p = site_of (at_line st.at.line here) outer handled in
              ap (λ (kind : CoreStmtKind). ends left (begun_at kind ls st p the_state k)) is ∙ ap (λ (l : ℕ). ends l (asked (StatementOf ls st) p the_state k)) one
              ∙ ap (λ (kind : CoreStmtKind). ends n (core_statement_at ls kind p the_state k)) is
              ∙ ap (λ (xs : List CoreBranch). ends n (choose (choices ls xs) (core_block_body ls other.value) p the_state k)) (items_hidden-the_row-CoreBranch-0 bs.value) ∙ h.goes_on ls outer handled k;
        }

    pub choice_ends : (st : CoreStmt) (bs : Rc (Vec CoreBranch Global) Global) (other : Rc CoreBlock Global) (left behind : ℕ) (r : Option BodyEnd) (x : Value) → left ≢ 0 → st.kind ≡ v.If bs other
        → IfSome r (λ o. Ends (λ ls. branches_on (choices ls (drop 0 bs.value.items)) (core_block_body ls other.value)) (left - 1) (value_of_end o x) behind) → IfSome r (λ o. Ends (λ ls scene. begun ls st (site scene st.at.line)) left (value_of_end o x) behind)
    choice_ends st bs other left behind None x some is h = tt
    choice_ends st bs other left behind (Some o) x some is h = chosen_end st bs other left (left - 1) behind (value_of_end o x) is (omega arith) h

    -- no branch is left
    pub other_ends : (bs : List CoreBranch) (at : ℕ) (other : Rc CoreBlock Global) (b : CoreBlock) (left behind : ℕ) (r : Option BodyEnd) (x : Value) → length bs ≤ at → b ≡ other.value
        → IfSome r (λ o. Ends (λ ls. block_from ls b 0 (drop 0 (stmts_in b))) left (value_of_end o x) behind) → IfSome r (λ o. Ends (λ ls. branches_on (choices ls (drop at bs)) (core_block_body ls other.value)) left (value_of_end o x) behind)
    other_ends bs at other b left behind None x past same h = tt
    other_ends bs at other b left behind (Some o) x past same h =
        record {
          fewer = h.fewer;
          goes_on = λ ls outer handled k.
              let scene = scene_in here.place here.around outer handled in
              ap (λ (xs : List CoreBranch). ends left (branches_on (choices ls xs) (core_block_body ls other.value) scene the_state k)) (drop_of_length-le bs past)
              ∙ ap (λ (y : CoreBlock). ends left (core_block_body ls y scene the_state k)) (sym same) ∙ h.goes_on ls outer handled k;
        }

    -- the condition of a branch is there
    branch_first : (temps : List (Option Value)) → temps ≡ [] → (bs : List CoreBranch) (at : ℕ) (c : CoreBranch) (other : Rc CoreBlock Global) (e' : CoreExpr) (left : ℕ) (ix : Bool) (x : Immediate) → at < length bs → c ≡ get_or bs at c → e' ≡ (out-CoreBranch c).condition.value
        → ix ≡ true → OnTrue ix (HasValueIn (eval e') left x m here names temps)
        → (x.left ≤ left) × ((ls : List Layer) (outer : List TraceFrame) (handled : Option Thrown) (k : CoreThen)
        → ends left (branches_on (choices ls (drop at bs)) (core_block_body ls other.value) (scene_in here.place here.around outer handled) the_state k)
        ≡ ends x.left (if_true (truth m.heap x.value) (core_block_body ls (out-CoreBranch c).body.value (scene_in here.place here.around outer handled) the_state k) (branches_on (choices ls (drop (at + 1) bs)) (core_block_body ls other.value) (scene_in here.place here.around outer handled) the_state k)))
    branch_first temps none bs at c other e' left ix x within is same sure h =
        let i : HasValueIn (eval (out-CoreBranch c).condition.value) left x m here names [] = subst (λ (y : CoreExpr). HasValueIn (eval y) left x m here names []) same (subst (λ (ts : List (Option Value)). HasValueIn (eval e') left x m here names ts) none (when_true ix sure h)) in (
          i.fewer,
          λ ls outer handled k.
              let scene = scene_in here.place here.around outer handled in
              ap (λ (xs : List CoreBranch). ends left (branches_on (choices ls xs) (core_block_body ls other.value) scene the_state k)) (row_at bs at c within is)
              ∙ ap (λ (y : CoreChoice). ends left (branches_on (y ∷ choices ls (drop (at + 1) bs)) (core_block_body ls other.value) scene the_state k)) (choice_is ls c)
              ∙ i.goes_on outer handled (out-CoreBranch c).at.line
              (λ o. on_value o k (λ v s. if_true (truth (heap_of s) v) (core_block_body ls (out-CoreBranch c).body.value scene s k) (branches_on (choices ls (drop (at + 1) bs)) (core_block_body ls other.value) scene s k))),
        )

    pub branch_taken : (temps : List (Option Value)) → temps ≡ [] → (bs : List CoreBranch) (at : ℕ) (c : CoreBranch) (other : Rc CoreBlock Global) (e' : CoreExpr) (b : CoreBlock) (left behind : ℕ) (ix : Bool) (x : Immediate) (r : Option BodyEnd) (y : Value) → at < length bs → c ≡ get_or bs at c → e' ≡ (out-CoreBranch c).condition.value
        → ix ≡ true → OnTrue ix (HasValueIn (eval e') left x m here names temps) → truth m.heap x.value ≡ true → b ≡ (out-CoreBranch c).body.value
        → IfSome r (λ o. Ends (λ ls. block_from ls b 0 (drop 0 (stmts_in b))) x.left (value_of_end o y) behind) → IfSome r (λ o. Ends (λ ls. branches_on (choices ls (drop at bs)) (core_block_body ls other.value)) left (value_of_end o y) behind)
    branch_taken temps none bs at c other e' b left behind ix x None y within is same sure h holds body ended = tt
    branch_taken temps none bs at c other e' b left behind ix x (Some o) y within is same sure h holds body ended =
        let first = branch_first temps none bs at c other e' left ix x within is same sure h in
        let one : x.left ≤ left = first.0 in
        let two : behind ≤ x.left = ended.fewer in
        record {
          fewer = omega arith;
          goes_on = λ ls outer handled k.
              let scene = scene_in here.place here.around outer handled in
              let rest = branches_on (choices ls (drop (at + 1) bs)) (core_block_body ls other.value) scene the_state k in
              first.1 ls outer handled k ∙ ap (λ (t : Bool). ends x.left (if_true t (core_block_body ls (out-CoreBranch c).body.value scene the_state k) rest)) holds
              ∙ ap (λ (z : CoreBlock). ends x.left (core_block_body ls z scene the_state k)) (sym body) ∙ ended.goes_on ls outer handled k;
        }

    pub branch_passed : (temps : List (Option Value)) → temps ≡ [] → (bs : List CoreBranch) (at : ℕ) (c : CoreBranch) (other : Rc CoreBlock Global) (e' : CoreExpr) (left behind : ℕ) (ix : Bool) (x : Immediate) (r : Option BodyEnd) (y : Value) → at < length bs → c ≡ get_or bs at c → e' ≡ (out-CoreBranch c).condition.value
        → ix ≡ true → OnTrue ix (HasValueIn (eval e') left x m here names temps) → truth m.heap x.value ≡ false
        → IfSome r (λ o. Ends (λ ls. branches_on (choices ls (drop (at + 1) bs)) (core_block_body ls other.value)) x.left (value_of_end o y) behind) → IfSome r (λ o. Ends (λ ls. branches_on (choices ls (drop at bs)) (core_block_body ls other.value)) left (value_of_end o y) behind)
    branch_passed temps none bs at c other e' left behind ix x None y within is same sure h fails ended = tt
    branch_passed temps none bs at c other e' left behind ix x (Some o) y within is same sure h fails ended =
        let first = branch_first temps none bs at c other e' left ix x within is same sure h in
        let one : x.left ≤ left = first.0 in
        let two : behind ≤ x.left = ended.fewer in
        record {
          fewer = omega arith;
          goes_on = λ ls outer handled k.
              let scene = scene_in here.place here.around outer handled in
              let rest = branches_on (choices ls (drop (at + 1) bs)) (core_block_body ls other.value) scene the_state k in
              first.1 ls outer handled k ∙ ap (λ (t : Bool). ends x.left (if_true t (core_block_body ls (out-CoreBranch c).body.value scene the_state k) rest)) fails ∙ ended.goes_on ls outer handled k;
        }
