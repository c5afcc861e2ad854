-- The lowered forms of handlers and guards, for the tactics.
use Rattle.std.proofs.Common.{◌≡◌, ℕ, List, [], ◌∷◌, ◌++◌, Option, refl, sym, ap, ◌∙◌, subst, ◌+◌, ◌<◌, ◌≤◌, length, take, get_or, Vec}
use Rattle.std.proofs.lemmas.List.{take_more, take_all}
use Rattle.std.specs.Prelude.{Bool}
use Rattle.std.specs.declared.alloc.Global.{Global}
use Rattle.std.specs.declared.rc.Rc.{Rc}
use Rattle.py_tree.specs.declared.stmt.Handler as handler
use Rattle.py_tree.specs.declared.stmt.Handler.{Handler, out-Handler, roll-Handler, roll-out-Handler}
use Rattle.py_tree.specs.Trees.{Maybe, some_tree}
use Rattle.py_tree.specs.Statements as st
use Rattle.py_tree.specs.Statements.{Block, Handlers, NoHandler, block, handlers_behind, handlers}
use Rattle.py_tree.proofs.Rows.{block_hidden}
use Rattle.py_core.specs.declared.expr.CoreExpr.{CoreExpr}
use Rattle.py_core.specs.declared.stmt.CoreBlock.{CoreBlock}
use Rattle.py_core.specs.declared.stmt.CoreGuard.{CoreGuard, roll-CoreGuard}
use Rattle.py_core.specs.declared.stmt.CoreHandler.{CoreHandler, roll-CoreHandler}
use Rattle.py_core.specs.declared.stmt.CoreStmtKind.TheBlock.{items_hidden-the_row-CoreHandler-2 as core_handlers_hidden, hidden-the_row-CoreHandler-2}
use Rattle.lower_law.specs.source_meaning.Statements.{statements_listed}
use Rattle.lower_law.specs.Built.{BuiltHandlers}
use Rattle.lower_law.specs.Lowered as low
use Rattle.lower_law.specs.Lowered.{LoweredSome, LoweredBody, LoweredHandlers, LoweredGuard, ListedHandler, catch_at, handlers_listed}
use Rattle.assert_rewrite.specs.Lowers.{LowersSome, LowersBody, LowersHandlers, Guards}

-- a handler
handler_rolled : (before : Handlers) (h : Handler) → handlers_behind before (roll-Handler (out-Handler h) ∷ []) ≡ st.Handler before (out-Handler h).at (some_tree (out-Handler h).class) (out-Handler h).name (block (out-Handler h).body.value.items)
unfolding roll-Handler denote.Hole.Carrier.roll out-Handler
handler_rolled before h = ap (λ b. st.Handler before (out-Handler h).at (some_tree (out-Handler h).class) (out-Handler h).name b) (block_hidden (out-Handler h).body.value)

handler_is : (before : Handlers) (h : Handler) → handlers_behind before (h ∷ []) ≡ st.Handler before (out-Handler h).at (some_tree (out-Handler h).class) (out-Handler h).name (block (out-Handler h).body.value.items)
handler_is before h = subst (λ y. handlers_behind before (y ∷ []) ≡ st.Handler before (out-Handler h).at (some_tree (out-Handler h).class) (out-Handler h).name (block (out-Handler h).body.value.items)) (roll-out-Handler h) (handler_rolled before h)

handler_made : (z : Bool) (class : Maybe) (name : Option (List ℕ)) (body : Block) (x : Option (Rc CoreExpr Global)) (ys : Rc CoreBlock Global) → LoweredSome class x → LoweredBody z (statements_listed body) ys.value → LoweredHandlers z (catch_at class name body ∷ []) (roll-CoreHandler (record { class = x; name = name; body = ys }) ∷ [])
unfolding roll-CoreHandler denote.Hole.Carrier.roll
handler_made z class name body x ys h g = low.LoweredHandlers.handles name h g low.LoweredHandlers.unhandled

pub handler_form : (z : Bool) (h : Handler) (x : Option (Rc CoreExpr Global)) (copy : Option (List ℕ)) (ys : Rc CoreBlock Global) → LowersSome (out-Handler h).class x → copy ≡ (out-Handler h).name → LowersBody z (out-Handler h).body.value.items ys.value → LowersHandlers z (h ∷ []) (roll-CoreHandler (record { class = x; name = copy; body = ys }) ∷ [])
handler_form z h x copy ys f same g =
    rw same (record { by = subst (λ t. BuiltHandlers t → LoweredHandlers z (handlers_listed t) (roll-CoreHandler (record { class = x; name = (out-Handler h).name; body = ys }) ∷ [])) (sym (handler_is NoHandler h)) (λ t. handler_made z _ _ _ x ys (f.by t.1) (g.by t.2)) })

pub ruleset handler_forms = (handler_form)

-- handlers, the first one first
handlers_push : {z : Bool} {hs : List ListedHandler} {xs : List CoreHandler} {gs : List ListedHandler} {ys : List CoreHandler} → LoweredHandlers z hs xs → LoweredHandlers z gs ys → LoweredHandlers z (hs ++ gs) (xs ++ ys)
handlers_push low.LoweredHandlers.unhandled h = h
handlers_push (low.LoweredHandlers.handles name f g rest) h = low.LoweredHandlers.handles name f g (handlers_push rest h)

behind_handlers : (before : Handlers) (all : List Handler) (h : Handler) → handlers_behind before (all ++ h ∷ []) ≡ handlers_behind (handlers_behind before all) (h ∷ [])
behind_handlers before [] h = refl
behind_handlers before (handler.Handler' at class name p n body ∷ rest) h = behind_handlers (handlers_behind before (handler.Handler' at class name p n body ∷ [])) rest h

handlers_last : (z : Bool) (all : List Handler) (xs : List CoreHandler) (h : Handler) (x : CoreHandler) → LowersHandlers z all xs → LowersHandlers z (h ∷ []) (x ∷ []) → LowersHandlers z (all ++ h ∷ []) (xs ++ x ∷ [])
handlers_last z all xs h x f g =
    let one : BuiltHandlers (st.Handler NoHandler (out-Handler h).at (some_tree (out-Handler h).class) (out-Handler h).name (block (out-Handler h).body.value.items)) → LoweredHandlers z (catch_at (some_tree (out-Handler h).class) (out-Handler h).name (block (out-Handler h).body.value.items) ∷ []) (x ∷ []) = subst (λ t. BuiltHandlers t → LoweredHandlers z (handlers_listed t) (x ∷ [])) (handler_is NoHandler h) g.by in
    record { by = subst (λ t. BuiltHandlers t → LoweredHandlers z (handlers_listed t) (xs ++ x ∷ [])) (sym (behind_handlers NoHandler all h ∙ handler_is (handlers all) h)) (λ t. handlers_push (f.by t.0) (one (tt, t.1, t.2))) }

-- one more handler is lowered
pub handlers_more : (z : Bool) (all : List Handler) (xs : List CoreHandler) (i : ℕ) (h : Handler) (x : CoreHandler) → i < length all → h ≡ get_or all i h → LowersHandlers z (take i all) xs → LowersHandlers z (h ∷ []) (x ∷ []) → LowersHandlers z (take (i + 1) all) (xs ++ x ∷ [])
handlers_more z all xs i h x lt is done f = rw (take_more all i h lt, ← is) (handlers_last z (take i all) xs h x done f)

pub handlers_none : (z : Bool) (xs : List CoreHandler) → xs ≡ [] → LowersHandlers z [] xs
handlers_none z xs is = subst (λ xs. LowersHandlers z [] xs) (sym is) (record { by = λ b. low.LoweredHandlers.unhandled })

pub handlers_all : (z : Bool) (all : List Handler) (i : ℕ) (done : List CoreHandler) → length all ≤ i → LowersHandlers z (take i all) done → LowersHandlers z all done
handlers_all z all i done le h = subst (λ all. LowersHandlers z all done) (take_all i all le) h

pub ruleset handler_lists = (handlers_more, handlers_none, handlers_all)

-- what guards a block
guards_rolled : (source : Rc (Vec Handler Global) Global) (cores : Vec CoreHandler Global) (x y : Rc CoreBlock Global) → Guards source.value.items cores.items x.value y.value (roll-CoreGuard (record { source = source; handlers = cores; other = x; last = y }))
unfolding roll-CoreGuard denote.Hole.Carrier.roll hidden-the_row-CoreHandler-2
guards_rolled source cores x y = record { source = refl; cores = core_handlers_hidden cores; other = refl; last = refl }

pub guards_form : (source : Rc (Vec Handler Global) Global) (cores : Vec CoreHandler Global) (x y : Rc CoreBlock Global) (g : Rc CoreGuard Global) → g.value ≡ roll-CoreGuard (record { source = source; handlers = cores; other = x; last = y }) → Guards source.value.items cores.items x.value y.value g.value
guards_form source cores x y g is = rw is (guards_rolled source cores x y)

pub ruleset guards = (guards_form)

pub guard_made : (z : Bool) (all source : List Handler) (other last : Block) (cores : List CoreHandler) (x y : CoreBlock) (g : CoreGuard) → source ≡ all → Guards source cores x y g → LoweredHandlers z (handlers_listed (handlers all)) cores → LoweredBody z (statements_listed other) x → LoweredBody z (statements_listed last) y → LoweredGuard z (handlers all) (statements_listed other) (statements_listed last) g
guard_made z all source other last cores x y g same is h f e =
    low.LoweredGuard.guard (ap handlers (is.source ∙ same)) (subst (λ xs. LoweredHandlers z (handlers_listed (handlers all)) xs) (sym is.cores) h) (subst (λ b. LoweredBody z (statements_listed other) b) (sym is.other) f) (subst (λ b. LoweredBody z (statements_listed last) b) (sym is.last) e)
