-- What is read yields where it may.
use Rattle.std.proofs.Common.{◌≡◌, ◌∙◌, ℕ, Bool, true, false, ◌||◌, List, [], ◌∷◌, ◌++◌, Option, Some, None, refl, sym}
use Rattle.std.proofs.lemmas.Bool.{false≢true}
use Rattle.py_source.specs.declared.pos.Pos.{Pos}
use Rattle.py_tree.specs.declared.stmt.Alias.{Alias}
use Rattle.py_tree.specs.declared.mention.Mention.{Mention}
use Rattle.py_tree.specs.declared.mention.Mention.TheVariants.{Binds, Declares, Yields}
use Rattle.py_tree.specs.Statements.{Statement, Block, Branches, Handlers, Place, Taker, NoStatement, Next, NoBranch, Branch, NoHandler, Handler, NamePlace, AttributePlace, SubscriptPlace, One, Unpack, Do, Assign, AssignYield, AugAssign, Return, ReturnYield, Raise, Assert, Del, GlobalOf, Pass, Break, Continue, YieldOf, Import, ImportFrom, If, While, For, Try, With, Def, Class}
use Rattle.py_tree.specs.Names.{in_blocks, of_alias, of_block, of_branches, of_globals, of_handlers, of_head, of_import, of_imported, of_place, of_places, of_taker, of_takers, yields}
use Rattle.py_grammar.specs.Context.{StatementContext, in_loop_of, is_function, in_maybe, in_taker, in_takers, in_tree, is_present, misplaced, misplaced_branches, misplaced_handlers, misplaced_in, unless, without_yield}
use Rattle.read_law.specs.Yielding.{YieldsStand, YieldsStandIn, YieldsStandInBranches}
use Rattle.read_law.proofs.Parts.{no_front, no_end, unless_is}

-- WHAT DOES NOT YIELD
both : (xs ys : List Mention) → yields xs ≡ false → yields ys ≡ false → yields (xs ++ ys) ≡ false
both [] ys h g = g
both (Binds name ∷ xs) ys h g = both xs ys h g
both (Declares name ∷ xs) ys h g = both xs ys h g
both (Yields ∷ xs) ys h g = absurd (false≢true (sym h))

place_none : (p : Place) → yields (of_place p) ≡ false
place_none (NamePlace at name) = refl
place_none (AttributePlace at e name) = refl
place_none (SubscriptPlace at e i) = refl

places_none : (ps : List Place) → yields (of_places ps) ≡ false
places_none [] = refl
places_none (p ∷ ps) = both (of_place p) (of_places ps) (place_none p) (places_none ps)

taker_none : (t : Taker) → yields (of_taker t) ≡ false
taker_none (One p) = place_none p
taker_none (Unpack ps) = places_none ps

takers_none : (ts : List Taker) → yields (of_takers ts) ≡ false
takers_none [] = refl
takers_none (t ∷ ts) = both (of_taker t) (of_takers ts) (taker_none t) (takers_none ts)

alias_none : (name : Option (List ℕ)) → yields (of_alias name) ≡ false
alias_none None = refl
alias_none (Some name) = refl

import_none : (names : List (List ℕ)) (alias : Option (List ℕ)) → yields (of_import names alias) ≡ false
import_none names (Some alias) = refl
import_none [] None = refl
import_none (name ∷ rest) None = refl

imported_none : (all : List Alias) → yields (of_imported all) ≡ false
imported_none [] = refl
imported_none (a ∷ all) = both (of_import (a.name ∷ []) a.alias) (of_imported all) (import_none (a.name ∷ []) a.alias) (imported_none all)

globals_none : (names : List (List ℕ)) → yields (of_globals names) ≡ false
globals_none [] = refl
globals_none (name ∷ names) = globals_none names

alone : (xs : List Mention) → yields xs ≡ false → yields (xs ++ []) ≡ false
alone xs h = both xs [] h refl

-- where none may stand, none does
never : {A : Type 0} (b : Bool) (at : Pos) → b ≡ false → unless b at ≡ [] → A
never b at h g = absurd (false≢true (sym h ∙ unless_is b at g))

mutual
  block_none : (w : StatementContext) → w.may_yield ≡ false → (b : Block) → misplaced w b ≡ [] → yields (of_block b) ≡ false
  block_none w barred NoStatement h = refl
  block_none w barred (Next before s) h =
      both (of_block before) (of_head s ++ in_blocks s) (block_none w barred before (no_front (misplaced w before) (misplaced_in w s) h)) (statement_none w barred s (no_end (misplaced w before) (misplaced_in w s) h))

  statement_none : (w : StatementContext) → w.may_yield ≡ false → (s : Statement) → misplaced_in w s ≡ [] → yields (of_head s ++ in_blocks s) ≡ false
  statement_none w barred (Do at e) h = refl
  statement_none w barred (Assign at ts e) h = alone (of_takers ts) (takers_none ts)
  statement_none w barred (AssignYield at ts word e) h = never w.may_yield word barred (no_front (unless w.may_yield word) (in_maybe e) (no_end (in_takers ts) (unless w.may_yield word ++ in_maybe e) h))
  statement_none w barred (AugAssign at p op e) h = alone (of_place p) (place_none p)
  statement_none w barred (Return at e) h = refl
  statement_none w barred (ReturnYield at word e) h = never w.may_yield word barred (no_front (unless w.may_yield word) (in_maybe e) (no_end (unless (is_function w.scope) at) (unless w.may_yield word ++ in_maybe e) h))
  statement_none w barred (Raise at e) h = refl
  statement_none w barred (Assert at e message) h = refl
  statement_none w barred (Del at p) h = alone (of_place p) (place_none p)
  statement_none w barred (GlobalOf at names) h = alone (of_globals names) (globals_none names)
  statement_none w barred (Pass at) h = refl
  statement_none w barred (Break at) h = refl
  statement_none w barred (Continue at) h = refl
  statement_none w barred (YieldOf at word e) h = never w.may_yield word barred (no_front (unless w.may_yield word) (in_maybe e) h)
  statement_none w barred (Import at names alias) h = alone (of_import names alias) (import_none names alias)
  statement_none w barred (ImportFrom at names all) h = alone (of_imported all) (imported_none all)
  statement_none w barred (If at branches other) h =
      both (of_branches branches) (of_block other) (branches_none w barred branches (no_front (misplaced_branches w branches) (misplaced w other) h)) (block_none w barred other (no_end (misplaced_branches w branches) (misplaced w other) h))
  statement_none w barred (While at e body) h = block_none (in_loop_of w) refl body (no_end (in_tree e) (misplaced (in_loop_of w) body) h)
  statement_none w barred (For at t e body) h =
      both (of_taker t) (of_block body) (taker_none t) (block_none (in_loop_of w) refl body (no_end (in_tree e) (misplaced (in_loop_of w) body) (no_end (in_taker t) (in_tree e ++ misplaced (in_loop_of w) body) h)))
  statement_none w barred (Try at body handlers other final) h =
      let g = no_end (misplaced w body) (misplaced_handlers w true handlers ++ (misplaced (without_yield w) other ++ misplaced (without_yield w) final)) h in
      let i = no_end (misplaced_handlers w true handlers) (misplaced (without_yield w) other ++ misplaced (without_yield w) final) g in
      both (of_block body ++ of_handlers handlers ++ of_block other) (of_block final)
      (both (of_block body ++ of_handlers handlers) (of_block other)
      (both (of_block body) (of_handlers handlers) (block_none w barred body (no_front (misplaced w body) (misplaced_handlers w true handlers ++ (misplaced (without_yield w) other ++ misplaced (without_yield w) final)) h))
      (handlers_none w true handlers (no_front (misplaced_handlers w true handlers) (misplaced (without_yield w) other ++ misplaced (without_yield w) final) g)))
      (block_none (without_yield w) refl other (no_front (misplaced (without_yield w) other) (misplaced (without_yield w) final) i)))
      (block_none (without_yield w) refl final (no_end (misplaced (without_yield w) other) (misplaced (without_yield w) final) i))
  statement_none w barred (With at e name body) h = both (of_alias name) (of_block body) (alias_none name) (block_none (without_yield w) refl body (no_end (in_tree e) (misplaced (without_yield w) body) h))
  statement_none w barred (Def at decorators word name params returns body) h = refl
  statement_none w barred (Class at decorators word name base body) h = refl

  branches_none : (w : StatementContext) → w.may_yield ≡ false → (bs : Branches) → misplaced_branches w bs ≡ [] → yields (of_branches bs) ≡ false
  branches_none w barred NoBranch h = refl
  branches_none w barred (Branch before at e body) h =
      both (of_branches before) (of_block body) (branches_none w barred before (no_front (misplaced_branches w before) (in_tree e ++ misplaced w body) h))
      (block_none w barred body (no_end (in_tree e) (misplaced w body) (no_end (misplaced_branches w before) (in_tree e ++ misplaced w body) h)))

  handlers_none : (w : StatementContext) (last : Bool) (hs : Handlers) → misplaced_handlers w last hs ≡ [] → yields (of_handlers hs) ≡ false
  handlers_none w last NoHandler h = refl
  handlers_none w last (Handler before at class name body) h =
      let g = no_end (misplaced_handlers w false before) (unless (last || is_present class) at ++ (in_maybe class ++ misplaced (without_yield w) body)) h in
      both (of_handlers before) (of_alias name ++ of_block body) (handlers_none w false before (no_front (misplaced_handlers w false before) (unless (last || is_present class) at ++ (in_maybe class ++ misplaced (without_yield w) body)) h))
      (both (of_alias name) (of_block body) (alias_none name) (block_none (without_yield w) refl body (no_end (in_maybe class) (misplaced (without_yield w) body) (no_end (unless (last || is_present class) at) (in_maybe class ++ misplaced (without_yield w) body) g))))

-- WHERE WHAT YIELDS STANDS
mutual
  pub yields_stand : (w : StatementContext) (b : Block) → misplaced w b ≡ [] → YieldsStand b
  yields_stand w NoStatement h = tt
  yields_stand w (Next before s) h = (yields_stand w before (no_front (misplaced w before) (misplaced_in w s) h), yields_stand_in w s (no_end (misplaced w before) (misplaced_in w s) h))

  yields_stand_in : (w : StatementContext) (s : Statement) → misplaced_in w s ≡ [] → YieldsStandIn s
  yields_stand_in w (If at branches other) h =
      (branches_stand w branches (no_front (misplaced_branches w branches) (misplaced w other) h), yields_stand w other (no_end (misplaced_branches w branches) (misplaced w other) h))
  yields_stand_in w (Try at body handlers other final) h =
      let g = no_end (misplaced w body) (misplaced_handlers w true handlers ++ (misplaced (without_yield w) other ++ misplaced (without_yield w) final)) h in
      let i = no_end (misplaced_handlers w true handlers) (misplaced (without_yield w) other ++ misplaced (without_yield w) final) g in (
        yields_stand w body (no_front (misplaced w body) (misplaced_handlers w true handlers ++ (misplaced (without_yield w) other ++ misplaced (without_yield w) final)) h),
        handlers_none w true handlers (no_front (misplaced_handlers w true handlers) (misplaced (without_yield w) other ++ misplaced (without_yield w) final) g),
        block_none (without_yield w) refl other (no_front (misplaced (without_yield w) other) (misplaced (without_yield w) final) i),
        block_none (without_yield w) refl final (no_end (misplaced (without_yield w) other) (misplaced (without_yield w) final) i),
      )
  yields_stand_in w (While at e body) h = block_none (in_loop_of w) refl body (no_end (in_tree e) (misplaced (in_loop_of w) body) h)
  yields_stand_in w (For at t e body) h = block_none (in_loop_of w) refl body (no_end (in_tree e) (misplaced (in_loop_of w) body) (no_end (in_taker t) (in_tree e ++ misplaced (in_loop_of w) body) h))
  yields_stand_in w (With at e name body) h = block_none (without_yield w) refl body (no_end (in_tree e) (misplaced (without_yield w) body) h)
  yields_stand_in w (Do at e) h = tt
  yields_stand_in w (Assign at ts e) h = tt
  yields_stand_in w (AssignYield at ts word e) h = tt
  yields_stand_in w (AugAssign at p op e) h = tt
  yields_stand_in w (Return at e) h = tt
  yields_stand_in w (ReturnYield at word e) h = tt
  yields_stand_in w (Raise at e) h = tt
  yields_stand_in w (Assert at e message) h = tt
  yields_stand_in w (Del at p) h = tt
  yields_stand_in w (GlobalOf at names) h = tt
  yields_stand_in w (Pass at) h = tt
  yields_stand_in w (Break at) h = tt
  yields_stand_in w (Continue at) h = tt
  yields_stand_in w (YieldOf at word e) h = tt
  yields_stand_in w (Import at names alias) h = tt
  yields_stand_in w (ImportFrom at names all) h = tt
  yields_stand_in w (Def at decorators word name params returns body) h = tt
  yields_stand_in w (Class at decorators word name base body) h = tt

  branches_stand : (w : StatementContext) (bs : Branches) → misplaced_branches w bs ≡ [] → YieldsStandInBranches bs
  branches_stand w NoBranch h = tt
  branches_stand w (Branch before at e body) h =
      (branches_stand w before (no_front (misplaced_branches w before) (in_tree e ++ misplaced w body) h), yields_stand w body (no_end (in_tree e) (misplaced w body) (no_end (misplaced_branches w before) (in_tree e ++ misplaced w body) h)))
