-- A statement of a block in which all stands where it may stands where it may.
use Rattle.std.proofs.Common.{◌≡◌, Bool, true, false, not, ◌||◌, [], ◌++◌}
use Rattle.py_tree.specs.Statements.{Statement, Block, Branches, Handlers}
use Rattle.py_tree.specs.Names.{globals_of}
use Rattle.py_grammar.specs.Context.{StatementContext, in_class, in_function, in_loop_of, in_maybe, in_params, in_taker, in_tree, in_trees, is_function, is_module, is_present, misplaced, misplaced_branches, misplaced_handlers, misplaced_in, unless, without_yield}
use Rattle.read_law.specs.Standing as stand
use Rattle.read_law.specs.Standing.{StandsIn, StandsInBranches, StandsInHandlers, StandsWithin}
use Rattle.read_law.proofs.Parts.{no_front, no_end}

abbrev pub IsPlaced : Statement → Type 0
IsPlaced s = (w : StatementContext) × (misplaced_in w s ≡ [])

mutual
  pub placed : {s : Statement} {b : Block} → StandsIn s b → (w : StatementContext) → misplaced w b ≡ [] → IsPlaced s
  placed (stand.last {s = s} {before = before}) w h = (w, no_end (misplaced w before) (misplaced_in w s) h)
  placed (stand.earlier {t = t} {before = before} i) w h = placed i w (no_front (misplaced w before) (misplaced_in w t) h)
  placed (stand.deeper {t = t} {before = before} i) w h = placed_within i w (no_end (misplaced w before) (misplaced_in w t) h)

  placed_within : {s t : Statement} → StandsWithin s t → (w : StatementContext) → misplaced_in w t ≡ [] → IsPlaced s
  placed_within (stand.in_branches {branches = branches} {other = other} i) w h = placed_branches i w (no_front (misplaced_branches w branches) (misplaced w other) h)
  placed_within (stand.in_else {branches = branches} {other = other} i) w h = placed i w (no_end (misplaced_branches w branches) (misplaced w other) h)
  placed_within (stand.in_while {e = e} {body = body} i) w h = placed i (in_loop_of w) (no_end (in_tree e) (misplaced (in_loop_of w) body) h)
  placed_within (stand.in_for {t = t} {e = e} {body = body} i) w h = placed i (in_loop_of w) (no_end (in_tree e) (misplaced (in_loop_of w) body) (no_end (in_taker t) (in_tree e ++ misplaced (in_loop_of w) body) h))
  placed_within (stand.in_try {body = body} {handlers = handlers} {other = other} {final = final} i) w h =
      placed i w (no_front (misplaced w body) (misplaced_handlers w true handlers ++ (misplaced (without_yield w) other ++ misplaced (without_yield w) final)) h)
  placed_within (stand.in_handlers {body = body} {handlers = handlers} {other = other} {final = final} i) w h =
      placed_handlers i w true
      (no_front (misplaced_handlers w true handlers) (misplaced (without_yield w) other ++ misplaced (without_yield w) final)
      (no_end (misplaced w body) (misplaced_handlers w true handlers ++ (misplaced (without_yield w) other ++ misplaced (without_yield w) final)) h))
  placed_within (stand.in_no_raise {body = body} {handlers = handlers} {other = other} {final = final} i) w h =
      placed i (without_yield w)
      (no_front (misplaced (without_yield w) other) (misplaced (without_yield w) final)
      (no_end (misplaced_handlers w true handlers) (misplaced (without_yield w) other ++ misplaced (without_yield w) final)
      (no_end (misplaced w body) (misplaced_handlers w true handlers ++ (misplaced (without_yield w) other ++ misplaced (without_yield w) final)) h)))
  placed_within (stand.in_finally {body = body} {handlers = handlers} {other = other} {final = final} i) w h =
      placed i (without_yield w)
      (no_end (misplaced (without_yield w) other) (misplaced (without_yield w) final)
      (no_end (misplaced_handlers w true handlers) (misplaced (without_yield w) other ++ misplaced (without_yield w) final)
      (no_end (misplaced w body) (misplaced_handlers w true handlers ++ (misplaced (without_yield w) other ++ misplaced (without_yield w) final)) h)))
  placed_within (stand.in_with {e = e} {body = body} i) w h = placed i (without_yield w) (no_end (in_tree e) (misplaced (without_yield w) body) h)
  placed_within (stand.in_function {at = at} {decorators = decorators} {params = params} {returns = returns} {body = body} i) w h =
      placed i in_function
      (no_end (in_maybe returns) (misplaced in_function body)
      (no_end (in_params (globals_of body) [] false params) (in_maybe returns ++ misplaced in_function body)
      (no_end (in_trees decorators) (in_params (globals_of body) [] false params ++ (in_maybe returns ++ misplaced in_function body))
      (no_end (unless (not (is_function w.scope)) at) (in_trees decorators ++ (in_params (globals_of body) [] false params ++ (in_maybe returns ++ misplaced in_function body))) h))))
  placed_within (stand.in_class {at = at} {decorators = decorators} {base = base} {body = body} i) w h =
      placed i in_class
      (no_end (in_maybe base) (misplaced in_class body)
      (no_end (in_trees decorators) (in_maybe base ++ misplaced in_class body)
      (no_end (unless (is_module w.scope) at) (in_trees decorators ++ (in_maybe base ++ misplaced in_class body)) h)))

  placed_branches : {s : Statement} {bs : Branches} → StandsInBranches s bs → (w : StatementContext) → misplaced_branches w bs ≡ [] → IsPlaced s
  placed_branches (stand.in_last {before = before} {e = e} {body = body} i) w h =
      placed i w (no_end (in_tree e) (misplaced w body) (no_end (misplaced_branches w before) (in_tree e ++ misplaced w body) h))
  placed_branches (stand.in_earlier {before = before} {e = e} {body = body} i) w h = placed_branches i w (no_front (misplaced_branches w before) (in_tree e ++ misplaced w body) h)

  placed_handlers : {s : Statement} {hs : Handlers} → StandsInHandlers s hs → (w : StatementContext) (last : Bool) → misplaced_handlers w last hs ≡ [] → IsPlaced s
  placed_handlers (stand.in_last_handler {before = before} {at = at} {class = class} {body = body} i) w last h =
      placed i (without_yield w)
      (no_end (in_maybe class) (misplaced (without_yield w) body)
      (no_end (unless (last || is_present class) at) (in_maybe class ++ misplaced (without_yield w) body)
      (no_end (misplaced_handlers w false before) (unless (last || is_present class) at ++ (in_maybe class ++ misplaced (without_yield w) body)) h)))
  placed_handlers (stand.in_earlier_handler {before = before} {at = at} {class = class} {body = body} i) w last h =
      placed_handlers i w false (no_front (misplaced_handlers w false before) (unless (last || is_present class) at ++ (in_maybe class ++ misplaced (without_yield w) body)) h)
