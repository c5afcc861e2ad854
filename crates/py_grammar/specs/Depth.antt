-- How deep expressions and blocks stand in one another. An expression that a statement holds is at level 1, a part of it one level deeper; the blocks of a statement outside blocks are at level 1, those of a statement in a block one level deeper.
use Rattle.std.specs.Prelude.{ℕ, ◌+◌, max, List, [], ◌∷◌}
use Rattle.py_tree.specs.Statements.{Taker, Parameter, Parameter_at, Statement, Block, Branches, Handlers, NoStatement, Next, NoBranch, Branch, NoHandler, Handler, Do, Assign, AssignYield, AugAssign, Return, ReturnYield, Raise, Assert, Del, GlobalOf, Pass, Break, Continue, YieldOf, Import, ImportFrom, If, While, For, Try, With, Def, Class}
use Rattle.py_expressions.specs.Values.{height, heights, high, place_height, taker_height}

-- the deepest level of targets, and of what parameters hold
abbrev pub takers_height : List Taker → ℕ
takers_height [] = 0
takers_height (t ∷ ts) = max (taker_height t) (takers_height ts)

abbrev pub params_height : List Parameter → ℕ
params_height [] = 0
params_height (Parameter_at at name annotation default ∷ rest) = max (max (high annotation) (high default)) (params_height rest)

-- the deepest level of an expression in a statement, in the statements of a block, in branches, and in handlers
abbrev mutual
  pub expression_level : Statement → ℕ
  expression_level (Do at e) = height e
  expression_level (Assign at targets e) = max (takers_height targets) (height e)
  expression_level (AssignYield at targets word e) = max (takers_height targets) (high e)
  expression_level (AugAssign at target op e) = max (place_height target) (height e)
  expression_level (Return at e) = high e
  expression_level (ReturnYield at word e) = high e
  expression_level (Raise at e) = high e
  expression_level (Assert at e message) = max (height e) (high message)
  expression_level (Del at target) = place_height target
  expression_level (GlobalOf at names) = 0
  expression_level (Pass at) = 0
  expression_level (Break at) = 0
  expression_level (Continue at) = 0
  expression_level (YieldOf at word e) = high e
  expression_level (Import at names alias) = 0
  expression_level (ImportFrom at names all) = 0
  expression_level (If at branches other) = max (expression_levels_of branches) (expression_levels other)
  expression_level (While at e body) = max (height e) (expression_levels body)
  expression_level (For at target e body) = max (max (taker_height target) (height e)) (expression_levels body)
  expression_level (Try at body handlers other final) = max (max (max (expression_levels body) (handler_levels handlers)) (expression_levels other)) (expression_levels final)
  expression_level (With at e name body) = max (height e) (expression_levels body)
  expression_level (Def at decorators word name params returns body) = max (max (max (heights decorators) (params_height params)) (high returns)) (expression_levels body)
  expression_level (Class at decorators word name base body) = max (max (heights decorators) (high base)) (expression_levels body)

  pub expression_levels : Block → ℕ
  expression_levels NoStatement = 0
  expression_levels (Next before s) = max (expression_levels before) (expression_level s)

  pub expression_levels_of : Branches → ℕ
  expression_levels_of NoBranch = 0
  expression_levels_of (Branch before at e body) = max (max (expression_levels_of before) (height e)) (expression_levels body)

  pub handler_levels : Handlers → ℕ
  handler_levels NoHandler = 0
  handler_levels (Handler before at class name body) = max (max (handler_levels before) (high class)) (expression_levels body)

-- The deepest level of a block in a statement, in the statements of a block, in branches, and in handlers. An absent block is no deeper than those beside it.
abbrev mutual
  pub block_depth : Statement → ℕ
  block_depth (Do at e) = 0
  block_depth (Assign at targets e) = 0
  block_depth (AssignYield at targets word e) = 0
  block_depth (AugAssign at target op e) = 0
  block_depth (Return at e) = 0
  block_depth (ReturnYield at word e) = 0
  block_depth (Raise at e) = 0
  block_depth (Assert at e message) = 0
  block_depth (Del at target) = 0
  block_depth (GlobalOf at names) = 0
  block_depth (Pass at) = 0
  block_depth (Break at) = 0
  block_depth (Continue at) = 0
  block_depth (YieldOf at word e) = 0
  block_depth (Import at names alias) = 0
  block_depth (ImportFrom at names all) = 0
  block_depth (If at branches other) = max (block_depths_of branches) (1 + block_depths other)
  block_depth (While at e body) = 1 + block_depths body
  block_depth (For at target e body) = 1 + block_depths body
  block_depth (Try at body handlers other final) = max (max (max (1 + block_depths body) (handler_depths handlers)) (1 + block_depths other)) (1 + block_depths final)
  block_depth (With at e name body) = 1 + block_depths body
  block_depth (Def at decorators word name params returns body) = 1 + block_depths body
  block_depth (Class at decorators word name base body) = 1 + block_depths body

  pub block_depths : Block → ℕ
  block_depths NoStatement = 0
  block_depths (Next before s) = max (block_depths before) (block_depth s)

  pub block_depths_of : Branches → ℕ
  block_depths_of NoBranch = 0
  block_depths_of (Branch before at e body) = max (block_depths_of before) (1 + block_depths body)

  pub handler_depths : Handlers → ℕ
  handler_depths NoHandler = 0
  handler_depths (Handler before at class name body) = max (handler_depths before) (1 + block_depths body)

-- the deepest level in a source
abbrev pub deepest : Block → ℕ
deepest b = max (expression_levels b) (block_depths b)
