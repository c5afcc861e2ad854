-- Where the `yield`s of a function stand: where what remains behind them is what follows them.
use Rattle.std.specs.Prelude.{◌≡◌, false}
use Rattle.py_tree.specs.Statements.{Statement, Block, Branches, NoStatement, Next, NoBranch, Branch, Do, Assign, AssignYield, AugAssign, Return, ReturnYield, Raise, Assert, Del, GlobalOf, Pass, Break, Continue, YieldOf, Import, ImportFrom, If, While, For, Try, With, Def, Class}
use Rattle.py_tree.specs.Names.{of_handlers, yields, yields_in}

abbrev mutual
  -- EACH `yield` OF A FUNCTION'S BODY stands among its statements, in a block of an `if`, or in the block of a `try`
  pub YieldsStand : Block → Type 0
  YieldsStand NoStatement = Unit {0}
  YieldsStand (Next before s) = YieldsStand before × YieldsStandIn s

  pub YieldsStandIn : Statement → Type 0
  YieldsStandIn (If at branches other) = YieldsStandInBranches branches × YieldsStand other
  YieldsStandIn (Try at body handlers other final) = YieldsStand body × (yields (of_handlers handlers) ≡ false) × (yields_in other ≡ false) × (yields_in final ≡ false)
  YieldsStandIn (While at e body) = yields_in body ≡ false
  YieldsStandIn (For at t e body) = yields_in body ≡ false
  YieldsStandIn (With at e name body) = yields_in body ≡ false
  YieldsStandIn (Do at e) = Unit {0}
  YieldsStandIn (Assign at ts e) = Unit {0}
  YieldsStandIn (AssignYield at ts word e) = Unit {0}
  YieldsStandIn (AugAssign at p op e) = Unit {0}
  YieldsStandIn (Return at e) = Unit {0}
  YieldsStandIn (ReturnYield at word e) = Unit {0}
  YieldsStandIn (Raise at e) = Unit {0}
  YieldsStandIn (Assert at e message) = Unit {0}
  YieldsStandIn (Del at p) = Unit {0}
  YieldsStandIn (GlobalOf at names) = Unit {0}
  YieldsStandIn (Pass at) = Unit {0}
  YieldsStandIn (Break at) = Unit {0}
  YieldsStandIn (Continue at) = Unit {0}
  YieldsStandIn (YieldOf at word e) = Unit {0}
  YieldsStandIn (Import at names alias) = Unit {0}
  YieldsStandIn (ImportFrom at names all) = Unit {0}
  YieldsStandIn (Def at decorators word name params returns body) = Unit {0}
  YieldsStandIn (Class at decorators word name base body) = Unit {0}

  pub YieldsStandInBranches : Branches → Type 0
  YieldsStandInBranches NoBranch = Unit {0}
  YieldsStandInBranches (Branch before at e body) = YieldsStandInBranches before × YieldsStand body
