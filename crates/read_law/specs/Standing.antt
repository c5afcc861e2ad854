-- The statements of a block, those in the blocks of its statements too.
use Rattle.std.specs.Prelude.{List, ℕ, Option}
use Rattle.py_source.specs.declared.pos.Pos.{Pos}
use Rattle.py_tree.specs.Trees.{Tree, Trees, Maybe}
use Rattle.py_tree.specs.Statements.{Statement, Block, Branches, Handlers, Parameter, Taker, Next, Branch, Handler, If, While, For, Try, With, Def, Class}

mutual
  -- A STATEMENT STANDS IN A BLOCK, at whatever depth
  pub data StandsIn : Statement → Block → Type 0 where
    last : {s : Statement} {before : Block} → StandsIn s (Next before s)
    earlier : {s t : Statement} {before : Block} → StandsIn s before → StandsIn s (Next before t)
    deeper : {s t : Statement} {before : Block} → StandsWithin s t → StandsIn s (Next before t)

  -- in a block of a statement
  pub data StandsWithin : Statement → Statement → Type 0 where
    in_branches : {s : Statement} {at : Pos} {branches : Branches} {other : Block} → StandsInBranches s branches → StandsWithin s (If at branches other)
    in_else : {s : Statement} {at : Pos} {branches : Branches} {other : Block} → StandsIn s other → StandsWithin s (If at branches other)
    in_while : {s : Statement} {at : Pos} {e : Tree} {body : Block} → StandsIn s body → StandsWithin s (While at e body)
    in_for : {s : Statement} {at : Pos} {t : Taker} {e : Tree} {body : Block} → StandsIn s body → StandsWithin s (For at t e body)
    in_try : {s : Statement} {at : Pos} {body : Block} {handlers : Handlers} {other final : Block} → StandsIn s body → StandsWithin s (Try at body handlers other final)
    in_handlers : {s : Statement} {at : Pos} {body : Block} {handlers : Handlers} {other final : Block} → StandsInHandlers s handlers → StandsWithin s (Try at body handlers other final)
    in_no_raise : {s : Statement} {at : Pos} {body : Block} {handlers : Handlers} {other final : Block} → StandsIn s other → StandsWithin s (Try at body handlers other final)
    in_finally : {s : Statement} {at : Pos} {body : Block} {handlers : Handlers} {other final : Block} → StandsIn s final → StandsWithin s (Try at body handlers other final)
    in_with : {s : Statement} {at : Pos} {e : Tree} {name : Option (List ℕ)} {body : Block} → StandsIn s body → StandsWithin s (With at e name body)
    in_function : {s : Statement} {at word : Pos} {decorators : Trees} {name : List ℕ} {params : List Parameter} {returns : Maybe} {body : Block} → StandsIn s body → StandsWithin s (Def at decorators word name params returns body)
    in_class : {s : Statement} {at word : Pos} {decorators : Trees} {name : List ℕ} {base : Maybe} {body : Block} → StandsIn s body → StandsWithin s (Class at decorators word name base body)

  pub data StandsInBranches : Statement → Branches → Type 0 where
    in_last : {s : Statement} {before : Branches} {at : Pos} {e : Tree} {body : Block} → StandsIn s body → StandsInBranches s (Branch before at e body)
    in_earlier : {s : Statement} {before : Branches} {at : Pos} {e : Tree} {body : Block} → StandsInBranches s before → StandsInBranches s (Branch before at e body)

  pub data StandsInHandlers : Statement → Handlers → Type 0 where
    in_last_handler : {s : Statement} {before : Handlers} {at : Pos} {class : Maybe} {name : Option (List ℕ)} {body : Block} → StandsIn s body → StandsInHandlers s (Handler before at class name body)
    in_earlier_handler : {s : Statement} {before : Handlers} {at : Pos} {class : Maybe} {name : Option (List ℕ)} {body : Block} → StandsInHandlers s before → StandsInHandlers s (Handler before at class name body)
