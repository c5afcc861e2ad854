-- When all that a tree says, asks for and ends with is good.
use Rattle.run_tree.specs.Todo.{Todo, Done, Note, Spend, Ask, Freeze, Ending, Ended, Spent, Frozen}

-- Says: what may be said where the budget ends; Asks, Ends, Stops: likewise for requests, ends, and what stands frozen
module _ {N X R O F : Type 0} (Says : X → Type 0) (Asks : R → Type 0) (Ends : O → Type 0) (Stops : F → Type 0) where
  abbrev pub Kept : Todo N X R O F → Type 0
  Kept (Done o) = Ends o
  Kept (Note n t) = Kept t
  Kept (Spend x t) = Says x × Kept t
  Kept (Ask x r k) = Says x × Asks r × ((o : O) → Ends o → Kept (k o))
  Kept (Freeze f) = Stops f

  -- a continuation that goes on well from each good end
  abbrev pub KeptBehind : (O → Todo N X R O F) → Type 0
  KeptBehind k = (o : O) → Ends o → Kept (k o)

  abbrev pub KeptEnding : Ending N X R O F → Type 0
  KeptEnding (Ended o n) = Ends o
  KeptEnding (Spent x) = Says x
  KeptEnding (Frozen f n) = Stops f

  -- what is done for a good request is good
  abbrev pub Keeping : (R → (O → Todo N X R O F) → Todo N X R O F) → Type 0
  Keeping body = (r : R) → Asks r → (k : O → Todo N X R O F) → KeptBehind k → Kept (body r k)
