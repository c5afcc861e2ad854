-- A run keeps what is done for each request keeps.
use Rattle.std.proofs.Common.{ℕ, zero, suc}
use Rattle.run_tree.specs.Todo.{Todo, Done, Note, Spend, Ask, Freeze, run}
use Rattle.run_tree.specs.Kept.{Kept, KeptEnding, Keeping}

module _ {N X R O F : Type 0} (Says : X → Type 0) (Asks : R → Type 0) (Ends : O → Type 0) (Stops : F → Type 0) (body : R → (O → Todo N X R O F) → Todo N X R O F) (keeping : Keeping Says Asks Ends Stops body) where
  -- THE LAW: a tree in which all is good runs to a good ending, with each budget
  pub run_kept : (n : ℕ) (t : Todo N X R O F) → Kept Says Asks Ends Stops t → KeptEnding Says Asks Ends Stops (run body n t).1
  run_kept zero (Done o) h = h
  run_kept zero (Note m t) h = run_kept zero t h
  run_kept zero (Spend x t) h = h.0
  run_kept zero (Ask x r k) h = h.0
  run_kept zero (Freeze f) h = h
  run_kept (suc n) (Done o) h = h
  run_kept (suc n) (Note m t) h = run_kept (suc n) t h
  run_kept (suc n) (Spend x t) h = run_kept n t h.1
  run_kept (suc n) (Ask x r k) h = run_kept n (body r k) (keeping r h.1 k h.2)
  run_kept (suc n) (Freeze f) h = h
