use Rattle.py_items.proofs.index.value_item.Goals as goal

pub returns-in-Place : goal.returns-in-Place
returns-in-Place c = rw (← c.in-Place.ensures, ← c.value_at.ensures) c.given.ensures
