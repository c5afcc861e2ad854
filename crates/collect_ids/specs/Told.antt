-- What the code's answers tell while ids are asked for.
use Rattle.std.specs.Prelude.{ℕ, List, Option, Some, None, Result, Ok, Err, map}
use Rattle.std.specs.declared.alloc.Global.{Global}
use Rattle.std.specs.declared.vec.Vec.{Vec}
use Rattle.collect_rows.specs.Seen.{seen_list}
use Rattle.collect_rows.specs.declared.items.FileItems.TheVariants as file
use Rattle.collect_rows.specs.declared.items.FoundItem.{FoundItem}
use Rattle.collect_rows.specs.declared.items.RowsFault.{RowsFault}
use Rattle.param_rows.specs.Ids.{Id}
use Rattle.runtest_rules.specs.tracebacks.source_meaning.Meaning.{SourceWorld}
use Rattle.collect_ids.specs.Asking.{Asked}
use Rattle.collect_ids.specs.Files.{FileAsked, before_others}

-- what was put behind others, or the fault that stopped it
abbrev pub told : {A : Type 0} → Option RowsFault → A → SourceWorld → Asked A
told None a w = (Ok a, w)
told (Some fault) a w = (Err fault, w)

-- lists of fixtures as `param_rows` has them
abbrev pub lists_told : Result (Vec (ℕ × Vec Id Global) Global) RowsFault → Result (List (ℕ × List Id)) RowsFault
lists_told (Ok lists) = Ok (map seen_list lists.items)
lists_told (Err fault) = Err fault

-- the items of some tests before those of others, or the fault that stopped it
abbrev pub items_told : Option RowsFault → List FoundItem → (SourceWorld → FileAsked) → SourceWorld → FileAsked
items_told None items others w = before_others items (others w)
items_told (Some fault) items others w = (file.Fault fault, w)
