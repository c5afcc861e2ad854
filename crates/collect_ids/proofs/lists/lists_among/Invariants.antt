use Rattle.std.proofs.Common.{◌≡◌, drop, map}
use Rattle.collect_rows.specs.Seen.{seen_list}
use Rattle.collect_ids.specs.Asking.{asked_behind, lists_asked}
use Rattle.collect_ids.proofs.lists.lists_among.Given as goal

abbrev pub invariant-loop-def : goal.invariant-loop-def
invariant-loop-def l =
    asked_behind (map seen_list l.lists.items) (lists_asked l.limit l.hooks l.impls l.test l.definitions (drop l.def-index l.closure) l.world) ≡ lists_asked l.limit l.hooks l.impls l.test l.definitions l.closure l.initial.world
