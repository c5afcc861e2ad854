use Rattle.std.proofs.Common.{◌≡◌, ◌+◌, drop, sym, ap, subst, ◌∙◌, Global}
use Rattle.std.specs.Prelude.{option_map}
use Rattle.std.specs.Map.Iter.{deref_pair}
use Rattle.std.specs.declared.vec.Vec.{Vec}
use Rattle.conftest_hooks.proofs.Read as read
use Rattle.conftest_hooks.specs.Reading as reading
use Rattle.conftest_hooks.specs.declared.looking.FoundHook.{FoundHook}
use Rattle.conftest_hooks.proofs.reading.hooks_among.Goals.{in-Other, in-Found+in_ok-push-in-Found}
use Rattle.conftest_hooks.proofs.reading.hooks_among.Goals as goal

pub returns-in_default : goal.returns-in_default
returns-in_default c =
    read.whole c.args.heap.now c.args.folder.now c.args.names.now c.loop-at.at c.loop-at.found.items _ c.loop-at.invariant (ap (option_map deref_pair) (sym c.in_default.is) ∙ c.entry.ensures)

pub returns-in-Faulty : goal.returns-in-Faulty
returns-in-Faulty c =
    read.faulty c.args.heap.now c.args.folder.now c.args.names.now c.loop-at.at c.loop-at.found.items _ c.loop-at.invariant (c.in-Some.name.now, c.in-Some.v.now) c.in_ok-looked_at.field-0 c.in-Faulty.fault
    (ap (option_map deref_pair) (sym c.in-Some.is) ∙ c.entry.ensures)
    (c.in_ok-looked_at.ensures ∙ ap (λ name. reading.looked_at c.args.heap.now c.args.folder.now (name, c.in-Some.v.now)) c.text.ensures) c.in-Faulty.is

pub loop-at-preserved : goal.loop-at-preserved
loop-at-preserved c =
    let q = ap (option_map deref_pair) (sym c.in-Some.is) ∙ c.entry.ensures in
    let k = c.in_ok-looked_at.ensures ∙ ap (λ name. reading.looked_at c.args.heap.now c.args.folder.now (name, c.in-Some.v.now)) c.text.ensures in
    elim c.match-branch-2.branch [
      | in-Other w ↦ subst (λ (x : Vec FoundHook Global). read.behind x.items (reading.hooks_among c.args.heap.now c.args.folder.now (drop (c.loop-at.at + 1) c.args.names.now)) ≡ reading.hooks_among c.args.heap.now c.args.folder.now c.args.names.now) (sym w.found-is)
          (read.other c.args.heap.now c.args.folder.now c.args.names.now c.loop-at.at c.loop-at.found.items _ c.loop-at.invariant (c.in-Some.name.now, c.in-Some.v.now) c.in_ok-looked_at.field-0 q k w.in-Other.is)
      | in-Found+in_ok-push-in-Found w ↦ read.found c.args.heap.now c.args.folder.now c.args.names.now c.loop-at.at c.loop-at.found.items _ c.loop-at.invariant (c.in-Some.name.now, c.in-Some.v.now) c.in_ok-looked_at.field-0 w.in-Found.hook
          c.match-branch-2.found.items q k w.in-Found.is (ap (λ (x : Vec FoundHook Global). x.items) w.found-is ∙ w.in_ok-push-in-Found.ensures.items)
    ]
