use Rattle.std.proofs.Common.{◌∙◌, ap, map, List}
use Rattle.run_items.proofs.Doings.{object_more, object_same}
use Rattle.run_items.specs.Stands.{object_noted, stand_state}
use Rattle.run_items.specs.declared.stand.ItemObject.{ItemObject as StandObject}
use Rattle.run_items.proofs.opening.new_object.Goals as goal

pub returns : goal.returns
returns c =
    let stand = c.args.stand.now in
    let item = c.args.item.now in
    object_same c.args.plan.now item c.requires.item (stand_state stand) c.in_ok-object.object c.make_item.new.world (map object_noted c.push.new.self) c.in_ok-object.ensures
    (ap (λ (l : List StandObject). map object_noted l) c.in_ok-push.ensures.ok ∙ object_more stand.objects (record { node = item.node; object = c.in_ok-object.object }))
