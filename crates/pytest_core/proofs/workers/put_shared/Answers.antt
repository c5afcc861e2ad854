use Rattle.std.proofs.Common.{List, ℕ, ap, ap₂, arith, length, map, ◌∙◌}
use Rattle.worker_sessions.specs.collect_tree.Told.{collected_told}
use Rattle.worker_groups.specs.Numbers.{number_groups}
use Rattle.pytest_core.proofs.ByWorkers.{few_sizes, sized_as, some_sizes, wants_asks, wants_some, wants_whole, whole_of}
use Rattle.pytest_core.proofs.workers.put_shared.Goals as goal

pub sizes_by_file-requires : goal.sizes_by_file-requires
sizes_by_file-requires g c = (let few = c.requires.within.few in let same = ap length c.items-numbers.ensures in omega (arith, few, same))

pub put_sized-requires-clause-asks : goal.put_sized-requires-clause-asks
put_sized-requires-clause-asks g c κs within = wants_asks c.args.options.now c.args.collected.selected c.args.collected.errors.items c.requires.wants

pub put_sized-requires-clause-few : goal.put_sized-requires-clause-few
put_sized-requires-clause-few g c κs within =
    few_sizes c.args.collected c.in-Ok.sizes.items (c.in-Ok.ensures ∙ ap₂ (λ (p n : List ℕ). map (λ group. length group) (number_groups p n)) c.as_slice-places.ensures.value c.items-numbers.ensures) c.requires.within.few

pub put_sized-requires-clause-some : goal.put_sized-requires-clause-some
put_sized-requires-clause-some g c κs within =
    some_sizes c.in-Ok.sizes.items c.args.collected.places.items c.args.collected.selected (c.in-Ok.ensures ∙ ap₂ (λ (p n : List ℕ). map (λ group. length group) (number_groups p n)) c.as_slice-places.ensures.value c.items-numbers.ensures)
    (wants_some c.args.options.now c.args.collected.selected c.args.collected.errors.items c.requires.wants)

pub put_sized-requires-clause-collected : goal.put_sized-requires-clause-collected
put_sized-requires-clause-collected g c κs within = (
  collected_told c.args.collected c.args.world,
  c.requires.collects,
  sized_as c.args.collected c.args.world c.in-Ok.sizes.items (c.in-Ok.ensures ∙ ap₂ (λ (p n : List ℕ). map (λ group. length group) (number_groups p n)) c.as_slice-places.ensures.value c.items-numbers.ensures),
)

pub returns-in-Ok-clause-wrote : goal.returns-in-Ok-clause-wrote
returns-in-Ok-clause-wrote g c =
    c.put_sized.ensures.wrote (collected_told c.args.collected c.args.world) c.requires.collects
    (sized_as c.args.collected c.args.world c.in-Ok.sizes.items (c.in-Ok.ensures ∙ ap₂ (λ (p n : List ℕ). map (λ group. length group) (number_groups p n)) c.as_slice-places.ensures.value c.items-numbers.ensures))
    (whole_of c.args.collected c.args.world (length c.items-numbers.result.now) (ap length c.items-numbers.ensures) (wants_whole c.args.options.now c.args.collected.selected c.args.collected.errors.items c.requires.wants))
