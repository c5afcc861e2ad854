use Rattle.collect_ids.proofs.hook.behind_value.Goals as goal

pub yielded_again-requires : goal.yielded_again-requires
yielded_again-requires c = record { out = rw c.in-Yielded.is at c.requires.out }
