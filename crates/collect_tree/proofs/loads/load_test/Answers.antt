use Rattle.collect_tree.proofs.Turns.{load_on}
use Rattle.collect_tree.proofs.loads.load_test.Goals as goal

pub returns : goal.returns
returns c =
    λ places. load_on c.args.limit c.args.walk.now c.args.place places _ _ _ _ _ _ _ _ c.path_text-path.ensures c.in_ok-file.ensures c.in_ok-push_end.ensures
