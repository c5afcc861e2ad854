use Rattle.collect_tree.proofs.Fits.{collected_fits}
use Rattle.collect_tree.proofs.law.what_is_collected_fits.Goals as goal

pub returns : goal.returns
returns c = λ options sources collected same rules depth scopes. collected_fits options sources collected same rules depth scopes
