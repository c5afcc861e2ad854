-- The branches of a choice from a place on.
use Rattle.std.proofs.Common.{◌≡◌, ℕ, List, [], ◌∷◌, Option, ap, refl, arith, ◌∙◌, ◌+◌, drop, get_or, length, ◌<◌, ◌≤◌}
use Rattle.std.proofs.Math.ListN.{drop_of_length-le}
use Rattle.std.specs.List.{sum_by}
use Rattle.std.proofs.lemmas.List.Sums.{sum_by-cons}
use Rattle.py_core.specs.Blocks.{stmts_in}
use Rattle.py_core.specs.declared.stmt.CoreBlock.{CoreBlock}
use Rattle.py_core.specs.declared.stmt.CoreBranch as branch
use Rattle.py_core.specs.declared.stmt.CoreStmt.{CoreStmt}
use Rattle.py_values.specs.declared.value.Value.{Value}
use Rattle.machine_state.specs.py_world.Outcome.{Next}
use Rattle.machine_state.specs.py_world.Site.{Scene, Site}
use Rattle.machine_state.specs.py_world.Statements.{branches_on, choose}
use Rattle.machine_state.specs.py_world.World.{state}
use Rattle.machine_state.specs.core_meaning.Requests.{Layer}
use Rattle.machine_state.specs.core_meaning.Statements.{core_block_body, block_from, choice, choices}
use Rattle.machine_state.specs.Places.{CoreState, CoreThen, ends}
use Rattle.machine_state.specs.Work.{branch_work}
use Rattle.machine_assign.proofs.machine_turns_lemmas.Lists.{drop_some}

pub choices_some : (ls : List Layer) (bs : List branch.CoreBranch) (i : ℕ) (b : branch.CoreBranch) → i < length bs → b ≡ get_or bs i b → choices ls (drop i bs) ≡ choice ls b ∷ choices ls (drop (i + 1) bs)
choices_some ls bs i b w h = ap (choices ls) (drop_some bs i b w h)

pub choices_none : (ls : List Layer) (bs : List branch.CoreBranch) (i : ℕ) → length bs ≤ i → choices ls (drop i bs) ≡ []
choices_none ls bs i h = ap (choices ls) (drop_of_length-le bs h)

pub branches_weigh : (bs : List branch.CoreBranch) (i : ℕ) (b : branch.CoreBranch) → i < length bs → b ≡ get_or bs i b
    → sum_by branch_work (drop i bs) ≡ branch_work b + sum_by branch_work (drop (i + 1) bs)
branches_weigh bs i b w h = ap (sum_by branch_work) (drop_some bs i b w h) ∙ sum_by-cons {X = branch.CoreBranch} branch_work b (drop (i + 1) bs)

-- a block without statements is over
block_ends : (ls : List Layer) (b : CoreBlock) (sts : List CoreStmt) (scene : Scene) (s : CoreState) (k : CoreThen) → length sts ≡ 0 → block_from ls b 0 sts scene s k ≡ k (Next s)
block_ends ls b [] scene s k h = refl
block_ends ls b (st ∷ sts) scene s k h = absurd (omega arith)

pub block_empty : (ls : List Layer) (b : CoreBlock) (scene : Scene) (s : CoreState) (k : CoreThen) → length (stmts_in b) ≡ 0 → core_block_body ls b scene s k ≡ k (Next s)
block_empty ls b scene s k h = block_ends ls b (stmts_in b) scene s k h

-- a choice begins with its first branch, and no temporary
pub choice_starts : (n : ℕ) (ls : List Layer) (bs copied : List branch.CoreBranch) (other last : CoreBlock) (temps : List (Option Value)) (p : Site) (s : CoreState) (k : CoreThen) → copied ≡ bs → last ≡ other → temps ≡ []
    → ends n (branches_on (choices ls (drop 0 copied)) (core_block_body ls last) p.scene (state s.locals temps s.world) k) ≡ ends n (choose (choices ls bs) (core_block_body ls other) p s k)
choice_starts n ls bs copied other last temps p s k same alike none = rw (same, alike, none) refl
