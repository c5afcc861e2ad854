use Rattle.session_frames.proofs.Collected.{none_out}
use Rattle.session_frames.proofs.law.collection_leaves_no_frame_out.Goals as goal

pub returns : goal.returns
returns c =
    let k = c.source_code_keeps_its_world.ensures in
    λ options sources collected same n. none_out k.loads k.calls k.begins k.resumes options sources collected same n
