use Rattle.std.proofs.Common.{sym}
use Rattle.cli_words.proofs.Numbers.{no_files, bad_files, bad_seed, two_numbers}
use Rattle.cli_words.proofs.setting.seed_and_files.Goals as goal

pub returns-in_err-files : goal.returns-in_err-files
returns-in_err-files c = rw c.from_residual.ensures (no_files c.args.text.now (rw c.in_err-files.was at (sym c.cut_at.ensures.behind)))

pub returns-in_err-files-2 : goal.returns-in_err-files-2
returns-in_err-files-2 c =
    rw c.from_residual-in_err-files-2.ensures (bad_files c.args.text.now c.in_ok-files.field-0.now (rw c.in_ok-files.was at (sym c.cut_at.ensures.behind)) c.in_err-files-2.ensures)

pub returns-in_err-seed : goal.returns-in_err-seed
returns-in_err-seed c =
    rw c.from_residual-in_err-seed.ensures (bad_seed c.args.text.now (rw c.cut_at.ensures.before at c.in_err-seed.ensures))

pub returns : goal.returns
returns c =
    two_numbers c.args.text.now c.in_ok-files.field-0.now c.in_ok-seed.seed c.in_ok-files-2.files (rw c.in_ok-files.was at (sym c.cut_at.ensures.behind)) c.in_ok-files-2.ensures (rw c.cut_at.ensures.before at c.in_ok-seed.ensures)
