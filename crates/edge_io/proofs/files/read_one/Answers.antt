use Rattle.std.proofs.Common.{arith}
use Rattle.std.proofs.lemmas.Result.{err_from_is_err_and}
use Rattle.edge_io.proofs.Reading.{cut_limit, read_whole}
use Rattle.edge_io.proofs.files.read_one.Goals as goal

pub returns-in_err-sum-clause-limit : goal.returns-in_err-sum-clause-limit
returns-in_err-sum-clause-limit g c =
    let p = err_from_is_err_and c.from_residual-in_err-sum.result c.from_residual-in_err-sum.ensures.1 in
    rw (p.1, p.2) (cut_limit _ _ _ c.in_ok-bytes.bytes.items _ c.len.result _ c.as_str.ensures.value (omega (arith, c.len.ensures, c.in_ok-bytes.bytes.ok.0)) c.in_ok-bytes.ensures.bytes c.in_err-sum.ensures.limit)

pub returns-clause-read : goal.returns-clause-read
returns-clause-read g c =
    read_whole _ _ _ c.in_ok-bytes.bytes.items 1048577 c.as_str.ensures.value c.requires.found c.in_ok-bytes.ensures.bytes (omega (arith, c.in_ok-sum.ensures.fits, c.len.ensures, c.in_ok-bytes.bytes.ok.0))
