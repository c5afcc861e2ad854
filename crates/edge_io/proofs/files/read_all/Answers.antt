use Rattle.std.proofs.Common.{arith, ◌∙◌, sym}
use Rattle.std.proofs.lemmas.Result.{err_from_is_err_and}
use Rattle.std.specs.Prelude.{string_bytes}
use Rattle.edge_io.specs.Files.{files_of}
use Rattle.edge_io.proofs.Reading.{at_path, cut_at, limit_in_middle, sizes_all}
use Rattle.edge_io.proofs.files.read_all.Goals as goal

pub read_one-requires-clause-found : goal.read_one-requires-clause-found
read_one-requires-clause-found g c x h = at_path x c.args.paths.now c.loop-path.path-index c.path-item.result (omega arith) c.path-item.is (c.requires x (sym c.loop-path.invariant.same ∙ h))

pub returns-in_err-bytes-clause-limit : goal.returns-in_err-bytes-clause-limit
returns-in_err-bytes-clause-limit g c =
    let p = err_from_is_err_and c.from_residual.result c.from_residual.ensures.1 in
    rw (p.1, p.2)
    (limit_in_middle _ _ _ _ _ _ _ (string_bytes c.path-item.result)
    (cut_at c.args.paths.now c.loop-path.path-index c.path-item.result (omega arith) c.path-item.is)
    c.loop-path.invariant.read c.loop-path.invariant.sizes
    (λ x h. at_path x c.args.paths.now c.loop-path.path-index c.path-item.result (omega arith) c.path-item.is (c.requires x h))
    (rw c.loop-path.invariant.same at c.in_err-bytes.ensures.limit))

pub returns-clause-fits : goal.returns-clause-fits
returns-clause-fits g c = sizes_all (files_of c.loop-path.pairs.items) _ c.loop-path.invariant.sizes
