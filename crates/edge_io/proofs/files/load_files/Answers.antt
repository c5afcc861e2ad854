use Rattle.std.proofs.Common.{arith, ap, map, ◌∙◌, length}
use Rattle.std.specs.Prelude.{string_bytes}
use Rattle.std.proofs.lemmas.List.{length-map}
use Rattle.std.proofs.lemmas.Result.{err_from_is_err_and}
use Rattle.edge_io.specs.Files.{files_of}
use Rattle.edge_io.proofs.KeptFiles.{few_limit, length-paths_of, length_of_map, many_kept, read_kept, size_kept}
use Rattle.edge_io.proofs.files.load_files.Goals as goal

pub returns-then-len-gt-FILES_MOST-clause-limit : goal.returns-then-len-gt-FILES_MOST-clause-limit
returns-then-len-gt-FILES_MOST-clause-limit g c =
    many_kept _ (map string_bytes c.in_ok-paths.paths.items) c.in_ok-paths.ensures.kept
    (rw length-map (omega (arith, c.if-len-gt-FILES_MOST.true, c.len.ensures, c.in_ok-paths.paths.ok.0)))

pub returns-in_err-pairs-clause-limit : goal.returns-in_err-pairs-clause-limit
returns-in_err-pairs-clause-limit g c =
    let p = err_from_is_err_and c.from_residual-in_err-pairs.result c.from_residual-in_err-pairs.ensures.1 in
    rw (p.1, p.2)
    (size_kept _ _ (map string_bytes c.in_ok-paths.paths.items) c.in_ok-paths.ensures.kept
    (rw length-map (omega (arith, c.if-len-gt-FILES_MOST.false, c.len.ensures, c.in_ok-paths.paths.ok.0)))
    (rw (c.deref.ensures.value, c.in_ok-paths.ensures.same) at c.in_err-pairs.ensures.limit))

pub returns-clause-fits : goal.returns-clause-fits
returns-clause-fits g c =
    few_limit (files_of c.in_ok-pairs.pairs.items) _
    (omega (arith, ap length (c.in_ok-pairs.ensures.paths ∙ ap (map string_bytes) c.deref.ensures.value), length-paths_of (files_of c.in_ok-pairs.pairs.items), length_of_map c.in_ok-paths.paths.items, c.if-len-gt-FILES_MOST.false, c.len.ensures, c.in_ok-paths.paths.ok.0))
    c.in_ok-pairs.ensures.fits

pub returns-clause-kept : goal.returns-clause-kept
returns-clause-kept g c =
    read_kept _ (files_of c.in_ok-pairs.pairs.items) (map string_bytes c.in_ok-paths.paths.items) c.in_ok-paths.ensures.kept
    (rw (c.deref.ensures.value, c.in_ok-paths.ensures.same) at c.in_ok-pairs.ensures.read)
