use Rattle.std.proofs.Common.{ap, map, ◌∙◌}
use Rattle.std.specs.Prelude.{string_bytes, filter}
use Rattle.edge_io.specs.Files.{is_kept}
use Rattle.edge_io.proofs.KeptFiles.{lists_kept}
use Rattle.edge_io.proofs.files.kept_paths.Goals as goal

pub returns-clause-kept : goal.returns-clause-kept
returns-clause-kept g c =
    lists_kept _ _ _ _ c.in_ok-listed.ensures.paths (c.in_ok-kept.ensures ∙ ap (λ xs. filter is_kept (map string_bytes xs)) c.deref.ensures.value) c.in_ok-in_order.ensures.same c.in_ok-in_order.ensures.order
