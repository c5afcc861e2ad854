use Rattle.std.proofs.Common.{rules, arith, ◌≡◌, ◌∙◌, sym, ap, true, false, Some, None}
use Rattle.std.specs.Prelude.{◌||◌}
use Rattle.std.specs.List.{list_any}
use Rattle.std.proofs.lemmas.Str.Pattern.{split_parts}
use Rattle.edge_io.specs.Files.{folders_of, is_skipped_folder}
use Rattle.edge_io.proofs.Folders.{folders_none, folders_more}
use Rattle.edge_io.proofs.files.has_skipped_folder.Goals as goal

pub returns-then-is_skipped : goal.returns-then-is_skipped
returns-then-is_skipped c =
    let parts = split_parts 47 c.loop-folder.rest.now (Some (c.in-Some.folder, c.in-Some.behind)) c.in-Some.ensures.cases (omega arith) in
    let more = folders_more c.loop-folder.rest.now c.in-Some.folder.now c.in-Some.behind.now parts.0 parts.1 in
    let skipped : is_skipped_folder c.in-Some.folder.now ≡ true = sym c.is_skipped.ensures ∙ c.if-is_skipped.true in
    sym (c.loop-folder.invariant.rest ∙ (ap (list_any is_skipped_folder) more ∙ ap (λ b. b || list_any is_skipped_folder (folders_of c.in-Some.behind.now)) skipped))

pub loop-folder-preserved : goal.loop-folder-preserved
loop-folder-preserved c =
    let parts = split_parts 47 c.loop-folder.rest.now (Some (c.in-Some.folder, c.in-Some.behind)) c.in-Some.ensures.cases (omega arith) in
    let more = folders_more c.loop-folder.rest.now c.in-Some.folder.now c.in-Some.behind.now parts.0 parts.1 in
    let kept : is_skipped_folder c.in-Some.folder.now ≡ false = sym c.is_skipped.ensures ∙ c.if-is_skipped.false in
    record {
      text = search rules;
      rest = c.loop-folder.invariant.rest ∙ (ap (list_any is_skipped_folder) more ∙ ap (λ b. b || list_any is_skipped_folder (folders_of c.in-Some.behind.now)) kept);
    }

pub returns : goal.returns
returns c = sym (c.loop-folder.invariant.rest ∙ ap (list_any is_skipped_folder) (folders_none c.loop-folder.rest.now (split_parts 47 c.loop-folder.rest.now None c.in_default.ensures.cases (omega arith))))
