use Rattle.std.proofs.Common.{◌∙◌}
use Rattle.std.specs.Prelude.{string_bytes}
use Rattle.std.proofs.lemmas.List.{nil_from_length}
use Rattle.report_text.proofs.Stretches.{no_plain, plain_pieces}
use Rattle.report_text.proofs.running.push_plain_lines.Goals as goal

pub returns-in_default : goal.returns-in_default
returns-in_default c = no_plain (string_bytes c.args.out.now) c.args.reports.now c.args.places.now (nil_from_length c.args.reports.now c.in_default.ensures.cases)

pub returns : goal.returns
returns c =
    plain_pieces (string_bytes c.args.out.now) (string_bytes c.push_start.new.out) (string_bytes c.push_letters.new.out) (string_bytes c.push_other_lines.new.out) c.args.reports.now c.in-Some.others.now c.in-Some.first.now c.args.places.now c.places_behind.result.now c.copied.result c.in-Some.ensures.cases.0 (c.copied.ensures ∙ c.first.ensures.value) c.places_behind.ensures c.in_ok-push_start.ensures c.in_ok-push_letters.ensures c.in_ok-push_other_lines.ensures
