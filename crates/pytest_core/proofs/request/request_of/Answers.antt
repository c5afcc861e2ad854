use Rattle.std.proofs.Common.{map, string_bytes, sym, ◌∙◌}
use Rattle.std.proofs.lemmas.Result.{IfOk-weaker}
use Rattle.pytest_core.proofs.Asked.{info_said, words_ask}
use Rattle.pytest_core.proofs.request.request_of.Goals as goal

pub returns-in-Some : goal.returns-in-Some
returns-in-Some c =
    info_said (map string_bytes c.args.words.now) c.in-Some.info (c.in_ok-tell_info.field-0.0.items, c.in_ok-tell_info.field-0.1) (sym c.in-Some.is ∙ c.asked_info.ensures) c.in_ok-tell_info.ensures.response

pub returns-in-Ok : goal.returns-in-Ok
returns-in-Ok c =
    IfOk-weaker c.options_request.result _ _ (λ q h. words_ask (map string_bytes c.args.words.now) c.in-Ok.options q (sym c.in_default.is ∙ c.asked_info.ensures) c.in-Ok.ensures.ok h) c.options_request.ensures
