use Rattle.std.proofs.Common.{◌≡◌, false, true}
use Rattle.std.specs.Str.Parse.{digits_value}
use Rattle.cli_words.specs.Values.{is_number}
use Rattle.cli_words.proofs.Numbers.{parsed, no_number, number_outside, number_within}
use Rattle.cli_words.proofs.setting.number.Goals as goal

pub returns-then-not-is_number : goal.returns-then-not-is_number
returns-then-not-is_number c =
    let is : is_number c.args.text.now ≡ false = rw (← c.as_bytes.ensures.value, ← c.is_number.ensures) c.if-not-is_number.true in
    no_number c.args.low c.args.high c.args.text.now is

pub returns-in_err-number : goal.returns-in_err-number
returns-in_err-number c =
    let is : is_number c.args.text.now ≡ true = rw (← c.as_bytes.ensures.value, ← c.is_number.ensures) c.if-not-is_number.false in
    let p = parsed c.args.text.now c.parse.result c.parse.ensures.value.0 is in
    let q = rw p at c.ok.ensures.value in
    cc (q, c.in_err-number.was)

pub returns-then-number-low : goal.returns-then-number-low
returns-then-number-low c =
    let is : is_number c.args.text.now ≡ true = rw (← c.as_bytes.ensures.value, ← c.is_number.ensures) c.if-not-is_number.false in
    let p = parsed c.args.text.now c.parse.result c.parse.ensures.value.0 is in
    let q = rw p at c.ok.ensures.value in
    let n : c.in_ok-number.number ≡ digits_value 10 c.args.text.now = cc (q, c.in_ok-number.was) in
    number_outside c.args.low c.args.high c.in_ok-number.number c.args.text.now is n c.then-number-low.either

pub returns : goal.returns
returns c =
    let is : is_number c.args.text.now ≡ true = rw (← c.as_bytes.ensures.value, ← c.is_number.ensures) c.if-not-is_number.false in
    let p = parsed c.args.text.now c.parse.result c.parse.ensures.value.0 is in
    let q = rw p at c.ok.ensures.value in
    let n : c.in_ok-number.number ≡ digits_value 10 c.args.text.now = cc (q, c.in_ok-number.was) in
    number_within c.args.low c.args.high c.in_ok-number.number c.args.text.now is n c.if-number-low.false c.if-high-number.false
