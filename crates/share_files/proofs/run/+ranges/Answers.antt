use Rattle.std.proofs.Common.{rules, ◌≡◌, ◌+◌, ◌++◌, length, arith, ap, OnOk}
use Rattle.std.proofs.iter.Serving.{serving}
use Rattle.share_files.specs.Work.{IsRange, HaveRun, held_lists}
use Rattle.share_files.proofs.Kept.{halves_kept, joined_kept}
use Rattle.share_files.proofs.Ranges.{beside, ran_both}
use Rattle.share_files.proofs.Feeding.{lower_blank, upper_blank}
use Rattle.share_files.proofs.run.+ranges.Goals as goal

pub run_halves-split_seat-requires : goal.run_halves-split_seat-requires
run_halves-split_seat-requires g t c = (c.requires.seat.0, omega (arith, c.args.crew.now.one_word), halves_kept c.args.crew.now.shared.now.key c.args.seat.id c.args.seat.me.0)

pub run_halves-join_mut-seat-requires-after_bounds :
    goal.run_halves-join_mut-seat-requires-after_bounds
run_halves-join_mut-seat-requires-after_bounds g t c κs within =
    let a = length c.args.low.now in
    let b = length c.args.high.now in
    let low = lower_blank c.args.first a b c.args.seat.me c.requires.seat.1 c.requires.halves in
    let high = upper_blank c.args.first a b c.args.seat.me c.requires.seat.1 c.requires.halves in
    grind (serving, low, high)

pub run_halves-join_seat-requires : goal.run_halves-join_seat-requires
run_halves-join_seat-requires g t c =
    let a = length c.args.low.now in
    let b = length c.args.high.now in
    let below = c.join_mut-seat.result.0.0 in
    let above = c.join_mut-seat.result.1.0 in
    let low_table : below.table_id ≡ c.args.crew.now.shared.now.table_id = search rules in
    let high_table : above.table_id ≡ c.args.crew.now.shared.now.table_id = search rules in
    let low : IsRange c.args.first a below.me = search rules in
    let high : IsRange (c.args.first + a) b above.me = search rules in
    (low_table, high_table, ap (λ m. m.1) high.0, omega (arith, c.args.crew.now.one_word), joined_kept c.args.crew.now.shared.now.key below.id above.id below.me.0 above.me.0 (beside c.args.first a b below.me above.me low high))

pub run_halves-returns-clause-ran : goal.run_halves-returns-clause-ran
run_halves-returns-clause-ran g t c =
    let a = length c.args.low.now in
    let b = length c.args.high.now in
    let below = c.join_mut-seat.result.0.0 in
    let above = c.join_mut-seat.result.1.0 in
    let low : IsRange c.args.first a below.me = search rules in
    let ran_low : OnOk c.join_mut-seat.result.0.1 (HaveRun g.W.Worker.works c.args.crew.now.groups c.args.first below.me.0.lists c.args.low.now (held_lists c.low_lists-1.given.0) c.low-1.given.0) = search rules in
    let ran_high : OnOk c.join_mut-seat.result.1.1 (HaveRun g.W.Worker.works c.args.crew.now.groups (c.args.first + a) above.me.0.lists c.args.high.now (held_lists c.high_lists-1.given.0) c.high-1.given.0) = search rules in
    let lists : c.join_seat.new.seat.me.0.lists ≡ below.me.0.lists ++ above.me.0.lists = ap (λ m. m.0.lists) c.join_seat.ensures.2 in
    rw (c.and.ensures, lists) (ran_both g.W.Worker.works c.args.crew.now.groups c.args.first a c.join_mut-seat.result.0.1 c.join_mut-seat.result.1.1 below.me.0.lists above.me.0.lists c.args.low.now c.args.high.now c.low_lists-1.given.0 c.high_lists-1.given.0 c.low-1.given.0 c.high-1.given.0 low.1 ran_low ran_high)
