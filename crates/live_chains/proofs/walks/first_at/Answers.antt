use Rattle.std.proofs.Common.{ap, sym, ◌∙◌, Some}
use Rattle.std.specs.Option.{option_map}
use Rattle.live_chains.specs.Chained.{id_of}
use Rattle.live_chains.specs.Walked.{first_at}
use Rattle.live_chains.proofs.Stepped.{left_all, in_use, goes, stands_at}
use Rattle.live_chains.proofs.Found.{first_here, first_there}
use Rattle.live_chains.proofs.walks.first_at.Goals as goal

pub loop-at-init : goal.loop-at-init
loop-at-init c =
    let w = left_all c.args.cells.now c.args.head c.requires c.first-at.result c.first-at.ensures in
    record { walk = w.0; same = ap (first_at c.args.def c.args.node) w.1 }

pub get-one-requires : goal.get-one-requires
get-one-requires c = in_use c.args.cells.now c.args.head c.loop-at.at c.in-Some.cell c.in-Some.is c.loop-at.invariant.walk

pub returns-then-is_at : goal.returns-then-is_at
returns-then-is_at c =
    let s = stands_at c.args.cells.now c.args.head c.requires c.loop-at.at c.in-Some.cell c.in-Some.is c.loop-at.invariant.walk c.get-one.result.now c.get-one.ensures in
    ap Some c.new.ensures
    ∙ ap (option_map id_of) (sym (first_here c.args.def c.args.node (c.in-Some.cell, c.get-one.result.now) s.0 (sym c.is_at.ensures ∙ c.if-is_at.true)) ∙ (ap (first_at c.args.def c.args.node) (sym s.1) ∙ c.loop-at.invariant.same))

pub next-at-requires : goal.next-at-requires
next-at-requires c = in_use c.args.cells.now c.args.head c.loop-at.at c.in-Some.cell c.in-Some.is c.loop-at.invariant.walk

pub loop-at-smaller : goal.loop-at-smaller
loop-at-smaller c = (goes c.args.cells.now c.args.head c.requires c.loop-at.at c.in-Some.cell c.in-Some.is c.loop-at.invariant.walk c.get-one.result.now c.next-at.result c.get-one.ensures c.next-at.ensures).less

pub loop-at-preserved : goal.loop-at-preserved
loop-at-preserved c =
    let s = goes c.args.cells.now c.args.head c.requires c.loop-at.at c.in-Some.cell c.in-Some.is c.loop-at.invariant.walk c.get-one.result.now c.next-at.result c.get-one.ensures c.next-at.ensures in
    record {
      walk = s.walk;
      same = sym (first_there c.args.def c.args.node (c.in-Some.cell, c.get-one.result.now) _ (sym c.is_at.ensures ∙ c.if-is_at.false)) ∙ (ap (first_at c.args.def c.args.node) (sym s.here) ∙ c.loop-at.invariant.same);
    }
