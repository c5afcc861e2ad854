use Rattle.std.proofs.Common.{◌<◌, arith, length, ◌∙◌, sym, slice_index_or, false}
use Rattle.fixture_table.specs.Marks.{row_of}
use Rattle.fixture_table.specs.Faults.{Once}
use Rattle.fixture_table.proofs.Reached.{among_at, all_listed, sound_more, first_more, done_more, marked_in}
use Rattle.std.proofs.lemmas.List.{get_or_default}
use Rattle.fixture_table.proofs.reaching.is_reached.Goals as goal

pub loop-place-init : goal.loop-place-init
loop-place-init c =
    let members = rw c.new-reached.ensures.items at c.in_ok-mark_asked.ensures.members in
    record {
      marks = c.in_ok-mark_asked.ensures.marks;
      size = omega (arith, c.mark_asked.ensures.size, c.in_ok-seen.ensures.len, c.in_ok-seen.seen.ok.0);
      sound = λ e h. Once c.args.from e (sym (members e) ∙ h);
      first = λ e h. members e ∙ h;
      done = λ p e lt. absurd (omega arith);
    }

pub returns-then-place-len-clause-no : goal.returns-then-place-len-clause-no
returns-then-place-len-clause-no c = λ r.
    let listed = all_listed (row_of c.args.asks.now) c.loop-place.reached.items c.args.from c.loop-place.place (omega (arith, c.loop-place.reached.ok.0)) c.loop-place.invariant.first c.loop-place.invariant.done c.args.from r in
    c.index.ensures ∙ get_or_default c.loop-place.seen.items c.args.from c.index.result.now false (omega (arith, c.loop-place.invariant.size, c.requires.from)) ∙ c.loop-place.invariant.marks c.args.from ∙ listed

pub mark_asked-requires-in-loop-place-clause-at : goal.mark_asked-requires-in-loop-place-clause-at
mark_asked-requires-in-loop-place-clause-at c =
    let lt : c.loop-place.place < length c.loop-place.reached.items = omega (arith, c.loop-place.reached.ok.0) in
    let at = c.index-at.ensures ∙ get_or_default c.loop-place.reached.items c.loop-place.place c.index-at.result.now 0 lt in
    let there = c.loop-place.invariant.marks (slice_index_or c.loop-place.reached.items c.loop-place.place 0) ∙ among_at c.loop-place.reached.items c.loop-place.place lt in
    rw at (let h = marked_in c.loop-place.seen.items (slice_index_or c.loop-place.reached.items c.loop-place.place 0) there in omega (arith, c.loop-place.invariant.size))

pub loop-place-preserved : goal.loop-place-preserved
loop-place-preserved c =
    let lt : c.loop-place.place < length c.loop-place.reached.items = omega (arith, c.loop-place.reached.ok.0) in
    let at = sym (c.index-at.ensures ∙ get_or_default c.loop-place.reached.items c.loop-place.place c.index-at.result.now 0 lt) in
    record {
      marks = c.in_ok-mark_asked-2.ensures.marks;
      size = c.mark_asked-in-loop-place.ensures.size ∙ c.loop-place.invariant.size;
      sound = sound_more (row_of c.args.asks.now) c.args.from c.loop-place.place c.index-at.result.now c.loop-place.reached.items c.mark_asked-in-loop-place.new.reached.items c.in_ok-mark_asked-2.ensures.members c.in_ok-mark_asked-2.ensures.keeps lt at c.loop-place.invariant.sound;
      first = first_more (row_of c.args.asks.now) c.args.from c.loop-place.place c.index-at.result.now c.loop-place.reached.items c.mark_asked-in-loop-place.new.reached.items c.in_ok-mark_asked-2.ensures.members c.in_ok-mark_asked-2.ensures.keeps lt at c.loop-place.invariant.first;
      done = done_more (row_of c.args.asks.now) c.args.from c.loop-place.place c.index-at.result.now c.loop-place.reached.items c.mark_asked-in-loop-place.new.reached.items c.in_ok-mark_asked-2.ensures.members c.in_ok-mark_asked-2.ensures.keeps lt at c.loop-place.invariant.done;
    }

pub returns-clause-no : goal.returns-clause-no
returns-clause-no c = λ r.
    let listed = all_listed (row_of c.args.asks.now) c.loop-place.reached.items c.args.from c.loop-place.place (omega (arith, c.loop-place.reached.ok.0, c.loop-place.reached.small)) c.loop-place.invariant.first c.loop-place.invariant.done c.args.from r in
    c.index-2.ensures ∙ get_or_default c.loop-place.seen.items c.args.from c.index-2.result.now false (omega (arith, c.loop-place.invariant.size, c.requires.from)) ∙ c.loop-place.invariant.marks c.args.from ∙ listed
