use Rattle.std.proofs.Common.{◌≡◌, false, true, [], refl, arith, append_assoc, append-nil, length-append}
use Rattle.std.proofs.lemmas.List.{at_drop_more, at_drop_all}
use Rattle.text_methods.specs.Pieces.{has_room, joined_behind}
use Rattle.text_methods.proofs.Rooms.{room, short, no_room}
use Rattle.text_methods.proofs.pieces.joined_behind.Goals as goal

pub returns-then-not-has_room : goal.returns-then-not-has_room
returns-then-not-has_room c =
    let b : has_room c.args.first.now [] [] ≡ false = cc in
    no_room c.args.first.now [] [] (joined_behind c.args.sep.now c.args.pieces.now) b

pub loop-piece-init : goal.loop-piece-init
loop-piece-init c =
    let b : has_room c.args.first.now [] [] ≡ true = cc in
    record {
      rest = rw (c.in_ok-extend_from_slice.ensures.items, c.new-chars.ensures.items) refl;
      short = rw (c.in_ok-extend_from_slice.ensures.items, c.new-chars.ensures.items) (omega (arith, room c.args.first.now [] [] b));
    }

pub returns-then-not-has_room-2 : goal.returns-then-not-has_room-2
returns-then-not-has_room-2 c =
    let b : has_room c.loop-piece.chars.items c.args.sep.now c.piece-item.result ≡ false = cc in
    rw (c.loop-piece.invariant.rest, at_drop_more (joined_behind c.args.sep.now) c.args.pieces.now c.loop-piece.piece-index c.piece-item.result (omega arith), ← c.piece-item.is)
    (no_room c.loop-piece.chars.items c.args.sep.now c.piece-item.result _ b)

pub loop-piece-preserved : goal.loop-piece-preserved
loop-piece-preserved c =
    let b : has_room c.loop-piece.chars.items c.args.sep.now c.piece-item.result ≡ true = cc in
    record {
      rest = rw (c.in_ok-extend_from_slice-3.ensures.items, c.in_ok-extend_from_slice-2.ensures.items, c.chars-in-loop-piece.ensures, append_assoc, append_assoc)
          (rw (at_drop_more (joined_behind c.args.sep.now) c.args.pieces.now c.loop-piece.piece-index c.piece-item.result (omega arith), ← c.piece-item.is) at c.loop-piece.invariant.rest);
      short = rw (c.in_ok-extend_from_slice-3.ensures.items, c.in_ok-extend_from_slice-2.ensures.items, c.chars-in-loop-piece.ensures, length-append, length-append)
          (omega (arith, room c.loop-piece.chars.items c.args.sep.now c.piece-item.result b));
    }

pub returns : goal.returns
returns c =
    rw (c.in_ok-from_chars.ensures, c.deref-2.ensures.value, c.loop-piece.invariant.rest, at_drop_all (joined_behind c.args.sep.now) c.args.pieces.now c.loop-piece.piece-index (omega arith), append-nil)
    (short c.loop-piece.chars.items c.loop-piece.invariant.short)
