use Rattle.std.proofs.Common.{arith}
use Rattle.share_files.proofs.Kept.{draws_allowed}
use Rattle.share_files.proofs.feed.draw.Goals as goal

pub fetch_add-requires : goal.fetch_add-requires
fetch_add-requires c =
    let o = c.requires.own in
    (c.requires.table.0, omega (arith, c.requires.table.1), draws_allowed c.args.shared.now.key c.args.shared.now.table_id.slots c.args.seat.now.id o.0 o.1 c.args.seat.now.me o.2 o.3)
