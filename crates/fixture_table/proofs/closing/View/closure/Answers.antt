use Rattle.std.proofs.Common.{inr, sym}
use Rattle.fixture_table.specs.Closing.{first_entries}
use Rattle.fixture_table.proofs.Closed.{first_single, shut, single_grown}
use Rattle.fixture_table.proofs.Positions.{back, out}
use Rattle.fixture_table.proofs.Settles.{closure_known, settled}
use Rattle.fixture_table.proofs.closing.View.closure.Goals as goal

pub asks-requires-clause-shut : goal.asks-requires-clause-shut
asks-requires-clause-shut c = rw c.deref.ensures.value (shut c.args.self.now.nodes.now c.args.self.now.defs.now c.args.self.now.item c.args.self.now.bound.now
    (first_entries c.args.self.now.nodes.now c.args.self.now.defs.now c.args.self.now.item c.args.self.now.bound.now c.args.uses.now c.args.args.now) c.in_ok-entries.entries.items c.in_ok-entries.ensures.ok)

pub judge-requires-clause-out : goal.judge-requires-clause-out
judge-requires-clause-out c =
    let first = first_entries c.args.self.now.nodes.now c.args.self.now.defs.now c.args.self.now.item c.args.self.now.bound.now c.args.uses.now c.args.args.now in
    let single = single_grown c.args.self.now.nodes.now c.args.self.now.defs.now c.args.self.now.item c.args.self.now.bound.now first 0 c.in_ok-entries.entries.items c.in_ok-entries.ensures.ok (first_single c.args.self.now.nodes.now c.args.self.now.defs.now c.args.self.now.item c.args.self.now.bound.now c.args.uses.now c.args.args.now) in
    rw c.deref-2.ensures.value (rw c.deref-3.ensures.value (λ p d lt at r. out c.args.self.now.nodes.now c.args.self.now.defs.now c.args.self.now.item c.args.self.now.bound.now c.in_ok-entries.entries.items single c.in_ok-asks.asks.items
    (rw (sym c.deref.ensures.value) c.in_ok-asks.ensures) p p d d lt at at r))

pub judge-requires-clause-back : goal.judge-requires-clause-back
judge-requires-clause-back c =
    let first = first_entries c.args.self.now.nodes.now c.args.self.now.defs.now c.args.self.now.item c.args.self.now.bound.now c.args.uses.now c.args.args.now in
    let single = single_grown c.args.self.now.nodes.now c.args.self.now.defs.now c.args.self.now.item c.args.self.now.bound.now first 0 c.in_ok-entries.entries.items c.in_ok-entries.ensures.ok (first_single c.args.self.now.nodes.now c.args.self.now.defs.now c.args.self.now.item c.args.self.now.bound.now c.args.uses.now c.args.args.now) in
    rw c.deref-2.ensures.value (rw c.deref-3.ensures.value (λ p d lt at r. back c.args.self.now.nodes.now c.args.self.now.defs.now c.args.self.now.item c.args.self.now.bound.now c.in_ok-entries.entries.items single c.in_ok-asks.asks.items
    (rw (sym c.deref.ensures.value) c.in_ok-asks.ensures) p p d d lt lt at at r))

pub returns-in-Some-clause-fault : goal.returns-in-Some-clause-fault
returns-in-Some-clause-fault c = inr (record {
  entries = c.in_ok-entries.entries.items;
  grown = c.in_ok-entries.ensures.ok;
  first = rw (sym c.deref-3.ensures.value) (c.in_ok-fault.ensures.fault c.in-Some.fault c.in-Some.is);
})

pub returns-clause-settled : goal.returns-clause-settled
returns-clause-settled c = settled c.args.self.now.nodes.now c.args.self.now.defs.now c.args.self.now.item c.args.self.now.bound.now c.args.uses.now c.args.args.now c.in_ok-ranked.field-0.items (record {
  entries = c.in_ok-entries.entries.items;
  grown = c.in_ok-entries.ensures.ok;
  sound = rw (sym c.deref-3.ensures.value) (c.in_ok-fault.ensures.sound c.in_default.is);
  sorted = rw (sym c.deref-4.ensures.value) c.in_ok-ranked.ensures;
})

pub returns-clause-within : goal.returns-clause-within
returns-clause-within c = rw (c.in_ok-ranked.ensures, c.deref-4.ensures.value) (closure_known c.args.self.now.defs.now c.in_ok-entries.entries.items c.in_ok-entries.ensures.known)
