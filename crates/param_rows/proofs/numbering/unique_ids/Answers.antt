use Rattle.std.proofs.Common.{◌≡◌, ◌≢◌, ◌++◌, ◌∷◌, [], List, arith, sym, subst, refl}
use Rattle.std.specs.Prelude.{AllPairs}
use Rattle.param_rows.specs.Ids.{Id, unique_of}
use Rattle.param_rows.specs.Taken.{TellsMade}
use Rattle.param_rows.proofs.Distinct.{unique_of-distinct, made_more, made_all}
use Rattle.param_rows.proofs.Tables.{stands}
use Rattle.param_rows.proofs.numbering.unique_ids.Goals as goal

pub loop-id-init : goal.loop-id-init
loop-id-init c = (
  rw c.new-made.ensures.items refl,
  subst (λ (xs : List Id). TellsMade c.args.ids.now xs c.in_ok-table.table) (sym c.new-made.ensures.items) c.in_ok-table.ensures,
)

pub made_of-requires-clause-tells : goal.made_of-requires-clause-tells
made_of-requires-clause-tells c = subst (λ (xs : List Id). TellsMade c.args.ids.now xs c.loop-id.table) (sym c.deref.ensures.value) c.loop-id.invariant.1

pub made_of-requires-clause-given : goal.made_of-requires-clause-given
made_of-requires-clause-given c = stands c.args.ids.now c.loop-id.id-index c.id-item.result (omega arith) c.id-item.is

pub loop-id-preserved : goal.loop-id-preserved
loop-id-preserved c =
    let ids = c.args.ids.now in
    let made = c.loop-id.made.items in
    let one = c.in_ok-made_of.field-0 in (
      made_more ids made c.push.new.self.items c.deref.result.now c.loop-id.id-index c.id-item.result one (omega arith) c.id-item.is c.deref.ensures.value c.in_ok-made_of.ensures.value c.in_ok-push.ensures.items c.loop-id.invariant.0,
      subst (λ (xs : List Id). TellsMade ids xs c.made_of.new.table) (sym c.in_ok-push.ensures.items)
          (subst (λ (xs : List Id). TellsMade ids (xs ++ one ∷ []) c.made_of.new.table) c.deref.ensures.value c.in_ok-made_of.ensures.table),
    )

pub returns-clause-value : goal.returns-clause-value
returns-clause-value c = made_all c.args.ids.now c.loop-id.made.items c.loop-id.id-index (omega arith) c.loop-id.invariant.0

pub returns-clause-distinct : goal.returns-clause-distinct
returns-clause-distinct c =
    let done : c.loop-id.made.items ≡ unique_of c.args.ids.now = made_all c.args.ids.now c.loop-id.made.items c.loop-id.id-index (omega arith) c.loop-id.invariant.0 in
    subst (λ (xs : List Id). AllPairs (λ one other. one ≢ other) xs) (sym done) (unique_of-distinct c.args.ids.now (omega arith))
