use Rattle.std.proofs.Common.{◌≡◌, ◌+◌, ◌++◌, [], ◌∷◌, rules, subst, take}
use Rattle.std.specs.Prelude.{slice_set}
use Rattle.py_values.specs.Names.{bind_name}
use Rattle.machine_state.specs.LocalNames.{Bindings, IsAt, NoneBefore}
use Rattle.machine_state.proofs.LocalPlaces.{rebound_last, rebound_there}
use Rattle.machine_state.proofs.locals.Locals.rebind.Goals as goal

pub returns-then-is_at : goal.returns-then-is_at
returns-then-is_at c =
    let es = c.self.inside.entries.items in
    let name = c.args.name.now in
    let at = c.args.at in
    let v = c.args.v in
    let none : NoneBefore name at es = subst (λ (ys : Bindings). NoneBefore name at ys) c.deref.ensures.value c.if-not-is_none_of.ensures.none in
    let there : IsAt name at es = subst (λ (ys : Bindings). IsAt name at ys) c.deref-2.ensures.value c.if-is_at.ensures in
    record { bound = subst (λ (ys : Bindings). take (at + 1) (slice_set es at (c.index_mut.result.now.0, v)) ≡ bind_name name v (take at ys)) c.self.view_is (rebound_there name v es at c.index_mut.result.now there c.index_mut.ensures.value none); there = λ no. absurd cc }

pub returns-in_ok-push : goal.returns-in_ok-push
returns-in_ok-push c =
    let es = c.self.inside.entries.items in
    let name = c.args.name.now in
    let at = c.args.at in
    let v = c.args.v in
    let now = c.push.new.self.items in
    let none : NoneBefore name at es = subst (λ (ys : Bindings). NoneBefore name at ys) c.deref.ensures.value c.if-not-is_none_of.ensures.none in
    let put : now ≡ take at es ++ (name, v) ∷ [] = search rules in
    record { bound = subst (λ (ys : Bindings). take (at + 1) now ≡ bind_name name v (take at ys)) c.self.view_is (rebound_last name v es at now none put); there = λ no. absurd cc }
