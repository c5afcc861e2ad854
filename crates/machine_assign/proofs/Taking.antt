-- The elements of a value, one after another.
use Rattle.std.proofs.Common.{◌≡◌, ◌∙◌, ◌+◌, ◌-◌, ◌<◌, ◌≤◌, ◌⊎◌, inl, inr, ℕ, suc, List, [], ◌∷◌, ◌++◌, ap, sym, refl, append_assoc, append-nil, arith}
use Rattle.py_items.specs.declared.iter.Turn.{Turn}
use Rattle.py_items.specs.declared.iter.Turn.TheVariants as turn
use Rattle.py_items.specs.Turns.{turn_of, turn_end}
use Rattle.py_values.specs.declared.end.Raise.{Raise}
use Rattle.py_values.specs.declared.object.Obj.{Obj}
use Rattle.py_values.specs.declared.value.Value.{Value}
use Rattle.machine_turns.specs.py_world.Targets.{element_and, elements_from}

-- elements behind those so far
abbrev pub behind : List Value → List Value × List Obj → List Value × List Obj
behind vs e = (vs ++ e.0, e.1)

-- the turn at a place
abbrev pub turn_at : Value → ℕ → ℕ → List Obj → Turn × List Obj
turn_at v i n heap = turn_end heap (turn_of heap (record { of = v; next = i; length = n }))

step : (k : ℕ) (v : Value) (i n : ℕ) (heap : List Obj) → elements_from (suc k) v i n heap ≡ element_and (turn_at v i n heap) (λ h. elements_from k v (i + 1) n h)
step k v i n heap = refl

next : (n : ℕ) (v : Value) (i : ℕ) (heap : List Obj) → i < n → elements_from (n - i) v i n heap ≡ element_and (turn_at v i n heap) (λ h. elements_from (n - (i + 1)) v (i + 1) n h)
next n v i heap within =
    let one : n - i ≡ suc (n - (i + 1)) = omega arith in
    ap (λ (k : ℕ). elements_from k v i n heap) one ∙ step (n - (i + 1)) v i n heap

module _ (whole : List Value × List Obj) (n : ℕ) (v : Value) (i : ℕ) (heap heap' : List Obj) (vs : List Value) (within : i < n) (so_far : whole ≡ behind vs (elements_from (n - i) v i n heap)) where
  pub takes : (x : Value) → (turn.Item x, heap') ≡ turn_at v i n heap → whole ≡ behind (vs ++ x ∷ []) (elements_from (n - (i + 1)) v (i + 1) n heap')
  takes x is =
      let rest = elements_from (n - (i + 1)) v (i + 1) n heap' in
      so_far ∙ ap (behind vs) (next n v i heap within ∙ ap (λ (t : Turn × List Obj). element_and t (λ h. elements_from (n - (i + 1)) v (i + 1) n h)) (sym is))
      ∙ ap (λ (xs : List Value). (xs, rest.1)) (sym (append_assoc vs (x ∷ []) rest.0))

  ends_by : (t : Turn) → (t, heap') ≡ turn_at v i n heap → element_and (t, heap') (λ h. elements_from (n - (i + 1)) v (i + 1) n h) ≡ ([], heap') → (vs, heap') ≡ whole
  ends_by t is over =
      sym (so_far ∙ ap (behind vs) (next n v i heap within ∙ ap (λ (t : Turn × List Obj). element_and t (λ h. elements_from (n - (i + 1)) v (i + 1) n h)) (sym is) ∙ over)
      ∙ ap (λ (xs : List Value). (xs, heap')) (append-nil vs))

  takes_none : (t : Turn) → (t, heap') ≡ turn_at v i n heap → t ≡ turn.End → (vs, heap') ≡ whole
  takes_none t is e = ends_by t is (ap (λ (u : Turn). element_and (u, heap') (λ h. elements_from (n - (i + 1)) v (i + 1) n h)) e)

  takes_raised : (t : Turn) (r : Raise) → (t, heap') ≡ turn_at v i n heap → t ≡ turn.Raised r → (vs, heap') ≡ whole
  takes_raised t r is e = ends_by t is (ap (λ (u : Turn). element_and (u, heap') (λ h. elements_from (n - (i + 1)) v (i + 1) n h)) e)

  pub takes_over : (t : Turn) → (t, heap') ≡ turn_at v i n heap → (t ≡ turn.End) ⊎ ((r : Raise) × (t ≡ turn.Raised r)) → (vs, heap') ≡ whole
  takes_over t is (inl e) = takes_none t is e
  takes_over t is (inr e) = takes_raised t e.0 is e.1

pub took : (whole : List Value × List Obj) (n : ℕ) (v : Value) (heap : List Obj) (vs : List Value) (i : ℕ) → n ≤ i → whole ≡ behind vs (elements_from (n - i) v i n heap) → (vs, heap) ≡ whole
took whole n v heap vs i over so_far =
    let none : n - i ≡ 0 = omega arith in
    sym (so_far ∙ ap (λ (k : ℕ). behind vs (elements_from k v i n heap)) none ∙ ap (λ (xs : List Value). (xs, heap)) (append-nil vs))
