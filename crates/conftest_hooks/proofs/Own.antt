-- The runner's own implementations stay there, whatever is put among them, and however many of the others are kept.
use Rattle.std.proofs.Common.{◌≡◌, ℕ, zero, suc, ◌+◌, ◌<◌, ◌⊎◌, inl, inr, Bool, true, false, cond, List, [], ◌∷◌, map, length, refl, sym, ap, subst, ◌∙◌, arith}
use Rattle.std.specs.Prelude.{nat_lt}
use Rattle.std.specs.List.{filter, insert}
use Rattle.std.proofs.lemmas.Bool.Decides.{nat_tests}
use Rattle.std.proofs.lemmas.List.{length-append}
use Rattle.hook_order.specs.declared.implementation.Impl.{Impl}
use Rattle.session_rules.specs.BuiltIns.{AreDifferent, HasBuiltIns, is_runners_own, registered_number}
use Rattle.session_rules.specs.World.{Call, Phase, SetUp, Teardown}
use Rattle.session_types.specs.Members.{IsMember}
use Rattle.test_suite.specs.declared.hook.HookTable.{HookTable}
use Rattle.conftest_hooks.specs.Ordered.{HaveOwn, KeepsOwn}
use Rattle.conftest_hooks.specs.Registered.{built_in_hooks, hook_impl, hook_table, place_among, put_in_order, put_under, with_hook, with_hooks}
use Rattle.conftest_hooks.specs.declared.hook_name.HookName.{HookName}
use Rattle.conftest_hooks.specs.declared.hook_name.HookName.TheVariants as hook
use Rattle.conftest_hooks.specs.declared.looking.FoundHook.{FoundHook}

-- PUT AMONG OTHERS

module _ (w : Impl) (other : is_runners_own w ≡ false) where
  own_step : (x : Impl) (xs : List Impl) (n : ℕ) → filter is_runners_own (insert xs n w) ≡ filter is_runners_own xs → filter is_runners_own (x ∷ insert xs n w) ≡ filter is_runners_own (x ∷ xs)
  own_step x xs n e = ap (λ (l : List Impl). cond (is_runners_own x) (x ∷ l) l) e

  own_first : (xs : List Impl) → filter is_runners_own (w ∷ xs) ≡ filter is_runners_own xs
  own_first xs = ap (λ (b : Bool). cond b (w ∷ filter is_runners_own xs) (filter is_runners_own xs)) other

  own_put : (n : ℕ) (xs : List Impl) → filter is_runners_own (insert xs n w) ≡ filter is_runners_own xs
  own_put zero xs = own_first xs
  own_put (suc n) [] = own_first []
  own_put (suc n) (x ∷ xs) = own_step x xs n (own_put n xs)

member_put : (w y : Impl) (n : ℕ) (xs : List Impl) → IsMember y (insert xs n w) → (y ≡ w) ⊎ IsMember y xs
member_put w y zero xs m = m
member_put w y (suc n) [] m = m
member_put w y (suc n) (x ∷ xs) (inl e) = inr (inl e)
member_put w y (suc n) (x ∷ xs) (inr m) = elim (member_put w y n xs m) [ inl e ↦ inl e | inr k ↦ inr (inr k) ]

-- whose number it is
pub record Numbered (k : ℕ) (xs : List Impl) : Type 0 where
  pub which : Impl
  pub there : IsMember which xs
  pub number : which.registered ≡ k

numbered : (k : ℕ) (xs : List Impl) → IsMember k (map registered_number xs) → Numbered k xs
numbered k [] m = absurd m
numbered k (x ∷ xs) (inl e) = record { which = x; there = inl refl; number = sym e }
numbered k (x ∷ xs) (inr m) = let r = numbered k xs m in record { which = r.which; there = inr r.there; number = r.number }

number_there : (y : Impl) (xs : List Impl) → IsMember y xs → IsMember y.registered (map registered_number xs)
number_there y [] m = absurd m
number_there y (x ∷ xs) (inl e) = inl (ap registered_number e)
number_there y (x ∷ xs) (inr m) = inr (number_there y xs m)

different_put : (w : Impl) (n : ℕ) (xs : List Impl) → (IsMember w.registered (map registered_number xs) → ⊥) → AreDifferent (map registered_number xs) → AreDifferent (map registered_number (insert xs n w))
different_put w zero xs fresh d = (fresh, d)
different_put w (suc n) [] fresh d = (fresh, d)
different_put w (suc n) (x ∷ xs) fresh d = (
  λ m. (let r = numbered x.registered (insert xs n w) m in elim (member_put w r.which n xs r.there) [
    | inl e ↦ fresh (inl (ap registered_number (sym e) ∙ r.number))
    | inr k ↦ d.0 (subst (λ (i : ℕ). IsMember i (map registered_number xs)) r.number (number_there r.which xs k))
  ]),
  different_put w n xs (λ m. fresh (inr m)) d.1,
)

-- SOME ARE KEPT

two_answers : true ≡ false → ⊥
two_answers h = cc

member_if : (y x : Impl) (xs ks : List Impl) (b : Bool) → (IsMember y ks → IsMember y xs) → IsMember y (cond b (x ∷ ks) ks) → IsMember y (x ∷ xs)
member_if y x xs ks true more (inl e) = inl e
member_if y x xs ks true more (inr k) = inr (more k)
member_if y x xs ks false more k = inr (more k)

member_kept : (keep : Impl → Bool) (y : Impl) (xs : List Impl) → IsMember y (filter keep xs) → IsMember y xs
member_kept keep y [] m = m
member_kept keep y (x ∷ xs) m = member_if y x xs (filter keep xs) (keep x) (λ k. member_kept keep y xs k) m

number_kept : (keep : Impl → Bool) (xs : List Impl) (k : ℕ) → IsMember k (map registered_number (filter keep xs)) → IsMember k (map registered_number xs)
number_kept keep xs k m =
    let r = numbered k (filter keep xs) m in
    subst (λ (i : ℕ). IsMember i (map registered_number xs)) r.number (number_there r.which xs (member_kept keep r.which xs r.there))

different_if : (x : Impl) (xs ks : List Impl) (b : Bool) → ((k : ℕ) → IsMember k (map registered_number ks) → IsMember k (map registered_number xs)) → (IsMember x.registered (map registered_number xs) → ⊥) → AreDifferent (map registered_number ks)
    → AreDifferent (map registered_number (cond b (x ∷ ks) ks))
different_if x xs ks true within fresh d = (λ m. fresh (within x.registered m), d)
different_if x xs ks false within fresh d = d

different_kept : (keep : Impl → Bool) (xs : List Impl) → AreDifferent (map registered_number xs) → AreDifferent (map registered_number (filter keep xs))
different_kept keep [] d = d
different_kept keep (x ∷ xs) d = different_if x xs (filter keep xs) (keep x) (number_kept keep xs) d.0 (different_kept keep xs d.1)

own_if : (x : Impl) (os ks : List Impl) (k o : Bool) → is_runners_own x ≡ o → (o ≡ true → k ≡ true) → filter is_runners_own ks ≡ os → filter is_runners_own (cond k (x ∷ ks) ks) ≡ cond o (x ∷ os) os
own_if x os ks true o q keeps same =
    ap (λ (b : Bool). cond b (x ∷ filter is_runners_own ks) (filter is_runners_own ks)) q ∙ ap (λ (l : List Impl). cond o (x ∷ l) l) same
own_if x os ks false true q keeps same = absurd (two_answers (sym (keeps refl)))
own_if x os ks false false q keeps same = same

own_kept : (keep : Impl → Bool) → KeepsOwn keep → (xs : List Impl) → filter is_runners_own (filter keep xs) ≡ filter is_runners_own xs
own_kept keep keeps [] = refl
own_kept keep keeps (x ∷ xs) = own_if x (filter is_runners_own xs) (filter keep xs) (keep x) (is_runners_own x) refl (λ e. keeps x e) (own_kept keep keeps xs)

pub kept : (phase : Phase) (keep : Impl → Bool) → KeepsOwn keep → (xs : List Impl) → HasBuiltIns phase xs → HasBuiltIns phase (filter keep xs)
kept phase keep keeps xs h = record {
  own = ap (map registered_number) (own_kept keep keeps xs) ∙ h.own;
  plain = λ which m own. h.plain which (member_kept keep which xs m) own;
  different = different_kept keep xs h.different;
}

-- A TABLE

-- a phase's list while so many hooks are registered
pub record Holds (phase : Phase) (many : ℕ) (xs : List Impl) : Type 0 where
  pub has : HasBuiltIns phase xs
  pub below : (which : Impl) → IsMember which xs → which.registered < 4 + many

no_own : (k : ℕ) → nat_lt (4 + k) 4 ≡ false
no_own k = grind (arith, nat_tests)

put_holds : (phase : Phase) (many : ℕ) (w : Impl) (xs : List Impl) → w.registered ≡ 4 + many → Holds phase many xs → Holds phase (many + 1) (put_in_order w xs)
put_holds phase many w xs e h =
    let n = place_among w xs in
    let other : is_runners_own w ≡ false = ap (λ (k : ℕ). nat_lt k 4) e ∙ no_own many in
    record {
      has = record {
        own = ap (map registered_number) (own_put w other n xs) ∙ h.has.own;
        plain = λ which m own. elim (member_put w which n xs m) [
          | inl s ↦ absurd (two_answers (sym own ∙ (ap is_runners_own s ∙ other)))
          | inr k ↦ h.has.plain which k own
        ];
        different = different_put w n xs (λ m. (let r = numbered w.registered xs m in let l = h.below r.which r.there in omega (arith, l, r.number, e))) h.has.different;
      };
      below = λ which m. elim (member_put w which n xs m) [
        | inl s ↦ (let q : which.registered ≡ w.registered = ap registered_number s in omega (arith, q, e))
        | inr k ↦ (let l = h.below which k in omega (arith, l))
      ];
    }

more_holds : (phase : Phase) (many : ℕ) (xs : List Impl) → Holds phase many xs → Holds phase (many + 1) xs
more_holds phase many xs h = record { has = h.has; below = λ which m. (let l = h.below which m in omega (arith, l)) }

pub record TableHolds (many : ℕ) (t : HookTable) : Type 0 where
  pub set_up : Holds SetUp many t.set_up
  pub call : Holds Call many t.call
  pub teardown : Holds Teardown many t.teardown

under_holds : (name : HookName) (w : Impl) (many : ℕ) (t : HookTable) → w.registered ≡ 4 + many → TableHolds many t → TableHolds (many + 1) (put_under name w t)
under_holds hook.SetUp w many t e h = record { set_up = put_holds SetUp many w t.set_up e h.set_up; call = more_holds Call many t.call h.call; teardown = more_holds Teardown many t.teardown h.teardown }
under_holds hook.Call w many t e h = record { set_up = more_holds SetUp many t.set_up h.set_up; call = put_holds Call many w t.call e h.call; teardown = more_holds Teardown many t.teardown h.teardown }
under_holds hook.Teardown w many t e h = record { set_up = more_holds SetUp many t.set_up h.set_up; call = more_holds Call many t.call h.call; teardown = put_holds Teardown many w t.teardown e h.teardown }
under_holds hook.MakeId w many t e h = record { set_up = more_holds SetUp many t.set_up h.set_up; call = more_holds Call many t.call h.call; teardown = more_holds Teardown many t.teardown h.teardown }

hook_holds : (h : FoundHook) (t : HookTable) → TableHolds (length t.hooks) t → TableHolds (length (with_hook t h).hooks) (with_hook t h)
hook_holds h t holds =
    let u = under_holds h.name (hook_impl (length t.hooks) h) (length t.hooks) t refl holds in
    subst (λ (n : ℕ). TableHolds n (with_hook t h)) (sym (length-append t.hooks (h.hook ∷ []))) (record { set_up = u.set_up; call = u.call; teardown = u.teardown })

all_hold : (hs : List FoundHook) (t : HookTable) → TableHolds (length t.hooks) t → TableHolds (length (with_hooks t hs).hooks) (with_hooks t hs)
all_hold [] t h = h
all_hold (one ∷ hs) t h = all_hold hs (with_hook t one) (hook_holds one t h)

built_in_holds : TableHolds 0 built_in_hooks
built_in_holds = record {
  set_up = record {
    has = record {
      own = refl;
      plain = λ which m own. elim m [ inl e ↦ ap (λ (i : Impl). i.wrapper) e | inr t ↦ elim t [ inl e ↦ ap (λ (i : Impl). i.wrapper) e | inr n ↦ absurd n ] ];
      different = (λ m. elim m [ inl e ↦ omega (arith, e) | inr n ↦ n ], (λ n. n, tt));
    };
    below = λ which m. elim m [
      | inl e ↦ (let q = ap registered_number e in omega (arith, q))
      | inr t ↦ elim t [ inl e ↦ (let q = ap registered_number e in omega (arith, q)) | inr n ↦ absurd n ]
    ];
  };
  call = record {
    has = record { own = refl; plain = λ which m own. elim m [ inl e ↦ ap (λ (i : Impl). i.wrapper) e | inr n ↦ absurd n ]; different = (λ n. n, tt) };
    below = λ which m. elim m [ inl e ↦ (let q = ap registered_number e in omega (arith, q)) | inr n ↦ absurd n ];
  };
  teardown = record {
    has = record { own = refl; plain = λ which m own. elim m [ inl e ↦ ap (λ (i : Impl). i.wrapper) e | inr n ↦ absurd n ]; different = (λ n. n, tt) };
    below = λ which m. elim m [ inl e ↦ (let q = ap registered_number e in omega (arith, q)) | inr n ↦ absurd n ];
  };
}

pub table_has : (hs : List FoundHook) (keep : Impl → Bool) → KeepsOwn keep → HaveOwn keep (hook_table hs)
unfolding hook_table
table_has hs keep keeps =
    let t = with_hooks built_in_hooks hs in
    let h = all_hold hs built_in_hooks built_in_holds in
    record {
      set_up = kept SetUp keep keeps t.set_up h.set_up.has;
      call = kept Call keep keeps t.call h.call.has;
      teardown = kept Teardown keep keeps t.teardown h.teardown.has;
    }
