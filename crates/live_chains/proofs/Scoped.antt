-- The chains of an arena by their heads.
use Rattle.std.proofs.Common.{◌≡◌, ℕ, zero, suc, ◌<◌, List, [], ◌∷◌, ◌++◌, inl, inr, refl, sym, ap, ◌∙◌, subst, arith, append_assoc, Option, Some, None, is_some, true, false}
use Rattle.std.proofs.lemmas.Bool.{cases_eq}
use Rattle.std.specs.Option.{option_map}
use Rattle.link_cells.specs.Arena.{Arena}
use Rattle.session_types.specs.declared.instance.Instance.{Instance}
use Rattle.session_types.proofs.Lists.{In-left}
use Rattle.live_chains.specs.declared.id.LiveId.{LiveId}
use Rattle.live_chains.specs.Chained.{InstanceCell, chain_at, chains_below, head_at, id_of, Apart, IsChain, IsChains, cell_key}
use Rattle.session_types.specs.Scopes.{scope_count}
use Rattle.live_chains.specs.Walked.{first_at, off_orders, off_order}
use Rattle.live_chains.proofs.Found.{first_front, first_back}

Apart-parts : {K : Type 0} (key : InstanceCell → K) (xs ys : List InstanceCell) → Apart key (xs ++ ys) → Apart key xs × Apart key ys
Apart-parts key [] ys a = (tt, a)
Apart-parts key (x ∷ xs) ys a =
    let p = Apart-parts key xs ys a.1 in
    (((λ y h. a.0 y (In-left y xs ys h)), p.0), p.1)

Apart-chain : {K : Type 0} (key : InstanceCell → K) (chains : ℕ → List InstanceCell) (n r : ℕ) → r < n → Apart key (chains_below chains n) → Apart key (chains r)
Apart-chain key chains zero r lt a = absurd (omega (arith, lt))
Apart-chain key chains (suc m) r lt a =
    let p = Apart-parts key (chains m) (chains_below chains m) a in
    elim (cases_eq r m) [
      | inl q ↦ subst (λ (k : ℕ). Apart key (chains k)) (sym q) p.0
      | inr ne ↦ Apart-chain key chains m r (omega (arith, lt, ne)) p.1
    ]

pub chain_is : (a : Arena (Instance ℕ)) (heads : List ℕ) → IsChains a heads → (r : ℕ) → r < scope_count → IsChain a (head_at heads r)
chain_is a heads c r lt = record { used = c.used r lt; apart = Apart-chain cell_key (chain_at a heads) scope_count r lt c.good.cells }

pub off_append : (chain : List ℕ) (xs ys : List InstanceCell) → off_orders chain (xs ++ ys) ≡ off_orders chain xs ++ off_orders chain ys
off_append chain [] ys = refl
off_append chain (x ∷ xs) ys = ap (λ (l : List ℕ). off_order chain x.1 ++ l) (off_append chain xs ys) ∙ sym (append_assoc (off_order chain x.1) (off_orders chain xs) (off_orders chain ys))

pub found_in : (d node : ℕ) (chains : ℕ → List InstanceCell) (r : ℕ) (result : Option LiveId) → result ≡ option_map id_of (first_at d node (chains r)) → is_some result ≡ true
    → result ≡ option_map id_of (first_at d node (chains_below chains (suc r)))
found_in d node chains r result e some = pick (first_at d node (chains r)) refl where
  pick : (o : Option InstanceCell) → first_at d node (chains r) ≡ o → result ≡ option_map id_of (first_at d node (chains_below chains (suc r)))
  pick None q = absurd (let k : is_some result ≡ false = ap is_some (e ∙ ap (option_map id_of) q) in let z : true ≡ false = sym some ∙ k in cc)
  pick (Some x) q = e ∙ ap (option_map id_of) (q ∙ sym (first_front d node (chains r) (chains_below chains r) x q))

pub past_in : (d node : ℕ) (chains : ℕ → List InstanceCell) (r : ℕ) (result : Option LiveId) → result ≡ option_map id_of (first_at d node (chains r)) → is_some result ≡ false
    → first_at d node (chains_below chains (suc r)) ≡ first_at d node (chains_below chains r)
past_in d node chains r result e none = pick (first_at d node (chains r)) refl where
  pick : (o : Option InstanceCell) → first_at d node (chains r) ≡ o → first_at d node (chains_below chains (suc r)) ≡ first_at d node (chains_below chains r)
  pick None q = first_back d node (chains r) (chains_below chains r) q
  pick (Some x) q = absurd (let k : is_some result ≡ true = ap is_some (e ∙ ap (option_map id_of) q) in let z : true ≡ false = sym k ∙ none in cc)
