-- The tokens of a text, character by character.
use Rattle.std.proofs.Common.{◌≡◌, ℕ, suc, ◌+◌, ◌-◌, ◌<◌, ◌≤◌, Bool, true, false, cond, List, [], ◌∷◌, ◌++◌, length, take, drop, get_or, refl, sym, ap, ◌∙◌, arith, append_assoc, append-nil, add-one, drop-cons}
use Rattle.std.proofs.lemmas.Grind.{common_steps}
use Rattle.mark_expr.specs.declared.token.Kind.{Kind}
use Rattle.mark_expr.specs.declared.token.Token.{Token}
use Rattle.mark_expr.specs.Text.{is_ident, kind_at, begins, tokens_from}

pub drop_next : (s : List ℕ) (i c : ℕ) → i < length s → c ≡ get_or s i c → drop i s ≡ c ∷ drop (i + 1) s
drop_next s i c h e = rw (add-one, drop-cons s i c) (ap (λ x. x ∷ drop (suc i) s) (sym e))

-- the same of what a slice from there on has
pub tail_next : (s : List ℕ) (i c : ℕ) → i < length s → c ≡ get_or s i c → take (length s - i) (drop i s) ≡ c ∷ drop (i + 1) s
tail_next s i c h e = let all : take (length s - i) (drop i s) ≡ drop i s = grind (arith, common_steps) in all ∙ drop_next s i c h e

begun : (b : Bool) (done more : List Token) (t : Token) → b ≡ true → done ++ cond b (t ∷ more) more ≡ (done ++ t ∷ []) ++ more
begun true done more t e = sym (append_assoc done (t ∷ []) more)
begun false done more t e = absurd (cc)

passed : (b : Bool) (more : List Token) (t : Token) → b ≡ false → cond b (t ∷ more) more ≡ more
passed true more t e = absurd (cc)
passed false more t e = refl

-- A token begins at the character c, at which the list of tokens is done and becomes now.
pub token_on : (done now all : List Token) (s : List ℕ) (i c : ℕ) (inside later : Bool) (k : Kind) → i < length s → c ≡ get_or s i c → begins inside c ≡ true → later ≡ is_ident c → k ≡ kind_at c (drop (i + 1) s)
    → now ≡ done ++ (record { at = i; kind = k }) ∷ [] → done ++ tokens_from i inside (drop i s) ≡ all → now ++ tokens_from (i + 1) later (drop (i + 1) s) ≡ all
unfolding tokens_from
token_on done now all s i c inside later k h e b l d n a =
    ap (λ v. v ++ tokens_from (i + 1) later (drop (i + 1) s)) n
    ∙ ap (λ v. (done ++ (record { at = i; kind = k }) ∷ []) ++ tokens_from (i + 1) v (drop (i + 1) s)) l
    ∙ ap (λ k. (done ++ (record { at = i; kind = k }) ∷ []) ++ tokens_from (i + 1) (is_ident c) (drop (i + 1) s)) d
    ∙ sym (begun (begins inside c) done (tokens_from (i + 1) (is_ident c) (drop (i + 1) s)) (record { at = i; kind = kind_at c (drop (i + 1) s) }) b)
    ∙ ap (λ v. done ++ tokens_from i inside v) (sym (drop_next s i c h e)) ∙ a

-- none begins there
pub token_over : (done now all : List Token) (s : List ℕ) (i c : ℕ) (inside later : Bool) → i < length s → c ≡ get_or s i c → begins inside c ≡ false → later ≡ is_ident c → now ≡ done
    → done ++ tokens_from i inside (drop i s) ≡ all → now ++ tokens_from (i + 1) later (drop (i + 1) s) ≡ all
unfolding tokens_from
token_over done now all s i c inside later h e b l n a =
    ap (λ v. v ++ tokens_from (i + 1) later (drop (i + 1) s)) n
    ∙ ap (λ v. done ++ tokens_from (i + 1) v (drop (i + 1) s)) l
    ∙ ap (λ v. done ++ v) (sym (passed (begins inside c) (tokens_from (i + 1) (is_ident c) (drop (i + 1) s)) (record { at = i; kind = kind_at c (drop (i + 1) s) }) b))
    ∙ ap (λ v. done ++ tokens_from i inside v) (sym (drop_next s i c h e)) ∙ a

pub tokens_end : (done all : List Token) (s : List ℕ) (i : ℕ) (inside : Bool) → length s ≤ i → done ++ tokens_from i inside (drop i s) ≡ all → done ≡ all
unfolding tokens_from
tokens_end done all s i inside h a = let e : drop i s ≡ [] = grind (arith, common_steps) in sym (append-nil done) ∙ ap (λ v. done ++ tokens_from i inside v) (sym e) ∙ a
