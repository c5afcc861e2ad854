-- Two ranges, side by side.
use Rattle.std.proofs.Common.{◌≡◌, ℕ, ◌+◌, List, [], ◌∷◌, ◌++◌, length, sym, ap, subst, arith, Result, Ok, Err, OnOk, Global}
use Rattle.std.proofs.lemmas.List.{map-append}
use Rattle.std.specs.declared.vec.Vec.{Vec}
use Rattle.std.specs.Result.{result_and}
use Rattle.atomic_table.specs.Table.{Me}
use Rattle.share_files.specs.declared.rule.Range.{Range}
use Rattle.share_files.specs.Work.{AllWork, Took, IsRange, HaveRun, held_lists}

pub beside : {S : Type 0} (k a b : ℕ) (me other : Me S Range) → IsRange k a me → IsRange (k + a) b other → other.0.first ≡ me.0.first + length me.0.lists
beside k a b me other low high = omega (arith, ap (λ m. m.0.first) low.0, ap (λ m. m.0.first) high.0, low.1)

took-append : (groups k : ℕ) (ds ls es ms : List (List ℕ)) → Took groups k ds ls → Took groups (k + length ds) es ms → Took groups k (ds ++ es) (ls ++ ms)
took-append groups k [] [] es ms low high = subst (λ n. Took groups n es ms) (omega arith) high
took-append groups k (d ∷ ds) (l ∷ ls) es ms low high = (low.0, low.1, took-append groups (k + 1) ds ls es ms low.2 (subst (λ n. Took groups n es ms) (omega arith) high))
took-append groups k [] (l ∷ ls) es ms low high = absurd low
took-append groups k (d ∷ ds) [] es ms low high = absurd low

all_work-append : {W : Type 0} (works : W → List ℕ → W → Type 0) (ws : List W) (ls : List (List ℕ)) (vs xs : List W) (ms : List (List ℕ)) (ys : List W) → AllWork works ws ls vs → AllWork works xs ms ys → AllWork works (ws ++ xs) (ls ++ ms) (vs ++ ys)
all_work-append works [] [] [] xs ms ys low high = high
all_work-append works (w ∷ ws) (l ∷ ls) (v ∷ vs) xs ms ys low high = (low.0, all_work-append works ws ls vs xs ms ys low.1 high)
all_work-append works [] [] (v ∷ vs) xs ms ys low high = absurd low
all_work-append works [] (l ∷ ls) vs xs ms ys low high = absurd low
all_work-append works (w ∷ ws) [] vs xs ms ys low high = absurd low
all_work-append works (w ∷ ws) (l ∷ ls) [] xs ms ys low high = absurd low

pub ran-append : {W : Type 0} (works : W → List ℕ → W → Type 0) (groups k a : ℕ) (ds es : List (List ℕ)) (ws xs : List W) (ls ms : List (Vec ℕ Global)) (vs ys : List W) → length ds ≡ a
    → HaveRun works groups k ds ws (held_lists ls) vs → HaveRun works groups (k + a) es xs (held_lists ms) ys → HaveRun works groups k (ds ++ es) (ws ++ xs) (held_lists (ls ++ ms)) (vs ++ ys)
ran-append works groups k a ds es ws xs ls ms vs ys len low high =
    subst (λ (ts : List (List ℕ)). HaveRun works groups k (ds ++ es) (ws ++ xs) ts (vs ++ ys)) (sym (map-append (λ v. v.items) ls ms))
    (took-append groups k ds (held_lists ls) es (held_lists ms) low.0 (subst (λ n. Took groups (k + n) es (held_lists ms)) (sym len) high.0), all_work-append works ws (held_lists ls) vs xs (held_lists ms) ys low.1 high.1)

-- both were well
pub on_both : {A B E : Type 0} {P Q R : Type 0} (x : Result A E) (y : Result B E) → (P → Q → R) → OnOk x P → OnOk y Q → OnOk (result_and x y) R
on_both (Ok a) (Ok b) f p q = f p q
on_both (Ok a) (Err e) f p q = tt
on_both (Err e) y f p q = tt

pub ran_both : {W E : Type 0} (works : W → List ℕ → W → Type 0) (groups k a : ℕ) (x y : Result (Unit {0}) E) (ds es : List (List ℕ)) (ws xs : List W) (ls ms : List (Vec ℕ Global)) (vs ys : List W) → length ds ≡ a
    → OnOk x (HaveRun works groups k ds ws (held_lists ls) vs) → OnOk y (HaveRun works groups (k + a) es xs (held_lists ms) ys) → OnOk (result_and x y) (HaveRun works groups k (ds ++ es) (ws ++ xs) (held_lists (ls ++ ms)) (vs ++ ys))
ran_both works groups k a x y ds es ws xs ls ms vs ys len low high = on_both x y (ran-append works groups k a ds es ws xs ls ms vs ys len) low high
