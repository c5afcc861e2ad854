-- The lines of facts.
use Rattle.std.proofs.Common.{◌≡◌, ◌<◌, ◌≤◌, ◌+◌, ◌-◌, ◌∙◌, ℕ, zero, suc, List, [], ◌∷◌, ◌++◌, length, drop, get_or, codes, refl, sym, ap, arith, add-one}
use Rattle.std.proofs.Math.ListN.{drop_of_length-le}
use Rattle.std.proofs.Math.Seq.{drop-cons}
use Rattle.std.proofs.lemmas.List.{append_assoc, append-nil}
use Rattle.py_values.specs.declared.object.Obj.{Obj}
use Rattle.py_world.specs.World.{Temps}
use Rattle.py_world.specs.Explained.{Fact, fact_lines, fact_indent}
use Rattle.assert_explain.specs.Lines.{fact_line}

-- one level more
pub indent_more : (old out one : List ℕ) (n i : ℕ) → i < n → old ++ fact_indent [] [] n ≡ out ++ fact_indent [] [] (n - i) → one ≡ out ++ codes "  " → old ++ fact_indent [] [] n ≡ one ++ fact_indent [] [] (n - (i + 1))
indent_more old out one n i w so_far is =
    let e : n - i ≡ suc (n - (i + 1)) = omega arith in
    so_far ∙ ap (λ (k : ℕ). out ++ fact_indent [] [] k) e ∙ sym (append_assoc out (codes "  ") (fact_indent [] [] (n - (i + 1)))) ∙ ap (λ (x : List ℕ). x ++ fact_indent [] [] (n - (i + 1))) (sym is)

pub indent_all : (old out : List ℕ) (n i : ℕ) → n ≤ i → old ++ fact_indent [] [] n ≡ out ++ fact_indent [] [] (n - i) → out ≡ old ++ fact_indent [] [] n
indent_all old out n i le so_far =
    let e : n - i ≡ 0 = omega arith in sym (so_far ∙ ap (λ (k : ℕ). out ++ fact_indent [] [] k) e ∙ append-nil out)

line_first : (above : ℕ) (f : Fact) (fs : List Fact) → fact_lines [] [] above (f ∷ fs) ≡ fact_line above f ++ fact_lines [] [] f.depth fs
line_first above f fs = simp append_assoc refl

indent_aside : (heap : List Obj) (kept : Temps) (n : ℕ) → fact_indent heap kept n ≡ fact_indent [] [] n
indent_aside heap kept zero = refl
indent_aside heap kept (suc n) = ap (λ (x : List ℕ). codes "  " ++ x) (indent_aside heap kept n)

-- the objects and what was kept say nothing of them
pub lines_aside : (heap : List Obj) (kept : Temps) (above : ℕ) (fs : List Fact) → fact_lines heap kept above fs ≡ fact_lines [] [] above fs
lines_aside heap kept above [] = refl
lines_aside heap kept above (f ∷ fs) = rw (indent_aside heap kept f.depth, lines_aside heap kept f.depth fs) refl

drop_fact : (fs : List Fact) (i : ℕ) (f : Fact) → i < length fs → f ≡ get_or fs i f → drop i fs ≡ f ∷ drop (i + 1) fs
drop_fact fs i f w h = rw add-one (drop-cons fs i f w ∙ ap (λ (x : Fact). x ∷ drop (suc i) fs) (sym h))

-- one line more
pub line_more : (fs : List Fact) (i : ℕ) (f : Fact) (above : ℕ) (old out one : List ℕ) → i < length fs → f ≡ get_or fs i f → old ++ fact_lines [] [] 0 fs ≡ out ++ fact_lines [] [] above (drop i fs)
    → one ≡ out ++ fact_line above f → old ++ fact_lines [] [] 0 fs ≡ one ++ fact_lines [] [] f.depth (drop (i + 1) fs)
line_more fs i f above old out one w h so_far is =
    so_far ∙ ap (λ (xs : List Fact). out ++ fact_lines [] [] above xs) (drop_fact fs i f w h)
    ∙ ap (λ (x : List ℕ). out ++ x) (line_first above f (drop (i + 1) fs))
    ∙ sym (append_assoc out (fact_line above f) (fact_lines [] [] f.depth (drop (i + 1) fs)))
    ∙ ap (λ (x : List ℕ). x ++ fact_lines [] [] f.depth (drop (i + 1) fs)) (sym is)

pub lines_all : (fs : List Fact) (i above : ℕ) (old out : List ℕ) → length fs ≤ i → old ++ fact_lines [] [] 0 fs ≡ out ++ fact_lines [] [] above (drop i fs) → out ≡ old ++ fact_lines [] [] 0 fs
lines_all fs i above old out le so_far =
    sym (so_far ∙ ap (λ (xs : List Fact). out ++ fact_lines [] [] above xs) (drop_of_length-le fs le) ∙ append-nil out)
