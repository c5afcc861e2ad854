use Rattle.std.proofs.Common.{◌≡◌, ℕ, ◌+◌, List, [], ◌++◌, Option, None, Some, take, drop, sym, ap, ◌∙◌, subst, append_assoc}
use Rattle.std.proofs.Math.Seq.{take-add}
use Rattle.std.proofs.lemmas.List.{take-append-drop, append-nil}
use Rattle.edge_io.specs.Told.{Appends, AppendsPrefix}

-- one piece, and then another
pub Appends-trans : (a b c : Option (List ℕ)) (p q : List ℕ) → Appends a b p → Appends b c q → Appends a c (p ++ q)
Appends-trans None b c p q h k = tt
Appends-trans (Some a) b c p q h k =
    let k' : Appends (Some (a ++ p)) c q = subst (λ x. Appends x c q) h k in
    k' ∙ ap Some (append_assoc a p q)

-- nothing was written
pub Appends-none : (a b : Option (List ℕ)) → b ≡ a → Appends a b []
Appends-none None b h = tt
Appends-none (Some a) b h = h ∙ ap Some (sym (append-nil a))

-- a call that wrote nothing changes no fact
pub Appends-same : (a b c : Option (List ℕ)) (p : List ℕ) → Appends a b p → c ≡ b → Appends a c p
Appends-same None b c p h e = tt
Appends-same (Some a) b c p h e = e ∙ h

-- a front of a list is written
pub AppendsPrefix-take : (a b : Option (List ℕ)) (text : List ℕ) (n : ℕ) → Appends a b (take n text) → AppendsPrefix a b text
AppendsPrefix-take a b text n h = record { front = take n text; rest = drop n text; whole = sym (take-append-drop n text); told = h }

-- more of a list is written
pub Appends-more : (a b c : Option (List ℕ)) (text rest : List ℕ) (n m : ℕ) → Appends a b (take n text) → rest ≡ drop n text → Appends b c (take m rest) → Appends a c (take (n + m) text)
Appends-more a b c text rest n m h e k = rw (take-add n m text, ← e) (Appends-trans a b c _ _ h k)
