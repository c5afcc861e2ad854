-- A tree has a list of kept files: its paths in order, of which those that are kept stay.
use Rattle.std.proofs.Common.{◌≡◌, ℕ, zero, suc, List, [], ◌∷◌, Some, refl, sym, subst, ap, ◌∙◌, arith}
use Rattle.std.specs.Prelude.{◌↔◌, Contains, filter}
use Rattle.std.specs.declared.cmp.Ordering.{Ordering}
use Rattle.std.specs.declared.cmp.Ordering.TheVariants.{Less, Equal, Greater}
use Rattle.std.specs.Ordering.{nat_cmp, ordering_reverse}
use Rattle.std.specs.Cmp.Lexicographic.{slice_cmp, nat_list_cmp_total}
use Rattle.std.specs.List.{AllByRecursion}
use Rattle.std.specs.List.Sorted.{IsStrictlySortedBy}
use Rattle.std.proofs.lemmas.List.Elements.{Contains-append_right}
use Rattle.std.proofs.lemmas.List.Kept.{IsStrictlySortedBy-filter}
use Rattle.std.proofs.lemmas.Map.Lookups.{exact_bytes}
use Rattle.edge_io.specs.Files.{File, InOrder, IsKept, ListsKept, is_kept, paths_of, with_bytes}
use Rattle.edge_io.proofs.KeptFiles.{kept_at, lists_kept, lists_paths}

abbrev Path : Type 0
Path = List ℕ

abbrev compared : Path → Path → Ordering
compared = slice_cmp nat_cmp

-- a path at its place
abbrev put : Ordering → Path → Path → List Path → List Path → List Path
put Less p q qs rest = p ∷ q ∷ qs
put Equal p q qs rest = q ∷ qs
put Greater p q qs rest = q ∷ rest

abbrev inserted : Path → List Path → List Path
inserted p [] = p ∷ []
inserted p (q ∷ qs) = put (compared p q) p q qs (inserted p qs)

abbrev in_order : List Path → List Path
in_order [] = []
in_order (p ∷ ps) = inserted p (in_order ps)

-- THEIR ORDER
abbrev Above : Path → List Path → Type 0
Above x ys = AllByRecursion (λ y. compared x y ≡ Less) ys

above_put : (o : Ordering) (x p q : Path) (qs rest : List Path) → compared x p ≡ Less → Above x (q ∷ qs) → Above x rest → Above x (put o p q qs rest)
above_put Less x p q qs rest h all more = (h, all)
above_put Equal x p q qs rest h all more = all
above_put Greater x p q qs rest h all more = (all.0, more)

above_inserted : (x p : Path) (qs : List Path) → compared x p ≡ Less → Above x qs → Above x (inserted p qs)
above_inserted x p [] h all = (h, tt)
above_inserted x p (q ∷ qs) h all = above_put (compared p q) x p q qs (inserted p qs) h all (above_inserted x p qs h all.1)

above_all : (x y : Path) (zs : List Path) → compared x y ≡ Less → Above y zs → Above x zs
above_all x y [] h all = tt
above_all x y (z ∷ zs) h all = (nat_list_cmp_total.trans x y z h all.0, above_all x y zs h all.1)

order_put : (o : Ordering) (p q : Path) (qs : List Path) → compared p q ≡ o → InOrder (q ∷ qs) → InOrder (inserted p qs) → InOrder (put o p q qs (inserted p qs))
unfolding IsStrictlySortedBy
order_put Less p q qs e all rest = ((e, above_all p q qs e all.0), all)
order_put Equal p q qs e all rest = all
order_put Greater p q qs e all rest = (above_inserted q p qs (nat_list_cmp_total.antisymm q p ∙ ap ordering_reverse e) all.0, rest)

order_inserted : (p : Path) (qs : List Path) → InOrder qs → InOrder (inserted p qs)
unfolding IsStrictlySortedBy
order_inserted p [] order = (tt, tt)
order_inserted p (q ∷ qs) order = order_put (compared p q) p q qs refl order (order_inserted p qs order.1)

order : (ps : List Path) → InOrder (in_order ps)
unfolding IsStrictlySortedBy
order [] = tt
order (p ∷ ps) = order_inserted p (in_order ps) (order ps)

-- THE SAME PATHS
contains_tail : (q : Path) (xs ys : List Path) (x : Path) → (Contains xs x → Contains ys x) → Contains (q ∷ xs) x → Contains (q ∷ ys) x
contains_tail q xs ys x h (zero, l, e) = (0, omega arith, e)
contains_tail q xs ys x h (suc k, l, e) = Contains-append_right (q ∷ []) ys x (h (k, omega arith, e))

stays_put : (o : Ordering) (p q : Path) (qs rest : List Path) (x : Path) → Contains (q ∷ qs) x → (Contains qs x → Contains rest x) → Contains (put o p q qs rest) x
stays_put Less p q qs rest x h k = Contains-append_right (p ∷ []) (q ∷ qs) x h
stays_put Equal p q qs rest x h k = h
stays_put Greater p q qs rest x h k = contains_tail q qs rest x k h

stays : (p : Path) (qs : List Path) (x : Path) → Contains qs x → Contains (inserted p qs) x
stays p [] x h = Contains-append_right (p ∷ []) [] x h
stays p (q ∷ qs) x h = stays_put (compared p q) p q qs (inserted p qs) x h (stays p qs x)

new_put : (o : Ordering) (p q : Path) (qs rest : List Path) → compared p q ≡ o → Contains rest p → Contains (put o p q qs rest) p
new_put Less p q qs rest e h = (0, omega arith, refl)
new_put Equal p q qs rest e h = subst (λ z. Contains (q ∷ qs) z) (sym (exact_bytes p q e)) (0, omega arith, refl)
new_put Greater p q qs rest e h = Contains-append_right (q ∷ []) rest p h

new_stands : (p : Path) (qs : List Path) → Contains (inserted p qs) p
new_stands p [] = (0, omega arith, refl)
new_stands p (q ∷ qs) = new_put (compared p q) p q qs (inserted p qs) refl (new_stands p qs)

from_put : (o : Ordering) (p q : Path) (qs rest : List Path) (x : Path) → (Contains rest x → Contains (p ∷ qs) x) → Contains (put o p q qs rest) x → Contains (p ∷ q ∷ qs) x
from_put Less p q qs rest x h k = k
from_put Equal p q qs rest x h k = Contains-append_right (p ∷ []) (q ∷ qs) x k
from_put Greater p q qs rest x h (zero, l, e) = (1, omega arith, e)
from_put Greater p q qs rest x h (suc k, l, e) = contains_tail p qs (q ∷ qs) x (Contains-append_right (q ∷ []) qs x) (h (k, omega arith, e))

from_inserted : (p : Path) (qs : List Path) (x : Path) → Contains (inserted p qs) x → Contains (p ∷ qs) x
from_inserted p [] x k = k
from_inserted p (q ∷ qs) x k = from_put (compared p q) p q qs (inserted p qs) x (from_inserted p qs x) k

to_order : (ps : List Path) (x : Path) → Contains ps x → Contains (in_order ps) x
to_order [] x h = h
to_order (p ∷ ps) x (zero, l, e) = subst (λ z. Contains (inserted p (in_order ps)) z) e (new_stands p (in_order ps))
to_order (p ∷ ps) x (suc k, l, e) = stays p (in_order ps) x (to_order ps x (k, omega arith, e))

from_order : (ps : List Path) (x : Path) → Contains (in_order ps) x → Contains ps x
from_order [] x h = h
from_order (p ∷ ps) x h = contains_tail p (in_order ps) ps x (from_order ps x) (from_inserted p (in_order ps) x h)

-- THE KEPT FILES
kept_paths : (fs : List File) → ListsKept fs (filter is_kept (in_order (paths_of fs)))
kept_paths fs =
    let ps : List Path = in_order (paths_of fs) in
    lists_kept (Some fs) ps (filter is_kept ps) (filter is_kept ps) (lists_paths fs ps (order (paths_of fs)) (λ path. (from_order (paths_of fs) path, to_order (paths_of fs) path))) refl
    (λ path. (λ h. h, λ h. h)) (IsStrictlySortedBy-filter compared is_kept ps (order (paths_of fs)))

pub kept_files : (tree : List File) → (files : List File) × IsKept tree files
kept_files tree = (with_bytes tree (filter is_kept (in_order (paths_of tree))), kept_at tree (filter is_kept (in_order (paths_of tree))) (kept_paths tree))
