-- Numbers, group by group.
use Rattle.std.proofs.Common.{◌≡◌, ℕ, zero, suc, ◌+◌, ◌*◌, ◌<◌, ◌≤◌, Bool, true, false, not, List, [], ◌∷◌, ◌++◌, map, length, refl, sym, ap, ap₂, ◌∙◌, subst, arith, eqb, eq-eqb, append_assoc, Some, None}
use Rattle.std.proofs.lemmas.Bool.{eqb-true, ne_eqb, eqb-false}
use Rattle.std.proofs.lemmas.List.{append-nil}
use Rattle.std.proofs.lemmas.List.Filters.{length-filter_both}
use Rattle.std.specs.List.{filter}
use Rattle.std.specs.Prelude.{slice_get}
use Rattle.report_rules.specs.Collected.{SelectedItem}
use Rattle.report_rules.specs.Groups.{files_in, groups, is_in, items_of, other_than}
use Rattle.runtest_loop.specs.Fed.{numbers_in_range, unfed, unfed_from}
use Rattle.share_files.specs.Deal.{Every}
use Rattle.worker_groups.proofs.Filters.{agreeing, kept, left, swapped, tested, unseen}
use Rattle.worker_groups.specs.Numbers.{file_place, is_at_place, is_elsewhere, is_other_place, number_groups, numbers_of_file, file_places}

not_true : (b : Bool) → b ≡ true → not b ≡ false
not_true b e = ap not e

not_false : (b : Bool) → b ≡ false → not b ≡ true
not_false b e = ap not e

was_false : (b : Bool) → not b ≡ true → b ≡ false
was_false true e = absurd (let z : false ≡ true = e in cc)
was_false false e = refl

other_way : (p q : ℕ) → eqb p q ≡ false → eqb q p ≡ false
other_way p q e = ne_eqb q p (λ same. eqb-false p q e (sym same))

some_same : (x n : ℕ) → Some x ≡ Some n → x ≡ n
some_same x n e = cc

module _ (places : List ℕ) where
  -- the places of what is elsewhere
  elsewhere : (p : ℕ) (ns : List ℕ) → file_places places (filter (is_elsewhere places p) ns) ≡ filter (is_other_place p) (file_places places ns)
  elsewhere p [] = refl
  elsewhere p (n ∷ ns) =
      let q = file_place places n in
      let rest = file_places places ns in
      tested (eqb q p)
      (λ is. let same : q ≡ p = eqb-true q p is in
      ap (file_places places) (left (is_elsewhere places p) n ns (not_true (eqb q p) is))
      ∙ (elsewhere p ns
      ∙ (sym (unseen (is_other_place p) (is_other_place p) (λ x e. e) rest)
      ∙ (ap (λ (r : ℕ). filter (is_other_place p) (filter (is_other_place r) rest)) (sym same) ∙ sym (left (is_other_place p) q (filter (is_other_place q) rest) (not_true (eqb q p) is))))))
      (λ isnt. ap (file_places places) (kept (is_elsewhere places p) n ns (not_false (eqb q p) isnt))
      ∙ (ap (λ (l : List ℕ). q ∷ filter (is_other_place q) l) (elsewhere p ns)
      ∙ (ap (λ (l : List ℕ). q ∷ l) (swapped (is_other_place q) (is_other_place p) rest) ∙ sym (kept (is_other_place p) q (filter (is_other_place q) rest) (not_false (eqb q p) isnt)))))

  -- the first group, and the groups of what is elsewhere
  pub first_group : (n : ℕ) (ns : List ℕ) → number_groups places (n ∷ ns) ≡ numbers_of_file places (n ∷ ns) (file_place places n) ∷ number_groups places (filter (is_elsewhere places (file_place places n)) (n ∷ ns))
  unfolding number_groups
  first_group n ns =
      let q = file_place places n in
      let off = filter (is_elsewhere places q) ns in
      let gone : filter (is_elsewhere places q) (n ∷ ns) ≡ off = left (is_elsewhere places q) n ns (not_true (eqb q q) (eq-eqb q q refl)) in
      let here : List (List ℕ) → List (List ℕ) = λ l. numbers_of_file places (n ∷ ns) q ∷ l in
      ap here
      (agreeing (numbers_of_file places (n ∷ ns)) (numbers_of_file places off) (is_other_place q)
      (λ r other. let apart : eqb r q ≡ false = was_false (eqb r q) other in
      left (is_at_place places r) n ns (other_way r q apart)
      ∙ sym (unseen (is_at_place places r) (is_elsewhere places q) (λ x at. not_false (eqb (file_place places x) q) (ap (λ (m : ℕ). eqb m q) (eqb-true (file_place places x) r at) ∙ apart)) ns))
      (file_places places ns)
      ∙ ap (λ (l : List ℕ). map (numbers_of_file places off) l) (sym (elsewhere q ns)))
      ∙ ap (λ (l : List ℕ). here (map (numbers_of_file places l) (file_places places l))) (sym gone)

  -- there are fewer left
  pub fewer_left : (n : ℕ) (ns : List ℕ) → length (filter (is_elsewhere places (file_place places n)) (n ∷ ns)) < length (n ∷ ns)
  fewer_left n ns =
      let q = file_place places n in
      let both = length-filter_both (is_at_place places q) (is_elsewhere places q) (λ x. refl) (n ∷ ns) in
      let first = ap length (kept (is_at_place places q) n ns (eq-eqb q q refl)) in
      omega (arith, both, first)

  -- one group more, and what is left
  pub next_group : (ns : List ℕ) (n : ℕ) (mine others : List ℕ) → slice_get ns 0 ≡ Some n → mine ≡ filter (is_at_place places (file_place places n)) ns → others ≡ filter (is_elsewhere places (file_place places n)) ns
      → number_groups places ns ≡ mine ∷ number_groups places others
  next_group [] n mine others e m o = absurd (let z : None ≡ Some n = e in cc)
  next_group (x ∷ ns) n mine others e m o =
      let same : x ≡ n = some_same x n e in
      first_group x ns
      ∙ (ap (λ (p : ℕ). filter (is_at_place places (file_place places p)) (x ∷ ns) ∷ number_groups places (filter (is_elsewhere places (file_place places p)) (x ∷ ns))) same
      ∙ ap₂ (λ (a b : List ℕ). a ∷ number_groups places b) (sym m) (sym o))

  pub one_group_more : (done now : List (List ℕ)) (ns others mine : List ℕ) (all : List (List ℕ)) → now ≡ done ++ mine ∷ [] → number_groups places ns ≡ mine ∷ number_groups places others → done ++ number_groups places ns ≡ all → now ++ number_groups places others ≡ all
  one_group_more done now ns others mine all e g inv =
      ap (λ (l : List (List ℕ)). l ++ number_groups places others) e
      ∙ (append_assoc done (mine ∷ []) (number_groups places others) ∙ (ap (λ (l : List (List ℕ)). done ++ l) (sym g) ∙ inv))

  -- all are grouped where none is left
  pub all_grouped : (done : List (List ℕ)) (ns : List ℕ) (all : List (List ℕ)) → slice_get ns 0 ≡ None → done ++ number_groups places ns ≡ all → done ≡ all
  unfolding number_groups
  all_grouped done [] all e inv = sym (append-nil done) ∙ inv
  all_grouped done (x ∷ ns) all e inv = absurd (let z : Some x ≡ None = e in cc)

  pub fewer_behind : (ns : List ℕ) (n : ℕ) (others : List ℕ) → slice_get ns 0 ≡ Some n → others ≡ filter (is_elsewhere places (file_place places n)) ns → length others < length ns
  fewer_behind [] n others e o = absurd (let z : None ≡ Some n = e in cc)
  fewer_behind (x ∷ ns) n others e o =
      let same : x ≡ n = some_same x n e in
      let less = fewer_left x ns in
      let long : length others ≡ length (filter (is_elsewhere places (file_place places x)) (x ∷ ns)) = ap length o ∙ ap (λ (p : ℕ). length (filter (is_elsewhere places (file_place places p)) (x ∷ ns))) (sym same) in
      omega (arith, less, long)

  few_by : (fuel : ℕ) (ns : List ℕ) (k : ℕ) → length ns ≤ fuel → unfed_from k (number_groups places ns) [] ≤ 2 * length ns
  unfolding number_groups
  few_by fuel [] k le = omega arith
  few_by zero (n ∷ ns) k le = absurd (omega (arith, le))
  few_by (suc fuel) (n ∷ ns) k le =
      let q = file_place places n in
      let off = filter (is_elsewhere places q) (n ∷ ns) in
      let mine = numbers_of_file places (n ∷ ns) q in
      let both = length-filter_both (is_at_place places q) (is_elsewhere places q) (λ x. refl) (n ∷ ns) in
      let first = ap length (kept (is_at_place places q) n ns (eq-eqb q q refl)) in
      let less = fewer_left n ns in
      let rest = few_by fuel off (k + 1) (omega (arith, less, le)) in
      let whole : unfed_from k (number_groups places (n ∷ ns)) [] ≡ 1 + length mine + unfed_from (k + 1) (number_groups places off) [] = ap (λ (l : List (List ℕ)). unfed_from k l []) (first_group n ns) in
      omega (arith, both, first, rest, whole)

  pub few_groups : (ns : List ℕ) → unfed (number_groups places ns) [] ≤ 2 * length ns
  few_groups ns = few_by (length ns) ns 0 (omega arith)

  -- they are numbers that were given
  every_kept : (P : ℕ → Type 0) (f : ℕ → Bool) (ns : List ℕ) → Every P ns → Every P (filter f ns)
  every_kept P f [] e = tt
  every_kept P f (n ∷ ns) e =
      tested (f n)
      (λ is. subst (λ (l : List ℕ). Every P l) (sym (kept f n ns is)) (e.0, every_kept P f ns e.1))
      (λ isnt. subst (λ (l : List ℕ). Every P l) (sym (left f n ns isnt)) (every_kept P f ns e.1))

  each_in_range : (count : ℕ) (ns at : List ℕ) → Every (λ n. n < count) ns → numbers_in_range count (map (numbers_of_file places ns) at)
  each_in_range count ns [] e = tt
  each_in_range count ns (p ∷ at) e = (every_kept (λ n. n < count) (is_at_place places p) ns e, each_in_range count ns at e)

  pub in_range : (count : ℕ) (ns : List ℕ) → Every (λ n. n < count) ns → numbers_in_range count (number_groups places ns)
  unfolding number_groups
  in_range count ns e = each_in_range count ns (file_places places ns) e

  -- THE GROUPS OF A REPORT
  module _ (chosen : ℕ → SelectedItem) (file : (n : ℕ) → (chosen n).file ≡ file_place places n) where
    same_files : (ns : List ℕ) → files_in (map chosen ns) ≡ file_places places ns
    same_files [] = refl
    same_files (n ∷ ns) = ap₂ (λ (f : ℕ) (l : List ℕ). f ∷ filter (other_than f) l) (file n) (same_files ns)

    same_items : (p : ℕ) (ns : List ℕ) → items_of (map chosen ns) p ≡ map chosen (numbers_of_file places ns p)
    same_items p [] = refl
    same_items p (n ∷ ns) =
        let test : eqb (chosen n).file p ≡ eqb (file_place places n) p = ap (λ (f : ℕ). eqb f p) (file n) in
        tested (eqb (file_place places n) p)
        (λ is. kept (is_in p) (chosen n) (map chosen ns) (test ∙ is) ∙ (ap (λ (l : List SelectedItem). chosen n ∷ l) (same_items p ns) ∙ sym (ap (λ (l : List ℕ). map chosen l) (kept (is_at_place places p) n ns is))))
        (λ isnt. left (is_in p) (chosen n) (map chosen ns) (test ∙ isnt) ∙ (same_items p ns ∙ sym (ap (λ (l : List ℕ). map chosen l) (left (is_at_place places p) n ns isnt))))

    mapped : (ns at : List ℕ) → map (λ (l : List ℕ). map chosen l) (map (numbers_of_file places ns) at) ≡ map (items_of (map chosen ns)) at
    mapped ns [] = refl
    mapped ns (p ∷ at) = ap₂ (λ (l : List SelectedItem) (ls : List (List SelectedItem)). l ∷ ls) (sym (same_items p ns)) (mapped ns at)

    pub report_groups : (ns : List ℕ) → map (λ (l : List ℕ). map chosen l) (number_groups places ns) ≡ groups (map chosen ns)
    unfolding number_groups
    report_groups ns = mapped ns (file_places places ns) ∙ ap (λ (l : List ℕ). map (items_of (map chosen ns)) l) (sym (same_files ns))
