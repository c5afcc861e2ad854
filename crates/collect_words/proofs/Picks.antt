-- The numbers of the items that a test picks, of two lists behind one another.
use Rattle.std.proofs.Common.{◌≡◌, ℕ, Bool, List, ◌++◌, ap, ◌∙◌}
use Rattle.std.specs.List.{filter, flat_map}
use Rattle.std.proofs.lemmas.List.{map-append}
use Rattle.std.proofs.lemmas.List.Elements.{filter-append}
use Rattle.std.proofs.lemmas.List.Concat.{flat_map-append}
use Rattle.collect_words.specs.Nodes.{item_numbers}
use Rattle.collect_words.specs.declared.nodes.ItemNames.{ItemNames}

abbrev pub picked : (ItemNames → Bool) → List ItemNames → List ℕ
picked p items = item_numbers (filter p items)

pub picked-append : (p : ItemNames → Bool) (xs ys : List ItemNames) → picked p (xs ++ ys) ≡ picked p xs ++ picked p ys
picked-append p xs ys = ap item_numbers (filter-append p xs ys) ∙ map-append (λ (item : ItemNames). item.number) (filter p xs) (filter p ys)

abbrev pub gathered : (ℕ → Bool) → (ℕ → List ItemNames) → List ℕ → List ℕ
gathered p f places = item_numbers (flat_map f (filter p places))

pub gathered-append : (p : ℕ → Bool) (f : ℕ → List ItemNames) (xs ys : List ℕ) → gathered p f (xs ++ ys) ≡ gathered p f xs ++ gathered p f ys
gathered-append p f xs ys =
    ap (λ ps. item_numbers (flat_map f ps)) (filter-append p xs ys)
    ∙ (ap item_numbers (flat_map-append f (filter p xs) (filter p ys)) ∙ map-append (λ (item : ItemNames). item.number) (flat_map f (filter p xs)) (flat_map f (filter p ys)))
