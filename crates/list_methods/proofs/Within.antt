-- What is made of a search or a count under a budget.
use Rattle.std.proofs.Common.{ℕ, Bool, true, false, ◌≡◌, refl, Some, None}
use Rattle.std.specs.Prelude.{nat_lt, if◌then◌else◌}
use Rattle.sorting.specs.call_products.Products.{product_within}
use Rattle.list_methods.specs.Lists.{counted_by, some_counted, index_by, some_indexed, remove_by, some_removed}
use Rattle.list_methods.specs.Search.{search_within, tally_within}
use Rattle.list_methods.specs.declared.search.Search.{Search}
use Rattle.list_methods.specs.declared.search.Search.TheVariants as search
use Rattle.list_methods.specs.declared.search.Tally.{Tally}
use Rattle.list_methods.specs.declared.search.Tally.TheVariants as tally
use Rattle.py_values.specs.declared.value.ObjId.{ObjId}

counted_test : (b : Bool) (t : Tally) → some_counted (if b then None else Some t) ≡ (if b then None else Some (counted_by t))
counted_test true t = refl
counted_test false t = refl

pub counted_within : (budget : ℕ) (t : Tally) → some_counted (tally_within budget t) ≡ product_within budget (counted_by t)
counted_within budget (tally.Count k n) = counted_test (nat_lt budget n) (tally.Count k n)
counted_within budget (tally.TooDeep n) = counted_test (nat_lt budget n) (tally.TooDeep n)

indexed_test : (b : Bool) (s : Search) → some_indexed (if b then None else Some s) ≡ (if b then None else Some (index_by s))
indexed_test true s = refl
indexed_test false s = refl

pub indexed_within : (budget : ℕ) (s : Search) → some_indexed (search_within budget s) ≡ product_within budget (index_by s)
indexed_within budget (search.At i n) = indexed_test (nat_lt budget n) (search.At i n)
indexed_within budget (search.Nowhere n) = indexed_test (nat_lt budget n) (search.Nowhere n)
indexed_within budget (search.TooDeep n) = indexed_test (nat_lt budget n) (search.TooDeep n)

removed_test : (b : Bool) (id : ObjId) (s : Search) → some_removed id (if b then None else Some s) ≡ (if b then None else Some (remove_by id s))
removed_test true id s = refl
removed_test false id s = refl

pub removed_within : (budget : ℕ) (id : ObjId) (s : Search) → some_removed id (search_within budget s) ≡ product_within budget (remove_by id s)
removed_within budget id (search.At i n) = removed_test (nat_lt budget n) id (search.At i n)
removed_within budget id (search.Nowhere n) = removed_test (nat_lt budget n) id (search.Nowhere n)
removed_within budget id (search.TooDeep n) = removed_test (nat_lt budget n) id (search.TooDeep n)
