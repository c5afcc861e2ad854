-- What is shown can run.
use Rattle.std.proofs.Common.{◌≡◌, ◌<◌, ◌-◌, ℕ, zero, suc, Bool, true, false, List, [], ◌∷◌, All, length, map, Option, None, Some, refl, sym, ap, ◌∙◌, subst, arith}
use Rattle.std.specs.Prelude.{IfSome, Result, Ok, slice_get, if◌then◌else◌, nat_le}
use Rattle.std.specs.Option.{unwrap_or}
use Rattle.cli_words.specs.declared.options.Options.{Options}
use Rattle.collect_tree.specs.Collection.{End, collect}
use Rattle.collect_tree.specs.Runnable.{IsRunnable}
use Rattle.collect_tree.specs.Told.{IsWithin, collected_told, collection_end}
use Rattle.collect_tree.specs.collect_items.declared.found.FoundSuite.{FoundSuite}
use Rattle.collect_tree.specs.declared.collected.Collected as found
use Rattle.collect_tree.specs.declared.fault.CollectFault.{CollectFault}
use Rattle.collect_tree.specs.py_load.Reading.{ReadFile}
use Rattle.run_items.specs.report_rules.Collected.{Whole}
use Rattle.run_items.specs.source_meaning.Meaning.{SourceWorld}
use Rattle.share_files.specs.Deal.{Every}
use Rattle.test_session.specs.Collections.{CanRun, Shows, ShowsCollection, item_shown}
use Rattle.test_session.specs.declared.collected.Collected.{Collected}
use Rattle.test_session.specs.declared.items.Item as shown
use Rattle.test_suite.specs.Suites.{item_or, item_with_node, no_item, numbered_item}
use Rattle.test_suite.specs.declared.item.Item.{Item}
use Rattle.test_suite.specs.declared.suite.Suite.{Suite}

below_none : (items : List Item) (n : ℕ) → n < length items → slice_get items n ≡ None → ⊥
below_none [] n l e = absurd (omega arith)
below_none (x ∷ xs) zero l e = absurd (cc)
below_none (x ∷ xs) (suc n) l e = below_none xs n (omega arith) e

some_below : (items : List Item) (n : ℕ) (x : Item) → slice_get items n ≡ Some x → n < length items
some_below [] n x e = absurd (cc)
some_below (y ∷ ys) zero x e = omega arith
some_below (y ∷ ys) (suc n) x e = let l = some_below ys n x e in omega arith

every : {A : Type 0} (P : A → Type 0) (xs : List A) → All P xs → Every P xs
every P [] h = tt
every P (x ∷ xs) h = (h 0 x (omega arith), every P xs (λ k d l. h (suc k) d (omega arith)))

-- an item that is found by its node has a number in its suite
none_at : (b : Bool) (o : Option Item) (i : Item) → o ≡ None → item_or (if b then o else None) ≡ i → no_item ≡ i
none_at true o i e h = sym (ap item_or e) ∙ h
none_at false o i e h = h

first_node : (outer many node n : ℕ) → n < many → 0 ≡ node → node - outer < many
first_node outer many node n l e = omega arith

module _ (s : Suite) (i : Item) (n : ℕ) (l : n < length s.items) (at : item_with_node s i.node ≡ i) where
  number_by : (o : Option Item) → slice_get s.items (i.node - s.outer) ≡ o → i.node - s.outer < length s.items
  number_by (Some x) e = some_below s.items (i.node - s.outer) x e
  number_by None e = first_node s.outer (length s.items) i.node n l (ap (λ (x : Item). x.node) (none_at (nat_le s.outer i.node) (slice_get s.items (i.node - s.outer)) i e at))

module _ (f : FoundSuite) (r : IsRunnable f) where
  number_or : (n : ℕ) (o : Option Item) → slice_get f.suite.items n ≡ o → n < length f.suite.items → (item_or o).node - f.suite.outer < length f.suite.items
  number_or n None e l = absurd (below_none f.suite.items n l e)
  number_or n (Some x) e l = number_by f.suite x n l (r.items n x e).at (slice_get f.suite.items (x.node - f.suite.outer)) refl

  at_place : (ns : List ℕ) → Every (λ n. n < length f.suite.items) ns → (place : ℕ) (i : shown.Item) → slice_get (map (λ n. item_shown (numbered_item f.suite.items n)) ns) place ≡ Some i
      → i.at.node - f.suite.outer < length f.suite.items
  at_place [] h place i e = absurd (cc)
  at_place (n ∷ ns) (l, h) zero i e =
      subst (λ (x : shown.Item). x.at.node - f.suite.outer < length f.suite.items) (ap (λ (o : Option shown.Item). unwrap_or o i) e) (number_or n (slice_get f.suite.items n) refl l)
  at_place (n ∷ ns) (l, h) (suc place) i e = at_place ns h place i e

pub can_run : (f : found.Collected) (c : Collected) → IsWithin f → Shows f c → CanRun c
can_run f c w s =
    let each = at_place f.found w.suite f.selected (every (λ n. n < length f.found.suite.items) f.selected w.numbers) in
    record {
      runnable = subst IsRunnable (sym s.suite) w.suite;
      fresh = s.fresh;
      items = λ place i e.
          subst (λ (x : FoundSuite). i.at.node - x.suite.outer < length x.suite.items) (sym s.suite)
          (each place i (ap (λ (is : List shown.Item). slice_get is place) (sym s.items) ∙ e));
    }

-- what was collected is the collection
pub told_whole : (options : Options) (sources : List ReadFile) (r : Result found.Collected CollectFault) (f : found.Collected) (w : SourceWorld) → r ≡ Ok f
    → IfSome (collection_end r w) (λ (e : End). e ≡ collect options sources) → collect options sources ≡ Whole (collected_told f w)
told_whole options sources r f w is h = sym (subst (λ (x : Result found.Collected CollectFault). IfSome (collection_end x w) (λ (e : End). e ≡ collect options sources)) is h)

pub shows_collection : (options : Options) (sources : List ReadFile) (f : found.Collected) (c : Collected) (w : SourceWorld) → c.world ≡ w → collect options sources ≡ Whole (collected_told f w)
    → IsWithin f → Shows f c → ShowsCollection options sources c
shows_collection options sources f c w same told within shows =
    record { found = f; told = told ∙ ap (λ (v : SourceWorld). Whole (collected_told f v)) (sym same); within = within; shows = shows }
