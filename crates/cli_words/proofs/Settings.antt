-- One part behind others.
use Rattle.std.proofs.Common.{◌≡◌, ℕ, List, [], ◌∷◌, ◌++◌, true, Some, refl, ap, sym, ◌∙◌}
use Rattle.std.proofs.lemmas.List.{append-nil}
use Rattle.cli_words.specs.Parts.{PathOf, Sets}
use Rattle.cli_words.specs.Options.{with_parts}
use Rattle.cli_words.specs.declared.options.Options.{Options}
use Rattle.cli_words.specs.declared.setting.Setting.{Setting}
use Rattle.cli_words.specs.declared.setting.Setting.TheVariants.{On, Count, Text, Style, Distribution, Generated}
use Rattle.cli_words.specs.declared.table.Switch.TheVariants.{Verbose, CollectOnly, SetupShow}
use Rattle.cli_words.specs.declared.table.Counter.TheVariants.{MaxFail, Workers, StepLimit}
use Rattle.cli_words.specs.declared.table.TextOption.TheVariants.{Keyword, Marks, Ignore}

-- the options that differ in one place
abbrev pub put : Options → Setting → Options
put o (On Verbose) = record o { verbose = true }
put o (On CollectOnly) = record o { collect_only = true }
put o (On SetupShow) = record o { setup_show = true }
put o (Count MaxFail n) = record o { maxfail = n }
put o (Count Workers n) = record o { workers = n }
put o (Count StepLimit n) = record o { step_limit = n }
put o (Text Keyword text) = record o { keyword = text }
put o (Text Marks text) = record o { marks = text }
put o (Text Ignore text) = record o { ignore = o.ignore ++ text ∷ [] }
put o (Style style) = record o { tb = style }
put o (Distribution dist) = record o { dist = dist }
put o (Generated seed files) = record o { generated = Some (seed, files) }

both : (o : Options) (xs ys : List (List ℕ)) → xs ≡ o.paths → ys ≡ o.ignore → o ≡ record o { paths = xs; ignore = ys }
both o xs ys e f = sym (ap (λ (zs : List (List ℕ)). record o { paths = zs; ignore = ys }) e ∙ ap (λ (zs : List (List ℕ)). record o { ignore = zs }) f)

-- what one setting sets
pub put_is : (o : Options) (s : Setting) → put o s ≡ with_parts o (Sets s ∷ [])
unfolding with_parts
put_is o (On Verbose) = both (record o { verbose = true }) _ _ (append-nil o.paths) (append-nil o.ignore)
put_is o (On CollectOnly) = both (record o { collect_only = true }) _ _ (append-nil o.paths) (append-nil o.ignore)
put_is o (On SetupShow) = both (record o { setup_show = true }) _ _ (append-nil o.paths) (append-nil o.ignore)
put_is o (Count MaxFail n) = both (record o { maxfail = n }) _ _ (append-nil o.paths) (append-nil o.ignore)
put_is o (Count Workers n) = both (record o { workers = n }) _ _ (append-nil o.paths) (append-nil o.ignore)
put_is o (Count StepLimit n) = both (record o { step_limit = n }) _ _ (append-nil o.paths) (append-nil o.ignore)
put_is o (Text Keyword text) = both (record o { keyword = text }) _ _ (append-nil o.paths) (append-nil o.ignore)
put_is o (Text Marks text) = both (record o { marks = text }) _ _ (append-nil o.paths) (append-nil o.ignore)
put_is o (Text Ignore text) = both (record o { ignore = o.ignore ++ text ∷ [] }) _ _ (append-nil o.paths) refl
put_is o (Style style) = both (record o { tb = style }) _ _ (append-nil o.paths) (append-nil o.ignore)
put_is o (Distribution dist) = both (record o { dist = dist }) _ _ (append-nil o.paths) (append-nil o.ignore)
put_is o (Generated seed files) = both (record o { generated = Some (seed, files) }) _ _ (append-nil o.paths) (append-nil o.ignore)

-- what one path sets
pub path_is : (o : Options) (path : List ℕ) → record o { paths = o.paths ++ path ∷ [] } ≡ with_parts o (PathOf path ∷ [])
unfolding with_parts
path_is o path = both (record o { paths = o.paths ++ path ∷ [] }) _ _ refl (append-nil o.ignore)
