-- What workers share of a project.
use Rattle.std.specs.Prelude.{◌≡◌, ℕ, ◌<◌, ◌^◌, List, length, map}
use Rattle.cli_words.specs.declared.options.Options.{Options}
use Rattle.collect_tree.specs.Collection.{collect}
use Rattle.collect_tree.specs.py_load.Reading.{AreRead, ReadFile}
use Rattle.edge_io.specs.Files.{File, InOrder, paths_of}
use Rattle.run_items.specs.report_rules.Collected.{Collected, Whole}
use Rattle.run_items.specs.report_rules.Groups.{groups}
use Rattle.run_items.specs.runtest_rules.Language.{python}
use Rattle.run_items.specs.test_suite.declared.suite.Suite.{Suite}
use Rattle.selection.specs.Exprs.{AreExprs}
use Rattle.selection.specs.declared.exprs.Exprs.{Exprs}

-- what is collected of files with options: their sources are read, and the collection of these is whole
abbrev pub Collects : List File → Options → Collected python Suite → Type 0
Collects files options c = (sources : List ReadFile) × AreRead files sources × (collect options sources ≡ Whole c)

-- the number of items of each group of what was collected
abbrev pub group_sizes : Collected python Suite → List ℕ
group_sizes c = map (λ group. length group) (groups c.selected)

-- the files are in order, the expressions are those of the options, no maxfail stops a session, and something is collected, with so many
-- items in each group
pub record IsProject (files : List File) (options : Options) (exprs : Exprs) (sizes : List ℕ) : Type 0 where
  pub order : InOrder (paths_of files)
  pub expressions : AreExprs options exprs
  pub whole : options.maxfail ≡ 0
  pub few : length sizes < 2 ^ 32
  pub collection : Collected python Suite
  pub collected : Collects files options collection
  pub sized : sizes ≡ group_sizes collection

-- what contracts see of it
pub record ProjectParts : Type 0 where
  pub files : List File
  pub options : Options
  pub sizes : List ℕ
