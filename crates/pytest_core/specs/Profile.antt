-- THE LANGUAGE OF A RUN: what the report asks of it, put together.
use Rattle.worker_sessions.specs.collect_tree.Collection.{collect}
use Rattle.worker_sessions.specs.collect_tree.file_source.Sources.{ReadSource}
use Rattle.generated_tree.specs.Generated.{generated_files}
use Rattle.worker_sessions.specs.run_items.report_rules.Collected.{Profile}
use Rattle.worker_sessions.specs.run_items.Texts.{fixture_texts}
use Rattle.worker_sessions.specs.run_items.runtest_rules.Language.{python}
use Rattle.worker_sessions.specs.run_items.runtest_rules.Rules.{rules}
use Rattle.selection.specs.Exprs.{refused_expression}
use Rattle.worker_sessions.specs.run_items.test_suite.declared.suite.Suite.{Suite}

-- pytest over our language: the words that it refuses, the files that it makes up, its collection, and what its tests do
abbrev pub profile : Profile python ReadSource Suite
profile = record {
  refused = refused_expression;
  generated = generated_files;
  collect = collect;
  rules = rules;
  fixture = fixture_texts;
}
