-- What the code's answers tell of loaded conftests.
use Rattle.std.specs.Prelude.{◌++◌, Option, Some, None, Result, Ok, Err}
use Rattle.fixture_world.specs.tracebacks.source_meaning.Meaning.{SourceWorld}
use Rattle.collect_tree.specs.Conftests.{ConftestsLoaded, conftests_found}
use Rattle.collect_tree.specs.declared.conftests.FailedConftest.{FailedConftest}
use Rattle.collect_tree.specs.declared.conftests.LoadedConftests.{LoadedConftests}

abbrev pub conftests_told : Result LoadedConftests FailedConftest → ConftestsLoaded
conftests_told (Ok loaded) = Ok (conftests_found loaded.modules.items loaded.hooks.items)
conftests_told (Err failed) = Err (failed.path, failed.told)

-- others behind those that were loaded
abbrev pub after_found : LoadedConftests → ConftestsLoaded × SourceWorld → ConftestsLoaded × SourceWorld
after_found loaded (Ok found, w) = (Ok (conftests_found (loaded.modules.items ++ found.modules) (loaded.hooks.items ++ found.hooks)), w)
after_found loaded (Err failed, w) = (Err failed, w)

-- others behind those that were loaded, unless one has failed
abbrev pub found_or_failed : LoadedConftests → Option FailedConftest → ConftestsLoaded × SourceWorld → SourceWorld → ConftestsLoaded × SourceWorld
found_or_failed loaded None rest w = after_found loaded rest
found_or_failed loaded (Some failed) rest w = (Err (failed.path, failed.told), w)
