-- What words may ask for in place of a run: pytest's reference, "Command-line Flags", `--help` and `--version`.
use Rattle.std.specs.Prelude.{ℕ, List, [], ◌∷◌, ◌++◌, Option, None, Some, codes, flat_map}
use Rattle.std.specs.List.{filter_map}
use Rattle.cli_words.specs.Options.{first_if_any}
use Rattle.cli_words.specs.Parts.{CommandPart, PathOf, Sets, Wrong, Asks, command_parts}
use Rattle.cli_words.specs.declared.info.Info.{Info}
use Rattle.cli_words.specs.declared.info.Info.TheVariants.{Help, Version}
use Rattle.cli_words.specs.declared.info.Notice.{Notice}
use Rattle.cli_words.specs.declared.info.Notice.TheVariants.{Fault, Asked}

-- what a part has to tell before anything is run
abbrev pub notice_of : CommandPart → Option Notice
notice_of (PathOf path) = None
notice_of (Sets setting) = None
notice_of (Wrong fault) = Some Fault
notice_of (Asks info) = Some (Asked info)

abbrev pub first_notice : List CommandPart → Option Notice
first_notice parts = first_if_any (filter_map notice_of parts)

abbrev pub told_info : Option Notice → Option Info
told_info None = None
told_info (Some Fault) = None
told_info (Some (Asked info)) = Some info

-- THE TEXT THAT WORDS ASK FOR: that of the first `--help` or `--version`, if no fault comes before it
unfoldable pub info_of : List (List ℕ) → Option Info
info_of words = told_info (first_notice (command_parts words))

-- the lines of `--help`
abbrev pub help_lines : List (List ℕ)
help_lines =
    codes "usage: pytest_run [options] [paths]"
    ∷ []
    ∷ codes "Runs tests that are written for pytest. A path is a folder, a file or a test:"
    ∷ codes "FILE::FUNCTION, FILE::CLASS or FILE::CLASS::METHOD. Without paths the files"
    ∷ codes "test_*.py and *_test.py of the current folder and of those below it are run."
    ∷ []
    ∷ codes "options:"
    ∷ codes "  -k EXPRESSION            run the tests with a name of which this is true:"
    ∷ codes "                           a part of it counts, in upper or lower case"
    ∷ codes "  -m EXPRESSION            run the tests with marks of which this is true"
    ∷ codes "  -x, --exitfirst          stop after the first failure or error"
    ∷ codes "  --maxfail N              stop after N failures and errors; 0: never"
    ∷ codes "  --ignore PATH            pass over a file or folder; may be given again"
    ∷ codes "  --collect-only, --co     list the tests and run none"
    ∷ codes "  -v, --verbose            write a line for each test"
    ∷ codes "  --tb STYLE               tell of a failure: short (as without it), line, no"
    ∷ codes "  --setup-show             show how fixtures are set up"
    ∷ codes "  -n, --numprocesses N     share the tests among N workers"
    ∷ codes "  --dist MODE              share them by file: loadfile; run no worker: no"
    ∷ codes "  --step-limit N           let a test take N steps, 1 to 100000000"
    ∷ codes "  --generated SEED,FILES   run tests that are made up"
    ∷ codes "  --version                write the name and the version"
    ∷ codes "  --help                   write this text"
    ∷ codes "  --                       take all words behind it as paths"
    ∷ []
    ∷ codes "An expression has names, and, or, not and parentheses. A value may stand in"
    ∷ codes "the next word, behind the = of a long option, or right behind a short one."
    ∷ []
    ∷ codes "exit status:"
    ∷ codes "  0   all tests passed"
    ∷ codes "  1   a test failed or had an error"
    ∷ codes "  2   a file could not be collected"
    ∷ codes "  4   the words, the files or a conftest.py were refused"
    ∷ codes "  5   no test was selected"
    ∷ codes "  12  memory ran out"
    ∷ codes "  13  a file could not be read"
    ∷ codes "  14  the report could not be written"
    ∷ []
    ∷ codes "example:"
    ∷ codes "  pytest_run -v -k 'store and not slow' --maxfail=3 tests"
    ∷ []

unfoldable pub help_text : List ℕ
help_text = flat_map (λ line. line ++ 10 ∷ []) help_lines

-- each text, with its line ends
abbrev pub info_text : Info → List ℕ
info_text Help = help_text
info_text Version = codes "pytest_run 0.1.0\n"
