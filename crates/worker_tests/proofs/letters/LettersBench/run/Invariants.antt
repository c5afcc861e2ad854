use Rattle.std.proofs.Common.{◌≡◌, ◌<◌, [], string_bytes}
use Rattle.share_files.specs.Deal.{Every, left}
use Rattle.worker_tests.specs.Letters.{letters_printed, letters_reports}
use Rattle.worker_tests.proofs.letters.LettersBench.run.Given as goal

abbrev pub invariant-loop-file : goal.invariant-loop-file
invariant-loop-file g l = record {
  origin : g.F.Feed.origin l.feed ≡ g.F.Feed.origin l.fn.feed;
  limit : g.F.Feed.limit l.feed ≡ 4;
  below : Every (λ n. n < 4) (g.F.Feed.given l.feed);
  printed : string_bytes l.printed ≡ letters_printed [] (g.F.Feed.given l.feed);
  reports : l.reports.items ≡ letters_reports [] (g.F.Feed.given l.feed);
}

abbrev pub decreases-loop-file : goal.decreases-loop-file
decreases-loop-file g l = left (g.F.Feed.limit l.feed) (g.F.Feed.given l.feed)
