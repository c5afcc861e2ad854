use Rattle.std.proofs.Common.{◌∙◌}
use Rattle.collect_words.proofs.Index.{index_more}
use Rattle.collect_words.proofs.walk.put.Goals as goal

pub returns : goal.returns
returns c =
    index_more c.args.paths.now c.args.place c.index-paths-place.result c.in_ok-path.path c.args.index.now.entries c.insert.new.self.entries
    c.requires.here c.index-paths-place.is (c.in_ok-path.ensures.items ∙ c.as_bytes.ensures.value ∙ c.text.ensures) c.in_ok-insert.ensures.entries c.requires.behind
