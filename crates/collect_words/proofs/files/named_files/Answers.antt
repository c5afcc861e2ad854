use Rattle.std.proofs.Common.{arith}
use Rattle.std.proofs.lemmas.List.Elements.{filter_map-append}
use Rattle.collect_words.specs.Files.{named_file, named_files}
use Rattle.collect_words.specs.declared.named.NamedWord.{NamedWord}
use Rattle.collect_words.proofs.Once.{list_step}
use Rattle.collect_words.proofs.files.named_files.Goals as goal

pub loop-word-preserved : goal.loop-word-preserved
loop-word-preserved c =
    list_step named_files (filter_map-append (λ (word : NamedWord). named_file word.named)) c.args.words.now c.loop-word.word-index c.word-item.result _ _ (omega arith) c.word-item.is c.loop-word.invariant c.in_ok-push_file.ensures
