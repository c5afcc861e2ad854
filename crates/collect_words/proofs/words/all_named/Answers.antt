use Rattle.std.proofs.Common.{◌≡◌, ◌∙◌, ◌++◌, ◌∷◌, [], ℕ, List, Some, ap, sym, arith}
use Rattle.std.proofs.lemmas.List.Elements.{filter_map-append}
use Rattle.collect_words.specs.Words.{named_by, named_word}
use Rattle.collect_words.specs.Words as words
use Rattle.collect_words.specs.declared.named.NamedWord.{NamedWord}
use Rattle.collect_words.proofs.Once.{list_step}
use Rattle.collect_words.proofs.FirstWords.{one_named, unnamed_on}
use Rattle.collect_words.proofs.words.all_named.Goals as goal

pub loop-word-preserved : goal.loop-word-preserved
loop-word-preserved c =
    let named : named_by c.args.walk.now c.word-item.result ≡ Some c.in-Some.named =
    ap (λ (t : List ℕ). named_by c.args.walk.now t) (sym (c.as_bytes.ensures.value ∙ c.text.ensures)) ∙ (sym c.in_ok-named.ensures ∙ c.in-Some.is) in
    record {
      named = list_step (words.all_named c.args.walk.now) (filter_map-append (λ (word : List ℕ). named_word word (named_by c.args.walk.now word))) c.args.words.now c.loop-word.word-index c.word-item.result _ _ (omega arith) c.word-item.is c.loop-word.invariant.named
          (c.in_ok-push.ensures.ok ∙ (ap (λ (one : NamedWord). c.loop-word.names ++ one ∷ []) c.in_ok-named_word.ensures ∙ ap (λ (ones : List NamedWord). c.loop-word.names ++ ones) (sym (one_named c.args.walk.now c.word-item.result c.in-Some.named named))));
      none = c.loop-word.invariant.none ∙ unnamed_on c.args.walk.now c.args.words.now c.loop-word.word-index c.word-item.result c.in-Some.named (omega arith) c.word-item.is named;
    }
