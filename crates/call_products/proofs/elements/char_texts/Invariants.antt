use Rattle.std.proofs.Common.{◌≡◌, map, take}
use Rattle.call_products.specs.Elements.{char_text}
use Rattle.call_products.proofs.elements.char_texts.Given as goal

abbrev pub invariant-loop-c : goal.invariant-loop-c
invariant-loop-c l = l.objects.items ≡ map char_text (take l.c-index l.chars)
