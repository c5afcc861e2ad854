-- Elements joined.
use Rattle.std.proofs.Common.{ℕ, Bool, true, false, ◌&&◌, List, [], ◌∷◌, map, length, is_some, Option, Some, None, ◌≡◌, ◌∙◌, refl, ap, if◌then◌else◌}
use Rattle.std.specs.List.{list_all}
use Rattle.py_values.specs.declared.object.Obj.{Obj}
use Rattle.py_values.specs.declared.value.Value.{Value}
use Rattle.call_products.specs.py_operands.Texts.{text_of}
use Rattle.text_methods.specs.Joins.{is_text, text_chars, chars_of, by_length, joined_by, join_made}
use Rattle.text_methods.specs.Methods.{Parts, Texts, OtherElements, NoElements, text_before, texts_of, texts_to_join, text_or_long, join_parts}
use Rattle.text_methods.specs.Pieces.{joined, short_text}
use Rattle.text_methods.specs.declared.joined.Joined.TheVariants as end

by_text : (kind t : List ℕ) (o : Option (List ℕ)) → join_made kind t (by_length o) ≡ text_or_long (length t) o
by_text kind t (Some s) = refl
by_text kind t None = refl

pub join_told : (kind t : List ℕ) (p : Parts) → join_made kind t (joined_by t p) ≡ join_parts kind t p
join_told kind t (Texts ps) = by_text kind t (short_text (joined t ps))
join_told kind t OtherElements = refl
join_told kind t NoElements = refl

by_first : (o : Option (List ℕ)) (b : Bool) (ts : List (List ℕ))
    → text_before o (if b then Some ts else None) ≡ (if (is_some o && b) then Some (text_chars o ∷ ts) else None)
by_first (Some t) true ts = refl
by_first (Some t) false ts = refl
by_first None b ts = refl

-- the texts that values are
all_texts : (heap : List Obj) (vs : List Value) → texts_of heap vs ≡ (if list_all (is_text heap) vs then Some (map (chars_of heap) vs) else None)
all_texts heap [] = refl
all_texts heap (v ∷ vs) =
    ap (text_before (text_of heap v)) (all_texts heap vs) ∙ by_first (text_of heap v) (list_all (is_text heap) vs) (map (chars_of heap) vs)

pub other_elements : (sep : List ℕ) (heap : List Obj) (vs : List Value) → list_all (is_text heap) vs ≡ false
    → joined_by sep (texts_to_join (texts_of heap vs)) ≡ end.OtherElements
other_elements sep heap vs e = rw (all_texts heap vs, e) refl

pub all_joined : (sep : List ℕ) (heap : List Obj) (vs : List Value) → list_all (is_text heap) vs ≡ true
    → joined_by sep (texts_to_join (texts_of heap vs)) ≡ by_length (short_text (joined sep (map (chars_of heap) vs)))
all_joined sep heap vs e = rw (all_texts heap vs, e) refl
