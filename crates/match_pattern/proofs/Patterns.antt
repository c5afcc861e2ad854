-- A text is one pattern at most, and it is read.
use Rattle.std.proofs.Common.{◌≡◌, ℕ, Bool, true, false, cond, ◌==◌, List, [], ◌∷◌, ◌++◌, length, Option, Some, None, refl, sym, ap, ◌∙◌, subst, append_assoc, append-nil}
use Rattle.std.proofs.lemmas.Bool.{eqb-true, cond-false}
use Rattle.match_pattern.specs.declared.pattern.Item.{Item}
use Rattle.match_pattern.specs.declared.pattern.Pattern.{Pattern}
use Rattle.match_pattern.specs.Pattern.{start_sign, end_sign, IsPattern}
use Rattle.match_pattern.specs.Reading.{item_at, start_at, end_at, Goes, UpTo, ReadsUpTo}
use Rattle.match_pattern.proofs.Items.{Clear, clear_items, item_on, item_all, item_none}

pub up_to_none : (text : List ℕ) → UpTo text [] text
up_to_none text = record { on = λ more e g. g; all = λ whole e g. (whole, refl, g) }

pub up_to_more : (text : List ℕ) (items : List Item) (rest : List ℕ) (i : Item) (behind : List ℕ) → UpTo text items rest → item_at rest ≡ Some (i, behind) → UpTo text (items ++ i ∷ []) behind
up_to_more text items rest i behind u h = record {
  on = λ more e g. subst (λ (ws : List Item). Goes text ws e) (sym (append_assoc items (i ∷ []) more)) (u.on (i ∷ more) e (item_on rest i behind h more e g));
  all = λ whole e g. let a = u.all whole e g in let b = item_all rest i behind h a.0 e a.2 in (b.0, a.1 ∙ (ap (λ (ws : List Item). items ++ ws) b.1 ∙ sym (append_assoc items (i ∷ []) b.0)), b.2);
}

abbrev StartIs : List ℕ → Bool × List ℕ → Type 0
StartIs text x = text ≡ start_sign x.0 ++ x.1

start_by : (c : ℕ) (rest : List ℕ) (b : Bool) → (c == 94) ≡ b → StartIs (c ∷ rest) (cond b (true, rest) (false, c ∷ rest))
start_by c rest true h = ap (λ (y : ℕ). y ∷ rest) (eqb-true c 94 h)
start_by c rest false h = refl

start_found : (text : List ℕ) → StartIs text (start_at text)
start_found [] = refl
start_found (c ∷ rest) = start_by c rest (c == 94) refl

start_clear : (tail : List ℕ) → Clear 94 tail → start_at tail ≡ (false, tail)
start_clear [] h = refl
start_clear (c ∷ rest) h = cond-false {A = Bool × List ℕ} (c == 94) (true, rest) (false, c ∷ rest) h

start_read : (text : List ℕ) (s : Bool) (tail : List ℕ) → text ≡ start_sign s ++ tail → Clear 94 tail → start_at text ≡ (s, tail)
start_read text true tail h clear = ap start_at h
start_read text false tail h clear = ap start_at h ∙ start_clear tail clear

abbrev EndIs : List ℕ → Option Bool → Type 0
EndIs rest None = Unit {0}
EndIs rest (Some e) = rest ≡ end_sign e

end_by : (c : ℕ) (b : Bool) → (c == 36) ≡ b → EndIs (c ∷ []) (cond b (Some true) None)
end_by c true h = ap (λ (y : ℕ). y ∷ []) (eqb-true c 36 h)
end_by c false h = tt

end_found : (rest : List ℕ) → EndIs rest (end_at rest)
end_found [] = refl
end_found (c ∷ []) = end_by c (c == 36) refl
end_found (c ∷ d ∷ rest) = tt

end_read : (e : Bool) → end_at (end_sign e) ≡ Some e
end_read true = refl
end_read false = refl

abbrev pub read_as : List ℕ → Bool → List Item → Bool → Pattern
read_as text s items e = record { at_start = s; items = items; at_end = e; length = length text }

-- what is read is written so
pub pattern_is : (text : List ℕ) (s : Bool) (behind : List ℕ) (items : List Item) (rest : List ℕ) (e : Bool) → start_at text ≡ (s, behind) → ReadsUpTo behind items rest → end_at rest ≡ Some e → IsPattern text (read_as text s items e)
pattern_is text s behind items rest e hs u he =
    let start : text ≡ start_sign s ++ behind = subst (StartIs text) hs (start_found text) in
    let end : rest ≡ end_sign e = subst (EndIs rest) he (end_found rest) in
    let g : Goes behind items e = subst (λ (ws : List Item). Goes behind ws e) (append-nil items) (u.0.on [] e ([], end, refl)) in
    record { middle = g.0; text_is = start ∙ ap (λ (t : List ℕ). start_sign s ++ t) g.1; items = g.2; length_is = refl }

-- what a text that is read may be
pub pattern_parts : (text : List ℕ) (s : Bool) (behind : List ℕ) (items : List Item) (rest : List ℕ) → start_at text ≡ (s, behind) → ReadsUpTo behind items rest → (q : Pattern) → IsPattern text q → (q.at_start ≡ s) × (q.items ≡ items) × (end_at rest ≡ Some q.at_end)
pattern_parts text s behind items rest hs u q h =
    let tail : List ℕ = h.middle ++ end_sign q.at_end in
    let st : start_at text ≡ (q.at_start, tail) = start_read text q.at_start tail h.text_is (clear_items 94 h.middle q.items q.at_end refl refl refl refl h.items) in
    let is_start : q.at_start ≡ s = ap (λ (x : Bool × List ℕ). x.0) (sym st ∙ hs) in
    let is_behind : behind ≡ tail = ap (λ (x : Bool × List ℕ). x.1) (sym hs ∙ st) in
    let a = u.0.all q.items q.at_end (h.middle, is_behind, h.items) in
    let n = item_none rest u.1 a.0 q.at_end a.2 in
    (is_start, a.1 ∙ (ap (λ (ws : List Item). items ++ ws) n.0 ∙ append-nil items), ap end_at n.1 ∙ end_read q.at_end)

abbrev built : Bool → List Item → Bool → ℕ → Pattern
built s items e n = record { at_start = s; items = items; at_end = e; length = n }

same_read : (text : List ℕ) (q : Pattern) (s : Bool) (items : List Item) (e : Bool) → q.at_start ≡ s → q.items ≡ items → q.at_end ≡ e → q.length ≡ length text → q ≡ read_as text s items e
same_read text q s items e hs hi he hl =
    ap (λ (x : Bool). built x q.items q.at_end q.length) hs
    ∙ (ap (λ (x : List Item). built s x q.at_end q.length) hi
    ∙ (ap (λ (x : Bool). built s items x q.length) he
    ∙ ap (λ (x : ℕ). built s items e x) hl))

pub one_pattern : (text : List ℕ) (s : Bool) (behind : List ℕ) (items : List Item) (rest : List ℕ) (e : Bool) → start_at text ≡ (s, behind) → ReadsUpTo behind items rest → end_at rest ≡ Some e → (q : Pattern) → IsPattern text q → q ≡ read_as text s items e
one_pattern text s behind items rest e hs u he q h =
    let p = pattern_parts text s behind items rest hs u q h in
    let end : end_at rest ≡ Some q.at_end = p.2 in
    let same : q.at_end ≡ e = cc in
    same_read text q s items e p.0 p.1 same h.length_is

pub no_pattern : (text : List ℕ) (s : Bool) (behind : List ℕ) (items : List Item) (rest : List ℕ) → start_at text ≡ (s, behind) → ReadsUpTo behind items rest → end_at rest ≡ None → (q : Pattern) → IsPattern text q → ⊥
no_pattern text s behind items rest hs u he q h =
    let p = pattern_parts text s behind items rest hs u q h in
    let end : end_at rest ≡ Some q.at_end = p.2 in
    cc
