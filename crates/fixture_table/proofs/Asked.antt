-- What definitions ask for: numbers within the table, rows that are written down, lists that are closed.
use Rattle.std.proofs.Common.{◌≡◌, ℕ, ◌<◌, ◌+◌, inl, inr, refl, ap, sym, subst, ◌∙◌, Bool, true, false, List, [], ◌∷◌, ◌++◌, length, arith, suc, zero, cond, IfSome, Option, Some, None, get_or, nat_eq, eq-eqb, append_assoc}
use Rattle.std.specs.Option.{option_to_list}
use Rattle.std.proofs.lemmas.List.{append-nil}
use Rattle.std.proofs.lemmas.Bool.{or_cases, eqb-true, cases_lt}
use Rattle.fixture_table.specs.declared.types.CollectionNode.{CollectionNode}
use Rattle.fixture_table.specs.declared.types.FixtureDef.{FixtureDef}
use Rattle.fixture_table.specs.declared.entry.Entry.{Entry}
use Rattle.fixture_table.specs.declared.entry.Entry.TheVariants.{Definition, Missing}
use Rattle.session_types.specs.Numbers.{among}
use Rattle.fixture_table.specs.Closing.{IsKnown, same_entry, has, with_one, with_unseen, entry_at}
use Rattle.fixture_table.specs.Faults.{definitions_of}
use Rattle.fixture_table.specs.Marks.{Below}
use Rattle.fixture_table.proofs.Reached.{or_true, or_right, among_push}

pub definitions_append : (xs ys : List Entry) → definitions_of (xs ++ ys) ≡ definitions_of xs ++ definitions_of ys
definitions_append [] ys = refl
definitions_append (Definition d ∷ xs) ys = ap (λ (r : List ℕ). d ∷ r) (definitions_append xs ys)
definitions_append (Missing n ∷ xs) ys = definitions_append xs ys

pub same_is : (d e : Entry) → same_entry d e ≡ true → d ≡ e
same_is (Definition d) (Definition e) h = ap Definition (eqb-true d e h)
same_is (Definition d) (Missing m) h = absurd cc
same_is (Missing n) (Definition e) h = absurd cc
same_is (Missing n) (Missing m) h = ap Missing (eqb-true n m h)

pub same_refl : (e : Entry) → same_entry e e ≡ true
same_refl (Definition d) = eq-eqb d d refl
same_refl (Missing n) = eq-eqb n n refl

-- an entry of a list stands at a place of it
pub entry_place : (e : Entry) (es : List Entry) → has e es ≡ true → (p : ℕ) × (p < length es) × (entry_at es p ≡ e)
entry_place e [] h = absurd cc
entry_place e (x ∷ xs) h = elim (or_cases (same_entry x e) (has e xs) h) [
  | inl s ↦ (0, omega arith, same_is x e s)
  | inr r ↦ let g = entry_place e xs r in (suc g.0, (let lt = g.1 in omega arith), g.2)
]

pub has_at : (es : List Entry) (p : ℕ) → p < length es → has (entry_at es p) es ≡ true
has_at [] p lt = absurd (omega arith)
has_at (x ∷ xs) zero lt = or_true (same_entry x x) (has x xs) (same_refl x)
has_at (x ∷ xs) (suc p) lt = or_right (same_entry x (entry_at xs p)) (has (entry_at xs p) xs) (has_at xs p (omega arith))

has_append : (e : Entry) (xs ys : List Entry) → has e xs ≡ true → has e (xs ++ ys) ≡ true
has_append e [] ys h = absurd cc
has_append e (x ∷ xs) ys h = elim (or_cases (same_entry x e) (has e xs) h) [
  | inl s ↦ or_true (same_entry x e) (has e (xs ++ ys)) s
  | inr r ↦ or_right (same_entry x e) (has e (xs ++ ys)) (has_append e xs ys r)
]

has_last : (e : Entry) (xs : List Entry) → has e (xs ++ e ∷ []) ≡ true
has_last e [] = or_true (same_entry e e) false (same_refl e)
has_last e (x ∷ xs) = or_right (same_entry x e) (has e (xs ++ e ∷ [])) (has_last e xs)

-- the longer list begins with the shorter
pub record Extends (xs ys : List Entry) : Type 0 where
  pub more : List Entry
  pub is : ys ≡ xs ++ more

extends_one : (e : Entry) (es : List Entry) → Extends es (with_one e es) × (has e (with_one e es) ≡ true)
extends_one e es = pick (has e es) refl where
  pick : (b : Bool) → has e es ≡ b → Extends es (with_one e es) × (has e (with_one e es) ≡ true)
  pick true h = (record { more = []; is = ap (λ (c : Bool). cond c es (es ++ e ∷ [])) h ∙ sym (append-nil es) }, ap (has e) (ap (λ (c : Bool). cond c es (es ++ e ∷ [])) h) ∙ h)
  pick false h = (record { more = e ∷ []; is = ap (λ (c : Bool). cond c es (es ++ e ∷ [])) h }, ap (has e) (ap (λ (c : Bool). cond c es (es ++ e ∷ [])) h) ∙ has_last e es)

extends_then : (xs ys zs : List Entry) → Extends xs ys → Extends ys zs → Extends xs zs
extends_then xs ys zs a b = record { more = a.more ++ b.more; is = b.is ∙ ap (λ (r : List Entry). r ++ b.more) a.is ∙ append_assoc xs a.more b.more }

pub has_extends : (e : Entry) (xs ys : List Entry) → Extends xs ys → has e xs ≡ true → has e ys ≡ true
has_extends e xs ys x h = ap (has e) x.is ∙ has_append e xs x.more h

-- what is appended unseen is there afterwards
pub unseen_has : (new es : List Entry) → Extends es (with_unseen new es) × ((e : Entry) → has e new ≡ true → has e (with_unseen new es) ≡ true)
unseen_has [] es = (record { more = []; is = sym (append-nil es) }, λ e h. absurd cc)
unseen_has (x ∷ new) es =
    let one = extends_one x es in
    let rest = unseen_has new (with_one x es) in (
      extends_then es (with_one x es) (with_unseen new (with_one x es)) one.0 rest.0,
      λ e h. elim (or_cases (same_entry x e) (has e new) h) [
        | inl s ↦ has_extends e (with_one x es) (with_unseen new (with_one x es)) rest.0 (subst (λ (y : Entry). has y (with_one x es) ≡ true) (same_is x e s) one.1)
        | inr r ↦ rest.1 e r
      ],
    )

-- what the entry is, if it is known, is within the table
pub below_more : (defs : List FixtureDef) (xs : List ℕ) (e : Option Entry) → Below xs (length defs) → IfSome e (IsKnown defs) → Below (xs ++ definitions_of (option_to_list e)) (length defs)
below_more defs xs None b k = subst (λ (ys : List ℕ). Below ys (length defs)) (sym (append-nil xs)) b
below_more defs xs (Some (Missing n)) b k = subst (λ (ys : List ℕ). Below ys (length defs)) (sym (append-nil xs)) b
below_more defs xs (Some (Definition d)) b k = λ e h. elim (or_cases (among e xs) (nat_eq d e) (sym (among_push e xs d) ∙ h)) [
  | inl s ↦ b e s
  | inr s ↦ subst (λ (n : ℕ). n < length defs) (eqb-true d e s) k
]
