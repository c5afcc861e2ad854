-- The wrappers that stand at their `yield` while a hook call runs.
use Rattle.std.proofs.Common.{◌≡◌, List, [], ◌∷◌, ◌++◌, None, Some, refl, reverse, sym, subst}
use Rattle.std.proofs.lemmas.List.{reverse-append}
use Rattle.std.specs.declared.alloc.Global.{Global}
use Rattle.std.specs.declared.vec.Vec.{Vec}
use Rattle.hook_order.specs.Answers.{HandsOnWant, IfEnded, IfInner, handed}
use Rattle.hook_order.specs.HookCall.{all_of, answer_as_list, first_of}
use Rattle.hook_order.specs.declared.answers.Inner.{Inner}
use Rattle.hook_order.specs.declared.answers.Inner.TheVariants as inner
use Rattle.hook_order.specs.declared.answers.Ran.{Ran}
use Rattle.hook_order.specs.declared.answers.Ran.TheVariants as ran

module _ {Got Exc : Type 0} where
  pub if_inner : (P Q : Type 0) (end : Inner Got Exc) → (P → Q) → IfInner end P → IfInner end Q
  if_inner P Q inner.List f h = f h
  if_inner P Q (inner.Gave value) f h = f h
  if_inner P Q (inner.Raised exception) f h = f h
  if_inner P Q inner.OutOfMemory f h = tt

  pub if_ended : (P Q : Type 0) (answer : Ran Got Exc) → (P → Q) → IfEnded answer P → IfEnded answer Q
  if_ended P Q (ran.Gave value) f h = f h
  if_ended P Q (ran.Raised exception) f h = f h
  if_ended P Q ran.OutOfMemory f h = tt

  -- a call handed on
  pub handed_ended : (P : Type 0) (answer : Ran Got Exc) → IfEnded answer P → IfInner (handed answer) P
  handed_ended P (ran.Gave value) h = h
  handed_ended P (ran.Raised exception) h = h
  handed_ended P ran.OutOfMemory h = h

  -- a resumption handed on
  went_on : (P Q : Type 0) (answer : Ran Got Exc) → P → IfEnded answer (P → Q) → IfInner (handed answer) Q
  went_on P Q (ran.Gave value) p h = h p
  went_on P Q (ran.Raised exception) p h = h p
  went_on P Q ran.OutOfMemory p h = tt

  wanted : (Q : Type 0) (answer : Ran Got Exc) → answer ≡ ran.OutOfMemory → IfInner (handed answer) Q
  wanted Q (ran.Gave value) e = absurd cc
  wanted Q (ran.Raised exception) e = absurd cc
  wanted Q ran.OutOfMemory e = tt

  pub resumed_waits : (P Q : Type 0) (given : Inner Got Exc) (answer : Ran Got Exc) → HandsOnWant given answer → IfInner given P → IfInner given (IfEnded answer (P → Q)) → IfInner (handed answer) Q
  resumed_waits P Q inner.List answer want p h = went_on P Q answer p h
  resumed_waits P Q (inner.Gave value) answer want p h = went_on P Q answer p h
  resumed_waits P Q (inner.Raised exception) answer want p h = went_on P Q answer p h
  resumed_waits P Q inner.OutOfMemory answer want p h = wanted Q answer (want refl)

  -- the answers of a hook call
  pub first_ended : (P : Type 0) (end : Inner Got Exc) → IfInner end P → IfEnded (first_of end) P
  first_ended P inner.List h = h
  first_ended P (inner.Gave value) h = h
  first_ended P (inner.Raised exception) h = h
  first_ended P inner.OutOfMemory h = h

  listed : (P : Type 0) (answer : Ran (Vec Got Global) Exc) → IfEnded (answer_as_list answer) P → IfEnded answer P
  listed P (ran.Gave None) h = h
  listed P (ran.Gave (Some values)) h = h
  listed P (ran.Raised exception) h = h
  listed P ran.OutOfMemory h = h

  all_answered : (P : Type 0) (end : Inner Got Exc) (values : List Got) → IfInner end P → IfEnded (all_of end values) P
  all_answered P inner.List values h = h
  all_answered P (inner.Gave None) values h = h
  all_answered P (inner.Gave (Some value)) values h = h
  all_answered P (inner.Raised exception) values h = h
  all_answered P inner.OutOfMemory values h = h

  pub all_ended : (P : Type 0) (end : Inner Got Exc) (values : List Got) (answer : Ran (Vec Got Global) Exc) → answer_as_list answer ≡ all_of end values → IfInner end P → IfEnded answer P
  all_ended P end values answer e h = listed P answer (subst (λ (a : Ran (List Got) Exc). IfEnded a P) (sym e) (all_answered P end values h))

-- the latest stands in front
pub latest : {A : Type 0} (xs : List A) (x : A) → reverse (xs ++ x ∷ []) ≡ x ∷ reverse xs
latest xs x = rw (reverse-append xs (x ∷ [])) refl
