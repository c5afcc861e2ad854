-- What functions over a parser give.
use Rattle.std.specs.Prelude.{◌≡◌, List, Option, Some, None, Result, Ok, Err, IfOk}
use Rattle.py_tokens.specs.declared.token.Token.{Token}
use Rattle.parsing.specs.Reading.{Read, Found}
use Rattle.py_cursor.specs.declared.parser.Parser.{Parser}
use Rattle.py_cursor.specs.declared.stop.Stop.{Stop}
use Rattle.py_cursor.specs.declared.stop.Stop.TheVariants as stops
use Rattle.py_cursor.specs.Cursor.{FailsAs}

-- What a function returned is what the reader gives, unless memory ran out: the value, with the tokens behind it left; or where reading stopped.
abbrev pub Gives : {X A : Type 0} → (X → A) → Option X → Parser → Read Token A → Type 0
Gives seen (Some x) p read = read ≡ Found (seen x) p.rest.now
Gives seen None p read = FailsAs p.stop read

-- What a function took is what stands first, with the tokens behind it left; or nothing stands there, and nothing is taken.
abbrev pub Takes : {X A : Type 0} → (X → A) → Option (A × List Token) → Option X → Parser → Parser → Type 0
Takes seen look (Some x) old p = look ≡ Some (seen x, p.rest.now)
Takes seen look None old p = (look ≡ None) × (p.rest.now ≡ old.rest.now)

-- what was made, and no token is taken; or memory ran out
abbrev pub Makes : {X E : Type 0} → Result X E → List Token → Option X → Parser → Type 0
Makes made ts (Some x) p = (made ≡ Ok x) × (p.rest.now ≡ ts)
Makes made ts None p = p.stop ≡ stops.Memory

-- where nothing was made, what was given is an error, and no token is taken
abbrev pub Loses : {X E : Type 0} → Result X E → List Token → Option X → Parser → Type 0
Loses made ts (Some x) p = Unit {0}
Loses made ts None p = IfOk made (λ x. ⊥) × (p.rest.now ≡ ts)
