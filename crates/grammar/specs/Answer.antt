-- What is said of a whole list of tokens, for a line of a table.
use Rattle.std.specs.Prelude.{◌≡◌, ℕ, ◌≤◌, ◌==◌, Bool, true, false, not, ◌&&◌, List, [], ◌∷◌}
use Rattle.parsing.specs.Reading.{Read, has}
use Rattle.parsing.specs.Answer.{finish, Settled}
use Rattle.grammar.specs.Table.{token, give, node, line, inner, join, far, fork, ◌⨾◌, ◌∣◌, many, when, room, lift, seen, until, Grammar, In, Fars, Line}
use Rattle.grammar.specs.Levels.{FarReaders, readers}

-- what a line reads at most n levels high
abbrev pub Within : (g : Grammar) (fl : Fars g) (n : ℕ) (r : g.Name) → List g.Tok → g.El (g.sort r) × ℕ → Type 0
Within g fl n r w y = Line g fl r w y × (y.1 ≤ n)

-- THE ANSWER: the reading of all tokens at most n levels high; or the first token with which no reading goes on; or the first with which readings go on, but none at most n levels high. The other grammars' lines read fl within their limits, and fm without.
abbrev pub IsAnswer : (g : Grammar) (fl fm : Fars g) (n : ℕ) (r : g.Name) → List g.Tok → Read g.Tok (g.El (g.sort r) × ℕ) → Type 0
IsAnswer g fl fm n r ts x = Settled (Within g fl n r) (Line g fm r) ts x

-- what the reader of a line gives for a whole list
abbrev pub answer : (g : Grammar) (fr : FarReaders g) (n : ℕ) (r : g.Name) → List g.Tok → Read g.Tok (g.El (g.sort r) × ℕ)
answer g fr n r ts = finish (readers g fr n r ts)

-- TOKENS THAT NEVER STAND in what a part reads: whether it names no token of the kind k, and only lines that don't
abbrev pub avoids : (g : Grammar) (k : ℕ) (free : g.Name → Bool) {S A : g.Sort} → In g S A → Bool
avoids g k free (token F f) = not (has k F)
avoids g k free (line r f) = free r
avoids g k free (inner r f) = free r
avoids g k free (fork c d f p q j) = not (has k (c ∷ [])) && (not (has k (d ∷ [])) && avoids g k free p)
avoids g k free (join r f) = free r
avoids g k free (p ⨾ q) = avoids g k free p && avoids g k free q
avoids g k free (p ∣ q) = avoids g k free p && avoids g k free q
avoids g k free (many p) = avoids g k free p
avoids g k free (when c p) = avoids g k free p
avoids g k free (room p) = avoids g k free p
avoids g k free (lift lf p) = avoids g k free p
avoids g k free (seen v p) = avoids g k free p
avoids g k free (until c tk f i e p) = avoids g k free e && avoids g k free p
avoids g k free (give f) = true
avoids g k free (node f) = true
avoids g k free (far q f) = true

abbrev pub Without : {T : Type 0} → (T → ℕ) → ℕ → List T → Type 0
Without kind k [] = Unit {0}
Without kind k (t ∷ w) = ((kind t == k) ≡ false) × Without kind k w
