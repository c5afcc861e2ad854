-- What holds where a function tells that it found something.
use Rattle.std.specs.Prelude.{Bool, true, false, ⊤}

abbrev pub OnTrue : Bool → Type 0 → Type 0
OnTrue true holds = holds
OnTrue false holds = ⊤
