-- The calls of a fake, of which some fail.
use Rattle.std.specs.Prelude.{ℕ, ◌+◌, ◌-◌, ◌^◌, ◌==◌, List, Bool, min, if◌then◌else◌}
use Rattle.std.specs.List.{list_any}
use Rattle.edge_io.specs.declared.memory.Calls.{Calls}

-- one more, where a count stands still at its type's end
abbrev pub next_count : ℕ → ℕ
next_count count = min (count + 1) (2 ^ 64 - 1)

-- no call was made yet
abbrev pub no_calls : List ℕ → Calls
no_calls failing = record { failing = failing; made = 0; faults = 0 }

-- whether the next call fails: its number, from 1, is one of those
abbrev pub next_fails : Calls → Bool
next_fails calls = list_any (λ number. number == next_count calls.made) calls.failing

-- the calls with the next one
abbrev pub with_next : Calls → Calls
with_next calls = record {
  failing = calls.failing;
  made = next_count calls.made;
  faults = if next_fails calls then next_count calls.faults else calls.faults;
}
