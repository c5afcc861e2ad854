-- What workers make of the groups that they took.
use Rattle.std.specs.Prelude.{◌≡◌, ℕ, ◌+◌, ◌<◌, ◌≤◌, List, [], ◌∷◌, length, map, filter, nat_lt, All, vec_capacity, replicate, Option, None, Some}
use Rattle.std.specs.declared.vec.Vec.{Vec}
use Rattle.std.proofs.Common.{Global}
use Rattle.atomic_table.specs.Table.{Me}
use Rattle.atomic_table.specs.Seated.{TableId}
use Rattle.atomic_table.specs.declared.shared.Seat.{Seat}
use Rattle.share_files.specs.declared.rule.Range.{Range}
use Rattle.share_files.specs.Rule.{range, past}

-- the lists that code holds
abbrev pub held_lists : List (Vec ℕ Global) → List (List ℕ)
held_lists vecs = map (λ v. v.items) vecs

-- each worker with its list, and what it is then
abbrev pub AllWork : {W : Type 0} → (W → List ℕ → W → Type 0) → List W → List (List ℕ) → List W → Type 0
AllWork works [] [] [] = Unit {0}
AllWork works (w ∷ ws) (l ∷ ls) (v ∷ vs) = works w l v × AllWork works ws ls vs
AllWork works ws ls vs = ⊥

-- a list with room for all groups
abbrev pub IsBlank : ℕ → Vec ℕ Global → Type 0
IsBlank groups v = (v.items ≡ []) × (groups ≤ vec_capacity v)

-- what the workers from k on took: worker k its own group, and of the numbers that it drew those below the number of groups, one
-- of which it was not
abbrev pub Took : ℕ → ℕ → List (List ℕ) → List (List ℕ) → Type 0
Took groups k [] [] = Unit {0}
Took groups k (d ∷ ds) (l ∷ ls) = (l ≡ k ∷ filter (λ n. nat_lt n groups) d) × (1 ≤ past groups d) × Took groups (k + 1) ds ls
Took groups k ds ls = ⊥

-- a seat of this many workers from k on, which holds no slot
abbrev pub IsRange : ℕ → ℕ → {S : Type 0} → Me S Range → Type 0
IsRange k count me = (me ≡ (range k me.0.lists, [])) × (length me.0.lists ≡ count)

-- the workers from k on ran: what they took, and what they made of it
abbrev pub HaveRun : {W : Type 0} → (W → List ℕ → W → Type 0) → ℕ → ℕ → List (List ℕ) → List W → List (List ℕ) → List W → Type 0
HaveRun works groups k drawn before taken after = Took groups k drawn taken × AllWork works before taken after

-- there is a seat, of this table, of so many workers from k on, none of which drew
abbrev pub Starts : {S : Type 0} → TableId → ℕ → ℕ → Option (Seat S Range) → Type 0
Starts table k count None = ⊥
Starts table k count (Some seat) = (seat.table_id ≡ table) × (seat.me ≡ (range k (replicate count []), []))

-- a range of workers that may run: there is its seat, it has a worker, each list is blank, and all know the number of groups
abbrev pub ReadyWorkers : {S W : Type 0} → (W → ℕ) → TableId → ℕ → ℕ → Option (Seat S Range) → List (Vec ℕ Global) → List W → Type 0
ReadyWorkers groups_of table groups k seat lists workers =
    Starts table k (length workers) seat
    × (0 < length workers)
    × (k + length workers ≤ groups)
    × (length lists ≡ length workers)
    × All (IsBlank groups) lists
    × All (λ w. groups_of w ≡ groups) workers
