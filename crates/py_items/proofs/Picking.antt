-- The elements of slices.
use Rattle.std.proofs.Common.{ℕ, zero, suc, ◌+◌, ◌-◌, ◌<◌, ◌≤◌, List, [], ◌∷◌, ◌++◌, ◌≡◌, refl, ap, arith, length, slice_get, append_assoc, append-nil}
use Rattle.std.proofs.lemmas.Option.{slice_get_past}
use Rattle.py_items.specs.Items.{picked_up, picked_down, element_at}

pub up_step : {A : Type 0} (xs : List A) (at step n i : ℕ) → i < n
    → picked_up xs at step (n - i) ≡ element_at (slice_get xs at) ++ picked_up xs (at + step) step (n - (i + 1))
up_step xs at step n i h =
    let e : n - i ≡ suc (n - (i + 1)) = omega arith in ap (λ (m : ℕ). picked_up xs at step m) e

pub up_past : {A : Type 0} (xs : List A) (at step n : ℕ) → length xs ≤ at → picked_up xs at step n ≡ []
up_past xs at step zero h = refl
up_past xs at step (suc n) h = rw (slice_get_past xs at h, up_past xs (at + step) step n (omega arith)) refl

pub down_step : {A : Type 0} (xs : List A) (behind step n i : ℕ) → i < n
    → picked_down xs behind step (n - i) ≡ element_at (slice_get xs (behind - 1)) ++ picked_down xs (behind - step) step (n - (i + 1))
down_step xs behind step n i h =
    let e : n - i ≡ suc (n - (i + 1)) = omega arith in ap (λ (m : ℕ). picked_down xs behind step m) e

-- a turn of the loops
pub up_turn : {A : Type 0} (items xs all : List A) (at step n i : ℕ) → i < n → items ++ picked_up xs at step (n - i) ≡ all
    → (items ++ element_at (slice_get xs at)) ++ picked_up xs (at + step) step (n - (i + 1)) ≡ all
up_turn items xs all at step n i h e = simp append_assoc (rw (up_step xs at step n i h) at e)

pub down_turn : {A : Type 0} (items xs all : List A) (behind step n i : ℕ) → i < n → items ++ picked_down xs behind step (n - i) ≡ all
    → (items ++ element_at (slice_get xs (behind - 1))) ++ picked_down xs (behind - step) step (n - (i + 1)) ≡ all
down_turn items xs all behind step n i h e = simp append_assoc (rw (down_step xs behind step n i h) at e)

pub up_end : {A : Type 0} (items xs all : List A) (at step n : ℕ) → length xs ≤ at → items ++ picked_up xs at step n ≡ all → items ≡ all
up_end items xs all at step n h e = rw (up_past xs at step n h, append-nil) at e
