use Rattle.std.proofs.Common.{ℕ, List, [], ◌∷◌, ◌++◌, sym, ap, ap₂, ◌∙◌}
use Rattle.std.specs.List.{filter}
use Rattle.std.specs.Prelude.{slice_get}
use Rattle.worker_groups.proofs.Numbers.{all_grouped, fewer_behind, next_group, one_group_more}
use Rattle.worker_groups.specs.Numbers.{is_at_place, is_elsewhere, number_groups}
use Rattle.worker_groups.proofs.grouping.grouped.Goals as goal

pub files-smaller : goal.files-smaller
files-smaller c =
    fewer_behind c.args.places.now c.files.rest.items c.in-Some.first.now c.in_ok-parted.parted.others.items
    (ap (λ (l : List ℕ). slice_get l 0) (sym c.deref.ensures.value) ∙ sym c.in-Some.ensures.value)
    (c.in_ok-parted.ensures.others ∙ ap₂ (λ (p : ℕ) (l : List ℕ). filter (is_elsewhere c.args.places.now p) l) c.file_place-place.ensures c.as_slice.ensures.value)

pub files-preserved : goal.files-preserved
files-preserved c =
    one_group_more c.args.places.now c.files.groups.items c.push.new.self.items c.files.rest.items c.in_ok-parted.parted.others.items c.in_ok-parted.parted.mine.items (number_groups c.args.places.now c.args.numbers.now)
    (c.in_ok-push.ensures.items ∙ ap (λ (l : List ℕ). c.files.groups.items ++ l ∷ []) c.from_vec.ensures)
    (next_group c.args.places.now c.files.rest.items c.in-Some.first.now c.in_ok-parted.parted.mine.items c.in_ok-parted.parted.others.items
    (ap (λ (l : List ℕ). slice_get l 0) (sym c.deref.ensures.value) ∙ sym c.in-Some.ensures.value)
    (c.in_ok-parted.ensures.mine ∙ ap₂ (λ (p : ℕ) (l : List ℕ). filter (is_at_place c.args.places.now p) l) c.file_place-place.ensures c.as_slice.ensures.value)
    (c.in_ok-parted.ensures.others ∙ ap₂ (λ (p : ℕ) (l : List ℕ). filter (is_elsewhere c.args.places.now p) l) c.file_place-place.ensures c.as_slice.ensures.value))
    c.files.invariant

pub returns : goal.returns
returns c =
    all_grouped c.args.places.now c.files.groups.items c.files.rest.items (number_groups c.args.places.now c.args.numbers.now)
    (ap (λ (l : List ℕ). slice_get l 0) (sym c.deref.ensures.value) ∙ sym c.in_default.ensures.value) c.files.invariant
