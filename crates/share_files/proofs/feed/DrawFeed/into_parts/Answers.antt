use Rattle.std.proofs.Common.{◌≡◌, ◌∷◌, [], List, ℕ, refl, sym, ap, subst}
use Rattle.share_files.specs.Fed.{numbers_drawn}
use Rattle.share_files.specs.Work.{Took}
use Rattle.share_files.proofs.Feeding.{took_all, one_range}
use Rattle.share_files.proofs.feed.DrawFeed.into_parts.Goals as goal

pub returns : goal.returns
returns g c =
    let v = c.self.invariant in
    let f = c.self.inside in
    let lists : f.seat.me.0.lists ≡ numbers_drawn f.taken.items f.last ∷ [] = ap (λ m. m.0.lists) v.numbers in
    rw (← c.self.view_is) record {
      seat = (refl, one_range f.worker (numbers_drawn f.taken.items f.last) f.seat.me v.numbers);
      taken = refl;
      took = λ is. subst (λ (ls : List (List ℕ)). Took f.groups f.worker ls (f.taken.items ∷ [])) (sym lists) (took_all f.worker f.groups f.taken.items f.last v.begun v.below v.past is);
    }
