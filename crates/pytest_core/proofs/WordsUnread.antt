-- What is written for a command line with a word that is no text.
use Rattle.std.proofs.Common.{◌≡◌, ℕ, List, Option, refl, sym, subst}
use Rattle.edge_io.specs.Told.{Appends}
use Rattle.pytest_core.specs.Unread.{unread_words}
use Rattle.pytest_core.specs.Written.{Response, Wrote, response_of}
use Rattle.pytest_core.specs.declared.status.Status.{Status}

pub unread_wrote : (put bytes : List ℕ) (status : Status) (old new : Option (List ℕ)) → put ≡ bytes → (bytes, status) ≡ response_of unread_words → Appends old new put
    → Wrote (λ answer. answer ≡ unread_words) old new status
unread_wrote put bytes status old new same is h =
    subst (λ (r : Response). Appends old new r.0 → Wrote (λ answer. answer ≡ unread_words) old new r.1) (sym is) (λ k. (unread_words, refl, k, refl)) (subst (Appends old new) same h)
