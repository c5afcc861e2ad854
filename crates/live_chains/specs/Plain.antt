-- What a plain list of live instances is seen as.
use Rattle.std.specs.Prelude.{ℕ, List}
use Rattle.session_types.specs.declared.instance.Instance.{Instance}

pub record PlainList : Type 0 where
  pub live : List (Instance ℕ)
  pub spare : ℕ
