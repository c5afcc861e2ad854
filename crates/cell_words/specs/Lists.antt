-- What words are seen as.
use Rattle.std.specs.Prelude.{List}

-- the cells and the heads
pub record Lists (C H : Type 0) : Type 0 where
  pub cells : List C
  pub heads : List H
