-- What a built-in call makes.
use Rattle.std.specs.Prelude.{ℕ, List}
use Rattle.sequence_calls.specs.call_products.declared.product.Product.{Product}

-- the bytes that it prints, and what it makes with its cost
pub record CallEffect : Type 0 where
  pub printed : List ℕ
  pub product : Product
