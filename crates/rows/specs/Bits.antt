-- The bits of a number.
use Rattle.std.specs.Prelude.{ℕ, ◌/◌, ◌%◌, ◌^◌, Bool, ◌==◌}

-- Whether bit i is set; bit 0 is the lowest.
unfoldable pub bit : ℕ → ℕ → Bool
bit i n = n / 2 ^ i % 2 == 1
