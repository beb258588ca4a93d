-- The facts of a kind of reading.
use Rattle.std.specs.Prelude.{ℕ, ◌≤◌, Bool}
use Rattle.kinds.specs.Codings.{Coding}

pub record Facts (Reading Test : Type 0) : Type 0 where
  -- the code by which a sheet names the kind
  pub code : ℕ
  -- how tests are written; the proper ones are the sound tests
  pub tests : Coding Test
  -- how readings are written; the proper ones are the lawful readings
  pub readings : Coding Reading
  -- which readings pass which test, sound or not
  pub passes : Test → Reading → Bool

abbrev pub most_code : ℕ
most_code = 255

-- the widest a test and a reading may be, in bytes
abbrev pub most_test_width : ℕ
most_test_width = 8

abbrev pub most_reading_width : ℕ
most_reading_width = 4

-- a code is a byte other than zero
pub record Coded (code : ℕ) : Type 0 where
  pub some : 1 ≤ code
  pub few : code ≤ most_code
