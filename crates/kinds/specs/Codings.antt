-- A coding: how the values of a type are written as bytes, and which bytes read as a value.
-- Tests and readings of a kind have one each, under the same laws.
use Rattle.std.specs.Prelude.{◌≡◌, ℕ, ◌≤◌, Bool, true, cond, ◌&&◌, List, ◌++◌, length, drop, Some, None, Option, nat_le, Result, is_ok, ⊤}
use Rattle.kinds.specs.Bytes.{sized}

pub record Coding (X : Type 0) : Type 0 where
  -- how many bytes each value is written as
  pub width : ℕ
  -- which values are proper: the sound tests, the lawful readings
  pub proper : X → Bool
  -- the bytes that a value is written as
  pub bytes : X → List ℕ
  -- the value that bytes read as, or none
  pub reads : List ℕ → Option X

-- The coding in which any `width` bytes stand for one value, and read as it where it is proper.
abbrev pub fixed : {X : Type 0} → ℕ → (X → Bool) → (X → List ℕ) → (List ℕ → X) → Coding X
fixed width proper bytes value =
    record {
      width = width;
      proper = proper;
      bytes = bytes;
      reads = λ bs. cond (sized width bs && proper (value bs)) (Some (value bs)) None;
    }

-- The laws of a coding of at most `most` bytes.
pub record Lawful {X : Type 0} (most : ℕ) (c : Coding X) : Type 0 where
  -- what is written reads back the same
  pub back : (x : X) → c.proper x ≡ true → c.reads (c.bytes x) ≡ Some x
  -- bytes that read as a value are those it is written as, and the value is proper
  pub only : (bs : List ℕ) (x : X) → c.reads bs ≡ Some x → (c.proper x ≡ true) × (c.bytes x ≡ bs)
  -- every proper value is written as `width` bytes
  pub wide : (x : X) → c.proper x ≡ true → length (c.bytes x) ≡ c.width
  pub some : 1 ≤ c.width
  pub few : c.width ≤ most

-- What writing x at the front of a buffer does: it is done exactly where there is room,
-- and without room the buffer stays as it was.
pub record Written {X E : Type 0} (c : Coding X) (x : X) (old : List ℕ) (done : Result ⊤ E) (new : List ℕ) : Type 0 where
  pub answer : is_ok done ≡ nat_le c.width (length old)
  pub buffer : new ≡ cond (nat_le c.width (length old)) (c.bytes x ++ drop c.width old) old
