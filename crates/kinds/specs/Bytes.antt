-- Numbers as bytes, the most significant byte first.
use Rattle.std.specs.Prelude.{ℕ, ◌+◌, ◌*◌, ◌/◌, ◌%◌, Bool, true, ◌&&◌, List, [], ◌∷◌, length, ◌==◌, nat_lt, slice_index}

-- the two bytes of a number below 65,536
abbrev pub pair : ℕ → List ℕ
pair n = (n / 256 % 256) ∷ (n % 256) ∷ []

-- the number whose two bytes stand at places i and i + 1
abbrev pub word : List ℕ → ℕ → ℕ
word bs i = slice_index bs i * 256 + slice_index bs (i + 1)

-- each element is a byte
abbrev pub octets : List ℕ → Bool
octets [] = true
octets (b ∷ bs) = nat_lt b 256 && octets bs

-- exactly n bytes
abbrev pub sized : ℕ → List ℕ → Bool
sized n bs = length bs == n && octets bs
