-- Rows as a list: what is read past the end, and with zeros behind.
use Rattle.std.proofs.Common.{◌≡◌, ℕ, zero, suc, ◌<◌, ◌≤◌, List, [], ◌∷◌, ◌++◌, length, get_or, drop, replicate, refl, inl, inr, arith}
use Rattle.std.proofs.lemmas.Bool.{cases_lt}

-- Past the end nothing stands.
pub get_d_past : (xs : List ℕ) (i : ℕ) → length xs ≤ i → get_or xs i 0 ≡ 0
get_d_past [] i l = refl
get_d_past (x ∷ xs) zero l = absurd (omega arith)
get_d_past (x ∷ xs) (suc i) l = get_d_past xs i (omega arith)

abbrev zeros : ℕ → List ℕ
zeros m = replicate m 0

-- A rest of zeros.
zero_rest : (m n k : ℕ) → get_or (drop n (zeros m)) k 0 ≡ 0
zero_rest zero zero k = refl
zero_rest zero (suc n) k = refl
zero_rest (suc m) zero zero = refl
zero_rest (suc m) zero (suc k) = zero_rest m zero k
zero_rest (suc m) (suc n) k = zero_rest m n k

-- With zeros behind, the same is read.
pub padded : (xs : List ℕ) (m n k : ℕ) → get_or (xs ++ drop n (zeros m)) k 0 ≡ get_or xs k 0
padded [] m n k = zero_rest m n k
padded (x ∷ xs) m n zero = refl
padded (x ∷ xs) m n (suc k) = padded xs m n k

pub padded_within : {b : ℕ} (xs : List ℕ) (m n k : ℕ) → 0 < b → (k < length xs → get_or xs k 0 < b) → get_or (xs ++ drop n (zeros m)) k 0 < b
padded_within {b} xs m n k p l =
    rw (padded xs m n k) (elim (cases_lt k (length xs)) [ inl h ↦ l h | inr h ↦ rw (get_d_past xs k h) p ])
