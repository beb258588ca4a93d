-- The first placing, as a search: each track in turn takes the least free head that leaves a placing of the tracks after it.
use Rattle.std.specs.Prelude.{ℕ, zero, suc, Bool, true, if◌then◌else◌, not, ◌&&◌, List, [], ◌∷◌, Some, None, Option, ◌==◌}
use Rattle.matching.specs.Fitting.{Fitting, later}

-- The free heads but h.
abbrev pub without : (ℕ → Bool) → ℕ → ℕ → Bool
without free h x = free x && not (x == h)

abbrev pub or_else : Option (List ℕ) → Option (List ℕ) → Option (List ℕ)
or_else (Some a) b = Some a
or_else None b = b

abbrev pub prepend : ℕ → Option (List ℕ) → Option (List ℕ)
prepend h (Some hs) = Some (h ∷ hs)
prepend h None = None

-- The first list among f 0, f 1, .. f (n - 1).
abbrev pub first_some : (ℕ → Option (List ℕ)) → ℕ → Option (List ℕ)
first_some f zero = None
first_some f (suc n) = or_else (first_some f n) (f n)

-- The first placing of the tracks 0 .. k - 1 on free heads below N.
abbrev pub first_on : ℕ → Fitting → ℕ → (ℕ → Bool) → Option (List ℕ)
first_on N fits zero free = Some []
first_on N fits (suc k) free =
    first_some (λ h. if free h && fits 0 h then prepend h (first_on N (later fits) k (without free h)) else None) N

-- The first placing of the tracks below M on the heads below N, if there is one.
abbrev pub first_placing_of : Fitting → ℕ → ℕ → Option (List ℕ)
first_placing_of fits M N = first_on N fits M (λ h. true)
