-- Which heads fit which tracks.
use Rattle.std.specs.Prelude.{◌≡◌, ℕ, suc, ◌<◌, Bool}

-- Given a track and a head: does the head fit the track?
abbrev pub Fitting : Type 0
Fitting = ℕ → ℕ → Bool

-- The same fits, of the tracks below M on the heads below N.
abbrev pub Alike : ℕ → ℕ → Fitting → Fitting → Type 0
Alike M N fits fits' = (t h : ℕ) → t < M → h < N → fits t h ≡ fits' t h

-- The fits of the tracks after the first: track 1 is called 0, and so on.
abbrev pub later : Fitting → Fitting
later fits t h = fits (suc t) h
