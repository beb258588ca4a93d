-- What the types of the code mean.
use Rattle.std.specs.Prelude.{◌≡◌, ℕ, ◌^◌, ◌<◌, ◌≤◌, Bool, List, length, take, slice_index}
use Rattle.matching.specs.declared.fits.Fits.{Fits}
use Rattle.matching.specs.declared.placing.Placing.{Placing}
use Rattle.matching.specs.declared.outcome.Outcome.{Outcome}
use Rattle.matching.specs.declared.outcome.Outcome.TheVariants.{Seen, Short}
use Rattle.matching.specs.Limits.{most_tracks, most_heads}
use Rattle.matching.specs.Sets.{has}
use Rattle.matching.specs.Fitting.{Fitting}
use Rattle.matching.specs.Answer.{Answer, seen, short}

-- A row for each track: the set of the heads that fit it.
abbrev pub table : List ℕ → Fitting
table rows t h = has (slice_index rows t) h

-- The relation that a `Fits` holds.
abbrev pub fitting : Fits → Fitting
fitting f = table f.rows

-- The heads of a `Placing`, in the order of their tracks.
abbrev pub heads_of : Placing → List ℕ
heads_of p = take p.tracks p.heads

-- What an `Outcome` says.
abbrev pub answer_of : Outcome → Answer
answer_of (Seen p) = seen (heads_of p)
answer_of (Short s) = short s.number

-- The rows are a table of at most eight tracks on at most eight heads, and name no other head.
pub record Within (heads : ℕ) (rows : List ℕ) : Type 0 where
  pub few_heads : heads ≤ most_heads
  pub few_tracks : length rows ≤ most_tracks
  pub each : (t : ℕ) → t < length rows → slice_index rows t < 2 ^ heads

-- A `Fits` made of these rows.
pub record Made (heads : ℕ) (rows : List ℕ) (f : Fits) : Type 0 where
  pub within : Within heads rows
  pub same_heads : f.heads ≡ heads
  pub same_tracks : f.tracks ≡ length rows
  pub same_fits : (t h : ℕ) → fitting f t h ≡ table rows t h

-- A `Fits` of so many tracks and heads that is as said: `Says` holds of each track, each head and whether the head fits the track.
pub record AsSaid (Says : ℕ → ℕ → Bool → Type 0) (tracks heads : ℕ) (f : Fits) : Type 0 where
  pub same_tracks : f.tracks ≡ tracks
  pub same_heads : f.heads ≡ heads
  pub each : (t h : ℕ) → t < tracks → h < heads → Says t h (fitting f t h)
