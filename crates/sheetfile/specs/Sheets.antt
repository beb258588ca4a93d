-- What a sheet says, and what keeps it within the limits.
use Rattle.std.specs.Prelude.{◌≡◌, ℕ, ◌+◌, ◌*◌, ◌<◌, ◌≤◌, true, List, [], ◌∷◌, length}
use Rattle.std.specs.List.{flat_map}
use Rattle.kinds.specs.Codings.{Coding}
use Rattle.sheetfile.specs.Limits.{most_heads, most_signatures, least_frames, most_frames, names}

-- A signature: its name, its length in frames, and its tracks, each with one test for each frame in order.
pub record Signature (T : Type 0) : Type 0 where
  pub name : ℕ
  pub frames : ℕ
  pub tracks : List (List T)

-- A sheet: the code of its kind, the number of heads, and the signatures.
pub record Sheet (T : Type 0) : Type 0 where
  pub code : ℕ
  pub heads : ℕ
  pub signatures : List (Signature T)

-- what holds of each element
abbrev pub Each : {X : Type 0} → (X → Type 0) → List X → Type 0
Each P [] = Unit {0}
Each P (x ∷ xs) = P x × Each P xs

-- a track has one sound test for each frame
pub record TrackWithin {T : Type 0} (k : Coding T) (frames : ℕ) (ts : List T) : Type 0 where
  pub long : length ts ≡ frames
  pub sound : Each (λ t. k.proper t ≡ true) ts

-- a signature has 1 to N tracks and 1 to 64 frames
pub record SignatureWithin {T : Type 0} (k : Coding T) (heads : ℕ) (s : Signature T) : Type 0 where
  pub name : s.name < names
  pub some_tracks : 1 ≤ length s.tracks
  pub few_tracks : length s.tracks ≤ heads
  pub some_frames : least_frames ≤ s.frames
  pub few_frames : s.frames ≤ most_frames
  pub tracks : Each (TrackWithin k s.frames) s.tracks

-- the names rise strictly, the first being `least` or above
abbrev pub Rising : {T : Type 0} → ℕ → List (Signature T) → Type 0
Rising least [] = Unit {0}
Rising least (s ∷ ss) = (least ≤ s.name) × Rising (s.name + 1) ss

-- the sheet is of the kind with this code and these tests, and keeps all limits
pub record Within {T : Type 0} (code : ℕ) (k : Coding T) (s : Sheet T) : Type 0 where
  pub code_is : s.code ≡ code
  pub some_heads : 1 ≤ s.heads
  pub few_heads : s.heads ≤ most_heads
  pub some_signatures : 1 ≤ length s.signatures
  pub few_signatures : length s.signatures ≤ most_signatures
  pub rising : Rising 0 s.signatures
  pub signatures : Each (SignatureWithin k s.heads) s.signatures

-- how many tests a signature of that many tracks and frames has
abbrev pub test_count : {T : Type 0} → Signature T → ℕ
test_count s = length s.tracks * s.frames

-- the tests of a signature, and of signatures, in file order
abbrev pub tests_of : {T : Type 0} → Signature T → List T
tests_of s = flat_map (λ ts. ts) s.tracks

abbrev pub all_tests : {T : Type 0} → List (Signature T) → List T
all_tests ss = flat_map tests_of ss
