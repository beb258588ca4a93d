-- Every check of a sheet file in its order, with the number, place and layer that it refuses by.
-- A check is looked at only where all before it hold, so what stands behind a failing one does not matter.
use Rattle.std.specs.Prelude.{◌≡◌, ℕ, zero, suc, ◌+◌, ◌*◌, Bool, true, false, if◌then◌else◌, not, List, [], ◌∷◌, ◌++◌, length, take, drop, is_some, ◌==◌, nat_le, slice_index}
use Rattle.kinds.specs.Bytes.{word}
use Rattle.kinds.specs.Codings.{Coding}
use Rattle.sheetfile.specs.Card.{Told}
use Rattle.sheetfile.specs.Limits.{most_heads, most_signatures, least_frames, most_frames, within}
use Rattle.sheetfile.specs.Encoding.{head_tag, signature_tag, track_tag}
use Rattle.sheetfile.specs.Sheets.{Each}
use Rattle.sheetfile.specs.Reading.{track_size}

-- what has to hold, and the refusal where it does not
pub record Check : Type 0 where
  pub holds : Bool
  pub refusal : Told

abbrev pub or_fault : Bool → ℕ → ℕ → ℕ → Check
or_fault holds number place layer = record { holds = holds; refusal = record { number = number; place = place; layer = layer } }

-- a field: three bytes and a body that are there, under the tag that is due
abbrev pub field_checks : ℕ → ℕ → List ℕ → List Check
field_checks tag at xs =
    or_fault (nat_le 3 (length xs)) 10 at 1
    ∷ or_fault (nat_le (3 + word xs 1) (length xs)) 10 at 1
    ∷ or_fault (slice_index xs 0 == tag) 11 at 2
    ∷ []

-- the tests of a track, one by one
unfoldable pub test_checks : {T : Type 0} → Coding T → ℕ → ℕ → List ℕ → List Check
test_checks k zero at xs = []
test_checks k (suc m) at xs =
    or_fault (is_some (k.reads (take k.width xs))) 17 at 2 ∷ test_checks k m (at + k.width) (drop k.width xs)

abbrev pub track_checks : {T : Type 0} → Coding T → ℕ → ℕ → List ℕ → List Check
track_checks k m at xs =
    or_fault (slice_index xs 0 == track_tag) 11 at 2
    ∷ or_fault (word xs 1 == m * k.width) 12 at 2
    ∷ test_checks k m (at + 3) (drop 3 xs)

unfoldable pub tracks_checks : {T : Type 0} → Coding T → ℕ → ℕ → ℕ → List ℕ → List Check
tracks_checks k m zero at xs = []
tracks_checks k m (suc left) at xs =
    track_checks k m at xs ++ tracks_checks k m left (at + track_size k m) (drop (track_size k m) xs)

-- a signature's body: length, name, tracks, frames, length again, store, and then the tracks
abbrev pub signature_checks : {T : Type 0} → Coding T → ℕ → ℕ → ℕ → ℕ → ℕ → List ℕ → List Check
signature_checks k room heads least used at body =
    or_fault (nat_le 4 (length body)) 12 at 2
    ∷ or_fault (nat_le least (word body 0)) 20 (at + 3) 3
    ∷ or_fault (within 1 heads (slice_index body 2)) 15 (at + 5) 3
    ∷ or_fault (within least_frames most_frames (slice_index body 3)) 16 (at + 6) 3
    ∷ or_fault (length body == 4 + slice_index body 2 * track_size k (slice_index body 3)) 12 at 2
    ∷ or_fault (nat_le (used + slice_index body 2 * slice_index body 3) room) 21 at 3
    ∷ tracks_checks k (slice_index body 3) (slice_index body 2) (at + 7) (drop 4 body)

-- the signature fields that are left, of which so many more may come
unfoldable pub signatures_checks : {T : Type 0} → Coding T → ℕ → ℕ → ℕ → ℕ → ℕ → ℕ → List ℕ → List Check
signatures_checks k room heads zero least used at xs =
    if length xs == 0 then [] else field_checks signature_tag at xs ++ or_fault false 18 at 3 ∷ []
signatures_checks k room heads (suc left) least used at xs =
    let size = word xs 1 in
    let body = take size (drop 3 xs) in
    if length xs == 0 then []
    else field_checks signature_tag at xs
    ++ (signature_checks k room heads least used at body
    ++ signatures_checks k room heads left (word body 0 + 1) (used + slice_index body 2 * slice_index body 3) (at + (3 + size)) (drop (3 + size) xs))

-- the head field, at least one signature, the signatures
unfoldable pub sheet_checks : {T : Type 0} → ℕ → Coding T → ℕ → List ℕ → List Check
sheet_checks code k room xs =
    field_checks head_tag 0 xs
    ++ (or_fault (word xs 1 == 2) 12 0 2
    ∷ or_fault (slice_index xs 3 == code) 13 3 3
    ∷ or_fault (within 1 most_heads (slice_index xs 4)) 14 4 3
    ∷ or_fault (not (length xs == 5)) 19 5 3
    ∷ signatures_checks k room (slice_index xs 4) most_signatures 0 0 5 (drop 5 xs))

-- all of them hold
abbrev pub AllHold : List Check → Type 0
AllHold cs = Each (λ c. c.holds ≡ true) cs

-- the first check that fails refuses so
pub record FirstFails (cs : List Check) (refusal : Told) : Type 0 where
  pub before : List Check
  pub failing : Check
  pub behind : List Check
  pub in_order : cs ≡ before ++ failing ∷ behind
  pub hold : AllHold before
  pub fails : failing.holds ≡ false
  pub refusal_is : failing.refusal ≡ refusal
