-- The reading rule: its checks in their order, over what is left of the bytes and the place where that stands.
use Rattle.std.specs.Prelude.{ℕ, zero, suc, ◌+◌, ◌*◌, if◌then◌else◌, not, List, [], ◌∷◌, length, take, drop, Ok, Err, Result, ◌==◌, nat_lt, slice_index}
use Rattle.kinds.specs.Bytes.{word}
use Rattle.kinds.specs.Codings.{Coding}
use Rattle.sheetfile.specs.declared.fault.Fault.{Fault}
use Rattle.sheetfile.specs.declared.fault.Cause.TheVariants.{Cut, Tag, Length, Kind, Heads, Tracks, Frames, Test, Thirteenth, Bare, Name, Store}
use Rattle.sheetfile.specs.Card.{fault}
use Rattle.sheetfile.specs.Limits.{most_heads, most_signatures, least_frames, most_frames, within}
use Rattle.sheetfile.specs.Sheets.{Signature, Sheet, test_count}
use Rattle.sheetfile.specs.Encoding.{head_tag, signature_tag, track_tag}
use Rattle.sheetfile.specs.Outcomes.{Outcome, stop, give, check, on, into, chain}
use Rattle.sheetfile.specs.Values.{values_read}

-- the body of the field with this tag that xs begins with
abbrev pub field_read : ℕ → ℕ → List ℕ → Result (List ℕ) Fault
field_read tag at xs =
    if nat_lt (length xs) 3 then Err (fault Cut at)
    else if nat_lt (length xs) (3 + word xs 1) then Err (fault Cut at)
    else if slice_index xs 0 == tag then Ok (take (word xs 1) (drop 3 xs))
    else Err (fault Tag at)

-- so many tests
abbrev pub tests_read : {T : Type 0} → Coding T → ℕ → ℕ → List ℕ → Outcome T (List T)
tests_read k m at xs = values_read Test k m at xs

-- a track of m tests
abbrev pub track_read : {T : Type 0} → Coding T → ℕ → ℕ → List ℕ → Outcome T (List T)
track_read k m at xs =
    check (not (slice_index xs 0 == track_tag)) (fault Tag at)
    (check (not (word xs 1 == m * k.width)) (fault Length at)
    (tests_read k m (at + 3) (drop 3 xs)))

-- how many bytes a track of m tests has
abbrev pub track_size : {T : Type 0} → Coding T → ℕ → ℕ
track_size k m = 3 + m * k.width

-- so many tracks of m tests
unfoldable pub tracks_read : {T : Type 0} → Coding T → ℕ → ℕ → ℕ → List ℕ → Outcome T (List (List T))
tracks_read k m zero at xs = give []
tracks_read k m (suc left) at xs =
    chain (track_read k m at xs) (λ ts. into (λ tss. ts ∷ tss) (tracks_read k m left (at + track_size k m) (drop (track_size k m) xs)))

-- the signature with this body, whose field stands at `at`: its name is `least` or above, and `used` tests came before
abbrev pub signature_read : {T : Type 0} → Coding T → ℕ → ℕ → ℕ → ℕ → ℕ → List ℕ → Outcome T (Signature T)
signature_read k room heads least used at body =
    check (nat_lt (length body) 4) (fault Length at)
    (check (nat_lt (word body 0) least) (fault Name (at + 3))
    (check (not (within 1 heads (slice_index body 2))) (fault Tracks (at + 5))
    (check (not (within least_frames most_frames (slice_index body 3))) (fault Frames (at + 6))
    (check (not (length body == 4 + slice_index body 2 * track_size k (slice_index body 3))) (fault Length at)
    (check (nat_lt room (used + slice_index body 2 * slice_index body 3)) (fault Store at)
    (into (λ tss. record { name = word body 0; frames = slice_index body 3; tracks = tss })
    (tracks_read k (slice_index body 3) (slice_index body 2) (at + 7) (drop 4 body))))))))

-- the signatures that are left, of which so many more may come
unfoldable pub signatures_read : {T : Type 0} → Coding T → ℕ → ℕ → ℕ → ℕ → ℕ → ℕ → List ℕ → Outcome T (List (Signature T))
signatures_read k room heads zero least used at xs =
    if length xs == 0 then give [] else on (field_read signature_tag at xs) (λ body. stop (fault Thirteenth at))
signatures_read k room heads (suc left) least used at xs =
    if length xs == 0 then give []
    else on (field_read signature_tag at xs) (λ body.
    chain (signature_read k room heads least used at body) (λ s.
    into (λ ss. s ∷ ss)
    (signatures_read k room heads left (s.name + 1) (used + test_count s) (at + (3 + length body)) (drop (3 + length body) xs))))

-- the sheet in these bytes, of the kind with this code and these tests, for a store with room for so many
unfoldable pub rule : {T : Type 0} → ℕ → Coding T → ℕ → List ℕ → Outcome T (Sheet T)
rule code k room xs =
    on (field_read head_tag 0 xs) (λ body.
    check (not (length body == 2)) (fault Length 0)
    (check (not (slice_index body 0 == code)) (fault Kind 3)
    (check (not (within 1 most_heads (slice_index body 1))) (fault Heads 4)
    (check (length xs == 5) (fault Bare 5)
    (into (λ ss. record { code = slice_index body 0; heads = slice_index body 1; signatures = ss })
    (signatures_read k room (slice_index body 1) most_signatures 0 0 5 (drop 5 xs)))))))
