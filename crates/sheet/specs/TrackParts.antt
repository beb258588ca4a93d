-- The part of a store that holds the tests of one track.
use Rattle.std.specs.Prelude.{ℕ, ◌+◌, ◌*◌, ◌&&◌, if◌then◌else◌, List, [], length, Some, None, Option, nat_le, nat_lt, slice_index_or}
use Rattle.sheet.specs.declared.entry.Entry.{Entry}
use Rattle.sheet.specs.Said.{signature_said}

-- the tests of track t of the signature that an entry says; none where there is no such track or the store is too short for the signature
abbrev pub track_of : {T : Type 0} → Entry → ℕ → List T → Option (List T)
track_of e t store =
    if nat_lt t e.tracks && nat_le (e.first + e.tracks * e.frames) (length store) then Some (slice_index_or (signature_said store e).tracks t []) else None
