-- What the field layer hands on.
use Rattle.std.specs.Prelude.{ℕ, ◌+◌, if◌then◌else◌, not, List, length, take, drop, Some, None, Option, Ok, Err, Result, ◌==◌, nat_lt, slice_index}
use Rattle.kinds.specs.Bytes.{word}
use Rattle.sheetfile.specs.declared.fault.Fault.{Fault}
use Rattle.sheetfile.specs.declared.fault.Cause.{Cause}
use Rattle.sheetfile.specs.declared.fault.Cause.TheVariants.{Cut, Tag, Length}
use Rattle.sheetfile.specs.declared.field.Tag.{Tag as FieldTag}
use Rattle.sheetfile.specs.declared.field.Tag.TheVariants.{Head as HeadTag, Signature as SignatureTag, Track as TrackTag}
use Rattle.sheetfile.specs.declared.field.Field.{Field}
use Rattle.sheetfile.specs.declared.field.Field.TheVariants.{Head, Signature, Track}
use Rattle.sheetfile.specs.Card.{fault}
use Rattle.sheetfile.specs.Encoding.{head_tag, signature_tag, track_tag}
use Rattle.sheetfile.specs.Outcomes.{mapped}

-- the tag byte of a field
abbrev pub tag_number : FieldTag → ℕ
tag_number HeadTag = head_tag
tag_number SignatureTag = signature_tag
tag_number TrackTag = track_tag

-- the tag with this byte
abbrev pub tag_of : ℕ → Result FieldTag Cause
tag_of byte =
    if byte == head_tag then Ok HeadTag
    else if byte == signature_tag then Ok SignatureTag
    else if byte == track_tag then Ok TrackTag
    else Err Tag

-- the tag byte and the body of the field that xs begins with, or none where it is cut
abbrev pub whole_field : List ℕ → Option (ℕ × List ℕ)
whole_field xs =
    if nat_lt (length xs) 3 then None
    else if nat_lt (length xs) (3 + word xs 1) then None
    else Some (slice_index xs 0, take (word xs 1) (drop 3 xs))

-- a field without the reference: the bytes of its body, and its place
pub data Part : Type 0 where
  head : List ℕ → ℕ → Part
  signature : List ℕ → ℕ → Part
  track : List ℕ → ℕ → Part

abbrev pub part : Field → Part
part (Head b p) = head b.now p
part (Signature b p) = signature b.now p
part (Track b p) = track b.now p

abbrev pub seen : Result Field Fault → Result Part Fault
seen r = mapped part r

-- the field with this tag and body
abbrev pub tagged : ℕ → List ℕ → ℕ → Result Part Fault
tagged tag body at =
    if tag == head_tag then Ok (head body at)
    else if tag == signature_tag then Ok (signature body at)
    else if tag == track_tag then Ok (track body at)
    else Err (fault Tag at)

-- the field that xs begins with
abbrev pub field_in : ℕ → List ℕ → Result Part Fault
field_in at xs =
    if nat_lt (length xs) 3 then Err (fault Cut at)
    else if nat_lt (length xs) (3 + word xs 1) then Err (fault Cut at)
    else tagged (slice_index xs 0) (take (word xs 1) (drop 3 xs)) at

-- the track field with a body of `due` bytes that xs begins with
abbrev pub track_in : ℕ → ℕ → List ℕ → Result Part Fault
track_in at due xs =
    if nat_lt (length xs) 3 then Err (fault Cut at)
    else if not (slice_index xs 0 == track_tag) then Err (fault Tag at)
    else if not (word xs 1 == due) then Err (fault Length at)
    else if nat_lt (length xs) (3 + due) then Err (fault Cut at)
    else Ok (track (take due (drop 3 xs)) at)
