-- The one file of a sheet, field by field.
use Rattle.std.specs.Prelude.{ℕ, List, [], ◌∷◌, ◌++◌, length}
use Rattle.std.specs.List.{flat_map}
use Rattle.kinds.specs.Bytes.{pair}
use Rattle.kinds.specs.Codings.{Coding}
use Rattle.sheetfile.specs.Sheets.{Signature, Sheet}

abbrev pub head_tag : ℕ
head_tag = 1

abbrev pub signature_tag : ℕ
signature_tag = 2

abbrev pub track_tag : ℕ
track_tag = 3

-- a field: a tag, the body's length in two bytes, the body
abbrev pub field : ℕ → List ℕ → List ℕ
field tag body = tag ∷ (pair (length body) ++ body)

-- a track: its tests, one after another
unfoldable pub track_bytes : {T : Type 0} → Coding T → List T → List ℕ
track_bytes k ts = field track_tag (flat_map k.bytes ts)

-- a signature's body: name, number of tracks, number of frames, tracks
unfoldable pub signature_body : {T : Type 0} → Coding T → Signature T → List ℕ
signature_body k s = pair s.name ++ (length s.tracks ∷ s.frames ∷ flat_map (track_bytes k) s.tracks)

unfoldable pub signature_bytes : {T : Type 0} → Coding T → Signature T → List ℕ
signature_bytes k s = field signature_tag (signature_body k s)

-- a sheet: the head field with kind code and number of heads, then the signatures
unfoldable pub encode : {T : Type 0} → Coding T → Sheet T → List ℕ
encode k s = field head_tag (s.code ∷ s.heads ∷ []) ++ flat_map (signature_bytes k) s.signatures
