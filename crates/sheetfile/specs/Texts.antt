-- A fault as text: in words, and in figures.
use Rattle.std.specs.Prelude.{ℕ, List, [], ◌∷◌, ◌++◌, codes, decimal}
use Rattle.sheetfile.specs.declared.fault.Cause.{Cause}
use Rattle.sheetfile.specs.declared.fault.Cause.TheVariants.{Cut, Tag, Length, Kind, Heads, Tracks, Frames, Test, Thirteenth, Bare, Name, Store, LongRun, Reading}
use Rattle.sheetfile.specs.Card.{Told}

-- what is wrong, in words that the place can follow
abbrev pub cause_text : Cause → List ℕ
cause_text Cut = codes "cut: a field has under 3 bytes, or its body goes past the end; the field starts"
cause_text Tag = codes "tag: not the tag that is due; it stands"
cause_text Length = codes "length: not the length that is due; the field starts"
cause_text Kind = codes "kind: the code of another kind; it stands"
cause_text Heads = codes "heads: the number of heads is not 1 to 8; it stands"
cause_text Tracks = codes "tracks: the number of tracks is not 1 to that of heads; it stands"
cause_text Frames = codes "frames: the length in frames is not 1 to 64; it stands"
cause_text Test = codes "test: no sound test; it begins"
cause_text Thirteenth = codes "thirteenth: a sheet has at most 12 signatures; the next one starts"
cause_text Bare = codes "bare: the sheet has no signature; it ends"
cause_text Name = codes "name: not above the name before it; it stands"
cause_text Store = codes "store: the sheet has more tests than the store holds; the signature starts"
cause_text LongRun = codes "long run: frame or gap 1,000,000; the field starts"
cause_text Reading = codes "reading: an unlawful reading; it begins"

-- a blank, and a number in decimal
abbrev pub spaced : ℕ → List ℕ
spaced n = 32 ∷ decimal n

-- `fault`, blank, number, blank, layer, blank, place
abbrev pub fault_text : Told → List ℕ
fault_text t = codes "fault" ++ (spaced t.number ++ (spaced t.layer ++ spaced t.place))

-- the same, and a newline
abbrev pub fault_line : Told → List ℕ
fault_line t = fault_text t ++ (10 ∷ [])
