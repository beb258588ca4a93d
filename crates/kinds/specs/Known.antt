-- Which kind a sheet file is read as.
use Rattle.std.specs.Prelude.{ℕ, cond, List, length, ◌==◌, nat_lt, slice_index, codes}
use Rattle.kinds.specs.declared.known.KnownKind.{KnownKind}
use Rattle.kinds.specs.declared.known.KnownKind.TheVariants.{Band, Span, Climate}

-- the kind with this code, or band
abbrev pub of_code : ℕ → KnownKind
of_code code = cond (code == 2) Span (cond (code == 3) Climate Band)

-- by the fourth byte; under four bytes, band
abbrev pub picked : List ℕ → KnownKind
picked bs = cond (nat_lt (length bs) 4) Band (of_code (slice_index bs 3))

abbrev pub kind_text : KnownKind → List ℕ
kind_text Band = codes "band"
kind_text Span = codes "span"
kind_text Climate = codes "climate"
