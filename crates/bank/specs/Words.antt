-- The words of rows: of a track, of a signature, and of a bank.
use Rattle.std.specs.Prelude.{ℕ, [], slice_index_or}
use Rattle.rows.specs.declared.Row.{Row}
use Rattle.bank.specs.declared.track_rows.TrackRows.{TrackRows}
use Rattle.bank.specs.declared.signature_rows.SignatureRows.{SignatureRows}
use Rattle.bank.specs.declared.Bank.{Bank}

-- a row with no match begun, and a track and a signature with no rows
abbrev pub blank : Row
blank = record { word = 0 }

abbrev pub no_heads : TrackRows
no_heads = record { heads = [] }

abbrev pub no_tracks : SignatureRows
no_tracks = record { tracks = [] }

-- the word of head h in the rows of a track; 0 past the end
abbrev pub word_in : TrackRows → ℕ → ℕ
word_in rows h = (slice_index_or rows.heads h blank).word

-- the word of track t and head h in the rows of a signature; 0 where there is none
abbrev pub word_of : SignatureRows → ℕ → ℕ → ℕ
word_of rows t h = word_in (slice_index_or rows.tracks t no_heads) h

-- the word of the signature in position p, of track t and head h in a bank; 0 where there is none
abbrev pub word_at : Bank → ℕ → ℕ → ℕ → ℕ
word_at bank p t h = word_of (slice_index_or bank.signatures p no_tracks) t h
