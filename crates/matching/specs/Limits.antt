-- How many tracks and heads a table can have.
use Rattle.std.specs.Prelude.{ℕ}

abbrev pub most_tracks : ℕ
most_tracks = 8

abbrev pub most_heads : ℕ
most_heads = 8

-- The members of a set of tracks, or of heads, are below this.
abbrev pub most_members : ℕ
most_members = 8
