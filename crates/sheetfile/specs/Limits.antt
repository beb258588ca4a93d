-- The limits of a sheet, each named once.
use Rattle.std.specs.Prelude.{ℕ, Bool, ◌&&◌, nat_le}

-- heads of a line
abbrev pub most_heads : ℕ
most_heads = 8

-- signatures of a sheet
abbrev pub most_signatures : ℕ
most_signatures = 12

-- frames of a signature
abbrev pub least_frames : ℕ
least_frames = 1

abbrev pub most_frames : ℕ
most_frames = 64

-- names are below this: they have 16 bits
abbrev pub names : ℕ
names = 65536

-- n is low to high, both ends within
abbrev pub within : ℕ → ℕ → ℕ → Bool
within low high n = nat_le low n && nat_le n high
