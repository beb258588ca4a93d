-- Which signature is due for judging: that of a position, where the run is as long as the signature.
use Rattle.std.specs.Prelude.{◌≡◌, ℕ, ◌<◌, ◌≤◌, List, Ok, Err, Result, Some, None, Option}
use Rattle.std.specs.List.{slice_get}
use Rattle.sheet.specs.declared.entry.Entry.{Entry}
use Rattle.station.specs.Refusals.{Told, by_number}

-- the answer: 32 for no such position, the entry there, or none where the run is younger
abbrev pub Due : List Entry → ℕ → ℕ → Result (Option Entry) Told → Type 0
Due entries run p (Ok (Some e)) = (slice_get entries p ≡ Some e) × (e.frames ≤ run)
Due entries run p (Ok None) = (e : Entry) × (slice_get entries p ≡ Some e) × (run < e.frames)
Due entries run p (Err refusal) = (slice_get entries p ≡ None) × (refusal ≡ by_number 32)
