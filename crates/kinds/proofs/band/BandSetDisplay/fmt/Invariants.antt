use Rattle.std.proofs.Common.{◌≡◌}
use Rattle.std.specs.Fmt.{HasWritten, IsPlainFormatter}
use Rattle.kinds.specs.Bands.{none_below, bands_text}
use Rattle.kinds.proofs.band.BandSetDisplay.fmt.Given as goal

abbrev pub invariant-loop-band : goal.invariant-loop-band
invariant-loop-band g l =
    (l.first ≡ none_below l.self l.band-counter) × (IsPlainFormatter l.initial.f → HasWritten g.W.Write.write_str_gives l.initial.f (bands_text l.self l.band-counter) l.f)
