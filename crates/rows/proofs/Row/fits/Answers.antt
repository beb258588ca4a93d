use Rattle.std.proofs.Common.{◌∙◌}
use Rattle.rows.proofs.Bits.{bit_read}
use Rattle.rows.proofs.Telling.{tells_whole}
use Rattle.rows.proofs.Row.fits.Goals as goal

pub returns : goal.returns
returns g c tests history some few same told =
    bit_read _ _ ∙ tells_whole g.K.Kind.facts.passes tests history _ c.args.frames some same told
