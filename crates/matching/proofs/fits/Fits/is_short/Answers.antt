use Rattle.std.proofs.Common.{ltb, ap, ap₂, ◌∙◌}
use mathlib.Core.Path.{fun_ext}
use Rattle.matching.specs.Count.{count}
use Rattle.matching.proofs.fits.Fits.is_short.Goals as goal

pub returns : goal.returns
returns c = ap₂ ltb (c.len.ensures ∙ ap (λ p. count p 8) (fun_ext c.heads_for.ensures)) c.len-2.ensures
