use Rattle.std.proofs.Common.{◌≡◌, ◌-◌}
use Rattle.matching.proofs.Onward.{Trying}
use Rattle.matching.proofs.placing.search.Search.+place.Given as goal

abbrev pub decreases-place : goal.decreases-place
decreases-place l = l.self.now.fits.now.tracks - l.track

abbrev pub invariant-loop-head : goal.invariant-loop-head
invariant-loop-head l =
    record { same_fits : l.self.fits ≡ l.initial.self.fits; trying : Trying l.initial.self.fits.now l.track l.free.number l.head-iterator.left }
