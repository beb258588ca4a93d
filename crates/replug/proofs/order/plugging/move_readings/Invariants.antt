use Rattle.std.proofs.Common.{◌≡◌, ℕ, ◌<◌}
use Rattle.std.specs.List.{slice_get}
use Rattle.replug.specs.Orders.{socket}
use Rattle.replug.proofs.order.plugging.move_readings.Given as goal

abbrev pub invariant-loop-socket : goal.invariant-loop-socket
invariant-loop-socket g l = (x : ℕ) → x < l.socket → slice_get l.plugged x ≡ slice_get l.frame (socket l.from x)
