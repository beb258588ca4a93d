use Rattle.std.proofs.Common.{◌≡◌, ℕ, ◌<◌, length}
use Rattle.replug.specs.Orders.{socket}
use Rattle.replug.proofs.order.plugging.inverse.Given as goal

abbrev pub invariant-loop-socket : goal.invariant-loop-socket
invariant-loop-socket l =
    (length l.head-items ≡ length l.to) × ((x : ℕ) → x < l.socket-counter → (socket l.head-items x < length l.to) × (socket l.to (socket l.head-items x) ≡ x))
