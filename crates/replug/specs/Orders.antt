-- Plug orders as lists: place h has the socket into which head h goes.
use Rattle.std.specs.Prelude.{◌≡◌, ℕ, ◌<◌, Bool, true, false, ◌&&◌, List, length, ◌==◌, ◌≢◌, Result, is_ok, ⊤, slice_index}
use Rattle.runs.specs.Plugs.{Moved}
use Rattle.replug.specs.declared.order.Order.{Order}

-- the socket of head h
abbrev pub socket : List ℕ → ℕ → ℕ
socket to h = slice_index to h

-- `from` has for each socket a head that goes into it
abbrev pub Inverts : List ℕ → List ℕ → Type 0
Inverts to from = (x : ℕ) → x < length to → (socket from x < length to) × (socket to (socket from x) ≡ x)

-- no head goes into some socket
abbrev pub SomeFree : List ℕ → Type 0
SomeFree to = (x : ℕ) × (x < length to) × ((h : ℕ) → h < length to → socket to h ≢ x)

-- the flag says whether each head goes into a socket for which `from` has just that head
pub record TakenBack (to from : List ℕ) (whole : Bool) : Type 0 where
  pub each : whole ≡ true → (h : ℕ) → h < length to → (socket to h < length to) × (socket from (socket to h) ≡ h)
  pub other : whole ≡ false → (h : ℕ) × (h < length to) × (socket to h < length to → socket from (socket to h) ≢ h)

-- what moving a frame by an order does: it is done where frame and place are as long as the line has heads,
-- and else nothing is written
pub record Plugged {R E : Type 0} (o : Order) (frame old : List R) (done : Result ⊤ E) (new : List R) : Type 0 where
  pub answer : is_ok done ≡ (length frame == o.heads && length old == o.heads)
  pub moved : is_ok done ≡ true → Moved o.heads (socket o.to) frame new
  pub same : is_ok done ≡ false → new ≡ old
