-- Reading a run file: its events in order, up to the first fault or to a field that is not finished.
use Rattle.std.specs.Prelude.{ℕ, zero, suc, ◌+◌, ◌*◌, Bool, cond, List, [], ◌∷◌, length, drop, Some, None, Ok, Err, Option, Result, nat_le}
use Rattle.kinds.specs.Codings.{Coding}
use Rattle.sheetfile.specs.declared.fault.Fault.{Fault}
use Rattle.sheetfile.specs.declared.fault.Cause.TheVariants.{LongRun, Reading}
use Rattle.sheetfile.specs.Card.{fault}
use Rattle.sheetfile.specs.Outcomes.{mapped}
use Rattle.sheetfile.specs.Values.{values_read}
use Rattle.runfile.specs.Fields.{Part, framed, gapped, unfinished, run_field, size}
use Rattle.listing.specs.Events.{Event, frame, gap}

-- frames of a run at most, and gaps at most
abbrev pub most_run : ℕ
most_run = 999999

-- how many frames there are with this event, and how many gaps
abbrev pub frames_with : {R : Type 0} → Event R → ℕ → ℕ
frames_with (frame f) n = suc n
frames_with gap n = n

abbrev pub gaps_with : {R : Type 0} → Event R → ℕ → ℕ
gaps_with (frame f) n = n
gaps_with gap n = suc n

-- what the front of the bytes comes to: it waits for more bytes, it is at fault, or it brings an event of so many bytes
pub data Step (R : Type 0) : Type 0 where
  waits : Step R
  faulty : Fault → Step R
  brings : Event R → ℕ → Step R

-- what was read: the events in order; a fault, if one ended it; and else the bytes of the field that is not finished,
-- which stand at `at`
pub record Scan (R : Type 0) : Type 0 where
  pub events : List (Event R)
  pub fault : Option Fault
  pub at : ℕ
  pub rest : List ℕ

abbrev pub ends : {R : Type 0} → ℕ → List ℕ → Scan R
ends at xs = record { events = []; fault = None; at = at; rest = xs }

abbrev pub fails : {R : Type 0} → Fault → ℕ → Scan R
fails f at = record { events = []; fault = Some f; at = at; rest = [] }

abbrev pub first : {R : Type 0} → Event R → Scan R → Scan R
first e s = record { events = e ∷ s.events; fault = s.fault; at = s.at; rest = s.rest }

-- the bytes by what their front comes to, and what follows an event
abbrev pub on_step : {R : Type 0} → ℕ → List ℕ → (Event R → ℕ → Scan R) → Step R → Scan R
on_step at xs more waits = ends at xs
on_step at xs more (faulty f) = fails f at
on_step at xs more (brings e used) = first e (more e used)

module _ {R : Type 0} (k : Coding R) (N : ℕ) where
  -- the event of a field: a frame has a lawful reading for each head (31)
  abbrev pub event_of : Part → Result (Event R) Fault
  event_of (framed body at) = mapped frame (values_read Reading k N (at + 3) body).end
  event_of (gapped at) = Ok gap

  -- one frame, or one gap, too many
  abbrev pub too_many : ℕ → ℕ → Part → Bool
  too_many frames gaps (framed body at) = nat_le most_run frames
  too_many frames gaps (gapped at) = nat_le most_run gaps

  abbrev pub by_event : ℕ → Result (Event R) Fault → Step R
  by_event n (Ok e) = brings e n
  by_event n (Err f) = faulty f

  -- a field is checked for a run too long (22), and then for its readings
  abbrev pub by_field : ℕ → ℕ → ℕ → Result Part Fault → Step R
  by_field frames gaps at (Ok p) = cond (too_many frames gaps p) (faulty (fault LongRun at)) (by_event (size p) (event_of p))
  by_field frames gaps at (Err f) = faulty f

  -- the front of the bytes, after so many frames and gaps
  abbrev pub step_at : ℕ → ℕ → ℕ → List ℕ → Step R
  step_at frames gaps at xs = cond (unfinished xs) waits (by_field frames gaps at (run_field (N * k.width) at xs))

  -- the events of the bytes, which stand at `at`, after so many frames and gaps: at most n of them
  unfoldable pub scan : ℕ → ℕ → ℕ → ℕ → List ℕ → Scan R
  scan zero frames gaps at xs = ends at xs
  scan (suc n) frames gaps at xs =
      on_step at xs (λ e used. scan n (frames_with e frames) (gaps_with e gaps) (at + used) (drop used xs)) (step_at frames gaps at xs)

  -- a run file from its first byte; each field has some bytes, so there are no more fields than bytes
  abbrev pub scanned : List ℕ → Scan R
  scanned xs = scan (length xs) 0 0 0 xs
