-- The customer's worked lines that concern a station, as facts about the definitions that its contracts use.
use Rattle.std.specs.Prelude.{◌≡◌, ℕ, zero, suc, Bool, false, ◌||◌, List, [], ◌∷◌, ◌++◌, take, Some, None, Err, Option, ◌==◌, slice_index_or}
use Rattle.kinds.specs.declared.scale.Interval.{Interval}
use Rattle.kinds.specs.Kinds.{Facts}
use Rattle.kinds.specs.Bands.{band_facts}
use Rattle.kinds.specs.Spans.{span_facts}
use Rattle.matching.specs.Answer.{seen, short, answer}
use Rattle.matching.specs.Fitting.{Fitting}
use Rattle.sheetfile.specs.Limits.{most_frames}
use Rattle.sheetfile.specs.Sheets.{Signature}
use Rattle.runs.specs.Calls.{Call, feed, gap, ran}
use Rattle.runs.specs.Verdicts.{Verdict, young, seen_on, short_of, verdict}
use Rattle.station.specs.Frames.{back}
use Rattle.station.specs.Promises.{feed_answer}
use Rattle.station.specs.Refusals.{by_number, unlawful_at}
use Rattle.bench.specs.Bench.{demo_signature}

-- the run that these calls leave, of a station of this kind on N heads
abbrev pub run_after : {R T : Type 0} → Facts R T → ℕ → List (Call R) → List (List R)
run_after k N calls = ran k.readings.proper N [] calls

-- the verdict after these calls
abbrev pub verdict_after : {R T : Type 0} → Facts R T → ℕ → Signature T → List (Call R) → Verdict
verdict_after k N g calls = verdict k.passes N g (run_after k N calls)

-- the frames that the tail keeps after these calls, newest first
abbrev pub tail_after : {R T : Type 0} → Facts R T → ℕ → List (Call R) → List (List R)
tail_after k N calls = take most_frames (run_after k N calls)

-- the calls of the demo
abbrev pub demo_calls : List (Call ℕ)
demo_calls = feed (0 ∷ 1 ∷ []) ∷ feed (1 ∷ 2 ∷ []) ∷ gap ∷ feed (1 ∷ 0 ∷ []) ∷ feed (2 ∷ 0 ∷ []) ∷ feed (2 ∷ 1 ∷ []) ∷ []

-- the verdict on the demo signature, on two heads, after the first n of them
abbrev pub demo_after : ℕ → Verdict
demo_after n = verdict_after band_facts 2 demo_signature (take n demo_calls)

-- a signature of one track and one frame: 600 to 750
abbrev pub one_span : Signature (Interval ℕ)
one_span = record { name = 1; frames = 1; tracks = (record { low = 600; high = 750 } ∷ []) ∷ [] }

-- feeds of n frames, each with its own number, from 1 on, as its one reading
abbrev pub counted : ℕ → List (Call ℕ)
counted zero = []
counted (suc n) = counted n ++ (feed (suc n ∷ []) ∷ [])

-- the reading of the one head, q frames back, after 70 such frames
abbrev pub seventy_back : ℕ → Option ℕ
seventy_back q = back (tail_after span_facts 1 (counted 70)) q 0

-- the number stands in the list
abbrev pub among : List ℕ → ℕ → Bool
among [] h = false
among (x ∷ xs) h = x == h || among xs h

-- for each track in order, the list of the heads that fit it
abbrev pub fit_by : List (List ℕ) → Fitting
fit_by heads t h = among (slice_index_or heads t []) h

pub record StationLines : Type 0 where
  -- the demo: seen after frames 2 and 4, across a gap; after frame 5 short, set 1
  pub demo_first : demo_after 1 ≡ young
  pub demo_second : demo_after 2 ≡ seen_on (1 ∷ 0 ∷ [])
  pub demo_gap : demo_after 3 ≡ young
  pub demo_third : demo_after 4 ≡ young
  pub demo_fourth : demo_after 5 ≡ seen_on (0 ∷ 1 ∷ [])
  pub demo_fifth : demo_after 6 ≡ short_of 1
  -- one head, one track, one frame: young, then seen after one frame that passes
  pub one_young : verdict_after span_facts 1 one_span [] ≡ young
  pub one_seen : verdict_after span_facts 1 one_span (feed (600 ∷ []) ∷ []) ≡ seen_on (0 ∷ [])
  -- track 0 fits heads 0 and 1, track 1 only 0: seen on 1, 0
  pub change_places : answer (fit_by ((0 ∷ 1 ∷ []) ∷ (0 ∷ []) ∷ [])) 2 2 ≡ seen (1 ∷ 0 ∷ [])
  -- track 0 fits heads 0 to 2, tracks 1 and 2 only 0: short, the set of tracks 1 and 2
  pub want_one_head : answer (fit_by ((0 ∷ 1 ∷ 2 ∷ []) ∷ (0 ∷ []) ∷ (0 ∷ []) ∷ [])) 3 3 ≡ short 6
  -- after 70 frames: the newest is frame 70, look-back 63 gives frame 7, look-back 64 is absent
  pub back_0 : seventy_back 0 ≡ Some 70
  pub back_63 : seventy_back 63 ≡ Some 7
  pub back_64 : seventy_back 64 ≡ None
  -- two heads: a frame of one reading is 30; of bands 16 and 16, 31 at head 0
  pub frame_30 : feed_answer band_facts.readings.proper 2 (0 ∷ []) ≡ Err (by_number 30)
  pub reading_31 : feed_answer band_facts.readings.proper 2 (16 ∷ 16 ∷ []) ≡ Err (unlawful_at 0)
