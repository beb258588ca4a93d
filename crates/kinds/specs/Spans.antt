-- The span kind: a reading is moisture in hundredths of a percent, a test is an interval of it.
use Rattle.std.specs.Prelude.{ℕ, ◌/◌, ◌%◌, List, ◌++◌, nat_le, codes, decimal}
use Rattle.kinds.specs.declared.scale.Interval.{Interval}
use Rattle.kinds.specs.Bytes.{pair, word}
use Rattle.kinds.specs.Codings.{Coding, fixed}
use Rattle.kinds.specs.Kinds.{Facts}
use Rattle.kinds.specs.Scales.{Scaled, lawful, sound, within, interval_bytes, interval_at}

-- 100.00 percent
abbrev pub most_moisture : ℕ
most_moisture = 10000

-- as `6.05 %`
abbrev pub percent_text : ℕ → List ℕ
percent_text n = decimal (n / 100) ++ (codes "." ++ (decimal (n / 10 % 10) ++ (decimal (n % 10) ++ codes " %")))

-- moistures, from 0
abbrev pub moistures : Scaled ℕ
moistures = record { name = codes "moisture"; figures = percent_text; le = nat_le; least = 0; most = most_moisture; bits = λ n. n; value = λ w. w }

abbrev pub span_tests : Coding (Interval ℕ)
span_tests = fixed 4 (sound moistures) (interval_bytes moistures) (λ bs. interval_at moistures bs 0)

abbrev pub span_readings : Coding ℕ
span_readings = fixed 2 (lawful moistures) pair (λ bs. word bs 0)

abbrev pub span_facts : Facts ℕ (Interval ℕ)
span_facts = record { code = 2; tests = span_tests; readings = span_readings; passes = within moistures }
