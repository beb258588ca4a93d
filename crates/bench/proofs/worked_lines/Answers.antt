use Rattle.std.proofs.Common.{refl}
use Rattle.sheetfile.specs.Reading.{rule, signatures_read, tracks_read}
use Rattle.sheetfile.specs.Values.{values_read}
use Rattle.sheetfile.specs.Encoding.{encode, signature_bytes, signature_body, track_bytes}
use Rattle.matching.specs.Answer.{answer}
use Rattle.runs.specs.Verdicts.{verdict}
use Rattle.bench.specs.Bench.{WorkedLines}
use Rattle.bench.specs.StationLines.{StationLines}
use Rattle.bench.proofs.worked_lines.Goals as goal

sheet_lines : WorkedLines
unfolding rule signatures_read tracks_read values_read encode signature_bytes signature_body track_bytes
sheet_lines =
    record {
      reads_301 = refl;
      empty_sheet = refl;
      no_signature = refl;
      nine_heads = refl;
      reads_64 = refl;
      longer_is_16 = refl;
      passes_600 = refl;
      passes_750 = refl;
      stops_599 = refl;
      stops_751 = refl;
      no_test = refl;
      swapped_is_17 = refl;
      coldest_reads = refl;
      lawful_400 = refl;
      unlawful_401 = refl;
    }

station_lines : StationLines
unfolding verdict answer
station_lines =
    record {
      demo_first = refl;
      demo_second = refl;
      demo_gap = refl;
      demo_third = refl;
      demo_fourth = refl;
      demo_fifth = refl;
      one_young = refl;
      one_seen = refl;
      change_places = refl;
      want_one_head = refl;
      back_0 = refl;
      back_63 = refl;
      back_64 = refl;
      frame_30 = refl;
      reading_31 = refl;
    }

pub returns : goal.returns
returns c = record { sheets = sheet_lines; stations = station_lines }
