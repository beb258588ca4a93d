-- The lines of a listing, and their bytes.
use Rattle.std.specs.Prelude.{ℕ, List, [], ◌∷◌, ◌++◌, codes, decimal}
use Rattle.std.specs.List.{flat_map}
pub use Rattle.sheetfile.specs.Texts.{spaced, fault_line}

-- a report: at this frame the signature of this name is seen, on these heads in the order of its tracks
pub record Report : Type 0 where
  pub frame : ℕ
  pub name : ℕ
  pub heads : List ℕ

-- each head in decimal, one after another; heads are below 8, so each has one figure
abbrev pub figures : List ℕ → List ℕ
figures hs = flat_map decimal hs

-- frame, blank, name, blank, heads, newline
abbrev pub report_line : Report → List ℕ
report_line r = decimal r.frame ++ (spaced r.name ++ ((32 ∷ figures r.heads) ++ (10 ∷ [])))

-- the lines of reports, one after another
abbrev pub report_lines : List Report → List ℕ
report_lines [] = []
report_lines (r ∷ rs) = report_line r ++ report_lines rs

-- `end`, blank, frames, blank, gaps, newline
abbrev pub end_line : ℕ → ℕ → List ℕ
end_line frames gaps = codes "end" ++ (spaced frames ++ (spaced gaps ++ (10 ∷ [])))
