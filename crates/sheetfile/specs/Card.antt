-- The fault card of a file: the number and the layer of each fault.
use Rattle.std.specs.Prelude.{ℕ}
use Rattle.sheetfile.specs.declared.fault.Cause.{Cause}
use Rattle.sheetfile.specs.declared.fault.Cause.TheVariants.{Cut, Tag, Length, Kind, Heads, Tracks, Frames, Test, Thirteenth, Bare, Name, Store, LongRun, Reading}
use Rattle.sheetfile.specs.declared.fault.Layer.{Layer}
use Rattle.sheetfile.specs.declared.fault.Layer.TheVariants.{Bytes, Fields, Sheet}
use Rattle.sheetfile.specs.declared.fault.Fault.{Fault}

abbrev pub number : Cause → ℕ
number Cut = 10
number Tag = 11
number Length = 12
number Kind = 13
number Heads = 14
number Tracks = 15
number Frames = 16
number Test = 17
number Thirteenth = 18
number Bare = 19
number Name = 20
number Store = 21
number LongRun = 22
number Reading = 31

-- 1 bytes, 2 fields, 3 sheet
abbrev pub layer_number : Layer → ℕ
layer_number Bytes = 1
layer_number Fields = 2
layer_number Sheet = 3

abbrev pub layer : Cause → ℕ
layer Cut = 1
layer Tag = 2
layer Length = 2
layer Kind = 3
layer Heads = 3
layer Tracks = 3
layer Frames = 3
layer Test = 2
layer Thirteenth = 3
layer Bare = 3
layer Name = 3
layer Store = 3
layer LongRun = 3
layer Reading = 3

-- a fault in figures: its number, its place in the file from 0, its layer
pub record Told : Type 0 where
  pub number : ℕ
  pub place : ℕ
  pub layer : ℕ

abbrev pub told : Fault → Told
told f = record { number = number f.cause; place = f.place; layer = layer f.cause }

-- the fault of this cause at this place
abbrev pub fault : Cause → ℕ → Fault
fault cause place = record { cause = cause; place = place }
