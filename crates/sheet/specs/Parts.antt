-- The part of a store that holds a signature's tests.
use Rattle.std.specs.Prelude.{◌+◌, ◌*◌, if◌then◌else◌, List, length, take, drop, Some, None, Option, nat_le}
use Rattle.sheet.specs.declared.entry.Entry.{Entry}

abbrev pub part_of : {T : Type 0} → Entry → List T → Option (List T)
part_of e store =
    if nat_le (e.first + e.tracks * e.frames) (length store) then Some (take (e.tracks * e.frames) (drop e.first store)) else None
