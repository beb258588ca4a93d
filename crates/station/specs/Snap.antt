-- The snapshot of a station.
use Rattle.station.specs.declared.station.Station.{Station}
use Rattle.station.specs.States.{State}

abbrev pub snap : {K R T : Type 0} → Station K R T → State T R
snap w =
    record {
      heads = w.tail.heads;
      entries = w.entries.now;
      tests = w.tests.now;
      slots = w.tail.readings.slots.now;
      capacity = w.tail.readings.capacity;
      next = w.tail.readings.next;
      count = w.tail.readings.count;
      bank = w.bank;
      run = w.tail.run;
    }
