use Rattle.std.proofs.Common.{◌≡◌, length, Ok}
use Rattle.station.specs.Making.{making}
use Rattle.replug.proofs.showing.Showing.show_all.Given as goal

abbrev pub invariant-loop : goal.invariant-loop
invariant-loop g l =
    record {
      plan : l.self.plan ≡ l.initial.self.plan;
      tests : l.self.tests ≡ l.initial.self.tests;
      at_home : length l.home ≡ length l.initial.home;
      far : length l.away ≡ length l.initial.away;
      long : length l.plugged ≡ length l.initial.plugged;
      sockets : length l.plugs ≡ length l.initial.plugs;
      differed : making g.K.Kind.facts.code l.initial.self.plan.now (length l.initial.self.tests.now) (length l.initial.home) ≡ Ok tt → making g.K.Kind.facts.code l.initial.self.plan.now (length l.initial.self.tests.now) (length l.initial.away) ≡ Ok tt → length l.initial.plugged ≡ l.initial.self.plan.now.heads → l.self.tally.differed ≡ l.initial.self.tally.differed;
    }
