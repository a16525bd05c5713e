use Rattle.std.proofs.Common.{◌≡◌, [], map}
use Rattle.contexts.specs.Contexts.{runs_of}
use Rattle.reading.specs.Reading.{stray}
use Rattle.reading.specs.Seen.{AllSet}
use Rattle.reading.specs.Stands.{dot_in}
use Rattle.reading.proofs.Dots.{seen, from}
use Rattle.reading.proofs.reader.dots.first_stray.Given as goal

abbrev pub invariant-loop-i : goal.invariant-loop-i
invariant-loop-i l = record {
  none_before : from (runs_of l.context) l.entries l.i ≡ stray (runs_of l.context) [] 0 (map dot_in l.entries);
  all_set : AllSet l.seen.bits (seen (runs_of l.context) l.entries l.i);
}
