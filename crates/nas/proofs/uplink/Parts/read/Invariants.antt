use Rattle.std.proofs.Common.{◌≡◌, length}
use Rattle.nas.specs.Uplinks.{walk, nothing}
use Rattle.nas.specs.Views.{parts}
use Rattle.nas.proofs.uplink.Parts.read.Given as goal

abbrev pub invariant-loop-element : goal.invariant-loop-element
invariant-loop-element l = walk 0 (parts l.found) l.reader.rest.now ≡ walk 0 nothing l.rest

abbrev pub decreases-loop-element : goal.decreases-loop-element
decreases-loop-element l = length l.reader.rest.now
