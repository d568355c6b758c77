use Rattle.std.proofs.Common.{◌≡◌, ◌%◌, length, vec_items}
use Rattle.std.specs.Slice.Iter.{chunks_exact_rest, chunks_exact_size}
use Rattle.scenario.specs.Octets.{pairs_in}
use Rattle.scenario.proofs.Pairs.{after}
use Rattle.scenario.proofs.octets.parse_pairs.Given as goal

abbrev pub invariant-loop-pair : goal.invariant-loop-pair
invariant-loop-pair l =
    (goal.iterator-loop-pair).can_next l.pair-iterator × (goal.iterator-loop-pair).is_finite l.pair-iterator
    × (chunks_exact_size l.pair-iterator ≡ 2) × (length (chunks_exact_rest l.pair-iterator) % 2 ≡ 0)
    × (after (vec_items l.octets) (pairs_in (chunks_exact_rest l.pair-iterator)) ≡ pairs_in l.word)
