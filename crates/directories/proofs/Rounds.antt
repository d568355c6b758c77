-- The next in turn, by the lowest above the last one and the lowest of all.
use Rattle.std.proofs.Common.{◌≡◌, ℕ, ◌<◌, Bool, false, List, Some, None, Option, MatchOption, sym, subst, arith, ◌≢◌}
use Rattle.std.proofs.lemmas.Bool.{cases_eq}
use Rattle.std.specs.List.{AllPass}
use Rattle.directories.specs.declared.served_set.ServedSet.{ServedSet}
use Rattle.directories.specs.SetLaws.{sets_lawful}
use Rattle.directories.specs.Sets.{good_set, sets_serve}
use Rattle.directories.specs.Turnings.{TwoServe}
use Rattle.directories.specs.Turns.{takes_next, Lowest, Next, InTurn}
use Rattle.directories.proofs.Names.{served_named}

next_above : (serves : ℕ → Bool) (last r : ℕ) → Lowest serves last (Some r) → InTurn serves last r
next_above serves last r w = record { serving = w.0; above = λ l k t h. w.2 k h t; round = λ l. absurd (omega (arith, w.1)) }

next_round : (serves : ℕ → Bool) (last : ℕ) (r : Option ℕ) → serves 0 ≡ false → Lowest serves last None → Lowest serves 0 r → Next serves last r
next_round serves last None z none w = λ m. grind (arith, z, w m, cases_eq m 0)
next_round serves last (Some r) z none w =
    record {
      serving = w.0;
      above = λ l k t h. grind (arith, t, none k h);
      round = λ l k t. (grind (arith, t, none k), grind (arith, z, t, w.2 k, cases_eq k 0));
    }

-- the next is the lowest above the last one if there is one, and else the lowest of all
pub next_by : (sets : List ServedSet) (s n last : ℕ) (above next : Option ℕ) → AllPass good_set sets → Lowest (sets_serve sets s n) last above → MatchOption above (Lowest (sets_serve sets s n) 0 next) (λ r. next ≡ Some r) → Next (sets_serve sets s n) last next
next_by sets s n last None next good none w = next_round (sets_serve sets s n) last next ((sets_lawful sets last good).identified s n) none w
next_by sets s n last (Some r) next good w e = subst (Next (sets_serve sets s n) last) (sym e) (next_above (sets_serve sets s n) last r w)

-- whose turn it is serves a DNN that has a number, and has an ID above 0
pub named_by : (sets : List ServedSet) (s n last m : ℕ) → AllPass good_set sets → InTurn (sets_serve sets s n) last m → (0 < n) × (0 < m)
named_by sets s n last m good t = served_named (sets_serve sets) (takes_next sets last) (sets_lawful sets last good) s n m t.serving

-- where two serve, it is not the last one's turn
pub differs_by : (serves : ℕ → Bool) (last m : ℕ) → Next serves last (Some m) → TwoServe serves → m ≢ last
differs_by serves last m t w e = grind (arith, e, t.round, w.0, w.1.0)
