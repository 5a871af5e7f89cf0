use Rattle.std.proofs.Common.{◌≡◌, map, drop}
use Rattle.spiel_efg.specs.Sets.{are_new, have_own_numbers, key_of}
use Rattle.spiel_efg.proofs.sets.have_own_numbers.Given as goal

-- the rest decides, behind the keys that were seen
abbrev pub invariant-loop-one : goal.invariant-loop-one
invariant-loop-one l = are_new l.seen (map key_of (drop l.one-index l.sets)) ≡ have_own_numbers l.sets
