-- A walk that stops early.
use Rattle.std.proofs.Common.{◌≡◌, ℕ, ◌+◌, ◌≤◌, List, length, Option, Err, arith}
use Rattle.spiel_tree.specs.Rows.{Row}
use Rattle.spiel_tree.specs.Flat.{rows_of}
use Rattle.spiel_tree.specs.Walked.{AddsAll, TakesAll}
use Rattle.spiel_tree.specs.declared.flat.Rows.{Rows}
use Rattle.spiel_tree.specs.declared.walking.Stop.{Stop}
use Rattle.spiel_tree.specs.declared.walking.Stop.TheVariants.{TooMany, Long, NoMemory}

-- a child that passes the limit shows that all pass it
pub child_stops : (e : Stop) (rows child : List Row) (old before new : Rows) (limit : ℕ) (long : Option ℕ) → length (rows_of before) + length child ≤ length (rows_of old) + length rows
    → AddsAll (Err e) before new child limit long → AddsAll (Err e) old new rows limit long
child_stops TooMany rows child old before new limit long l a = omega arith
child_stops Long rows child old before new limit long l a = a
child_stops NoMemory rows child old before new limit long l a = tt

-- the same where histories are counted, of which so many were taken before the child's
pub taking_stops : (e : Stop) (old before new taken child all : ℕ) → old ≡ before + taken → taken + child ≤ all → TakesAll (Err e) before new child → TakesAll (Err e) old new all
taking_stops TooMany old before new taken child all is l stops = omega arith
taking_stops Long old before new taken child all is l stops = stops
taking_stops NoMemory old before new taken child all is l stops = tt
