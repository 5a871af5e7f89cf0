-- What was found so far, at a state.
use Rattle.std.specs.Prelude.{ℕ, suc, max, List, [], ◌∷◌, ◌++◌}
use Rattle.spiel_string.specs.Alphabet.{spaces}
use Rattle.spiel_string.specs.Nesting.{nesting}
use Rattle.spiel_string.specs.Repeats.{again, second_keys}
use Rattle.spiel_string.specs.Grammar.{Head, call, past_key, spell_head, spell}
use Rattle.spiel_string.specs.Partial.{Finished, no_entry, with_entry, shown_finished, Context, outermost, within, State, start, outer, open_at, key_at, value_due, value_at, done}

abbrev pub finished_nesting : Finished → ℕ
finished_nesting no_entry = 0
finished_nesting (with_entry finished head value) = max (finished_nesting finished) (nesting value)

-- how deep brackets nest, where those inside the open one nest so deep
abbrev pub deep_in : Context → ℕ → ℕ
deep_in (outermost lead name before) inside = suc inside
deep_in (within context finished head name before) inside = deep_in context (max (finished_nesting finished) (suc inside))

abbrev pub deepest_of : State → ℕ
deepest_of (start lead) = 0
deepest_of (outer lead name after) = 0
deepest_of (open_at context finished lead) = deep_in context (finished_nesting finished)
deepest_of (key_at context finished lead key after) = deep_in context (finished_nesting finished)
deepest_of (value_due context finished head) = deep_in context (finished_nesting finished)
deepest_of (value_at context finished head value) = deep_in context (max (finished_nesting finished) (nesting value))
deepest_of (done lead name before brackets after) = nesting (call name before brackets after)

-- the keys, the newest first
abbrev pub keys_of : Finished → List (List ℕ)
keys_of no_entry = []
keys_of (with_entry finished head value) = head.key ∷ keys_of finished

-- the second keys among finished parameters, where the rest follows
abbrev pub seconds_finished : Finished → List ℕ → List (List ℕ)
seconds_finished no_entry rest = []
seconds_finished (with_entry finished head value) rest =
    (seconds_finished finished (spell_head head (spell value (44 ∷ rest))) ++ again (keys_of finished) head.key (past_key head (spell value (44 ∷ rest))))
    ++ second_keys value (44 ∷ rest)

-- those before an open bracket
abbrev pub seconds_in : Context → List ℕ → List (List ℕ)
seconds_in (outermost lead name before) rest = []
seconds_in (within context finished head name before) rest =
    (seconds_in context (shown_finished finished (spell_head head (name ++ spaces before (40 ∷ rest)))) ++ seconds_finished finished (spell_head head (name ++ spaces before (40 ∷ rest))))
    ++ again (keys_of finished) head.key (past_key head (name ++ spaces before (40 ∷ rest)))

-- those before what follows finished parameters
abbrev pub seconds_before : Context → Finished → List ℕ → List (List ℕ)
seconds_before context finished rest = seconds_in context (shown_finished finished rest) ++ seconds_finished finished rest

-- those up to the key of a head, with that key
abbrev pub seconds_with : Context → Finished → Head → List ℕ → List (List ℕ)
seconds_with context finished head rest = seconds_before context finished (spell_head head rest) ++ again (keys_of finished) head.key (past_key head rest)

-- those in what was read, where the rest follows
abbrev pub seconds_of : State → List ℕ → List (List ℕ)
seconds_of (start lead) rest = []
seconds_of (outer lead name after) rest = []
seconds_of (open_at context finished lead) rest = seconds_before context finished (spaces lead rest)
seconds_of (key_at context finished lead key after) rest = seconds_before context finished (spaces lead (key ++ spaces after rest))
seconds_of (value_due context finished head) rest = seconds_with context finished head rest
seconds_of (value_at context finished head value) rest = seconds_with context finished head (spell value rest) ++ second_keys value rest
seconds_of (done lead name before brackets after) rest = second_keys (call name before brackets after) rest
