-- What the bytes of a game string are for.
use Rattle.std.specs.Prelude.{ℕ, ◌==◌, if◌then◌else◌}
use Rattle.spiel_string.specs.Alphabet.{is_lower, is_name_rest, is_word_rest}
use Rattle.spiel_string.specs.declared.scan.Class.{Class}
use Rattle.spiel_string.specs.declared.scan.Class.TheVariants.{Space, Open, Close, Comma, Equals, Lower, NameRest, WordRest, Other}

abbrev pub class : ℕ → Class
class byte =
    if byte == 32 then Space
    else (if byte == 40 then Open
    else (if byte == 41 then Close
    else (if byte == 44 then Comma
    else (if byte == 61 then Equals
    else (if is_lower byte then Lower
    else (if is_name_rest byte then NameRest
    else (if is_word_rest byte then WordRest
    else Other)))))))
