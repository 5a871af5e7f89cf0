use Rattle.std.proofs.Common.{◌≡◌, ◌∙◌, ap, ℕ, List}
use Rattle.std.specs.Prelude.{insert}
use Rattle.std.specs.List.{position_or_len}
use Rattle.spiel_string.specs.Sorted.{key_lt}
use Rattle.spiel_string.proofs.Insertion.{insert_pair-position}
use Rattle.spiel_string.proofs.pairs.insert_pair.Goals as goal

pub returns : goal.returns
returns g c =
    let here : c.place_of-place.result ≡ position_or_len (λ (q : List ℕ × g.row.V.Denot). key_lt c.args.key q.0) c.args.pairs.now.items =
    c.place_of-place.ensures.place ∙ ap (λ k. position_or_len (λ (q : List ℕ × g.row.V.Denot). key_lt k q.0) c.deref.result.now) c.bytes.ensures
    ∙ ap (position_or_len (λ (q : List ℕ × g.row.V.Denot). key_lt c.args.key q.0)) c.deref.ensures.value in
    c.in_ok-insert.ensures.items ∙ ap (λ i. insert c.args.pairs.now.items i (c.args.key, c.args.value)) here ∙ insert_pair-position (c.args.key, c.args.value) c.args.pairs.now.items
