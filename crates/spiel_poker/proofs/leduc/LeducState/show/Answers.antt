use Rattle.std.proofs.Common.{◌≡◌, ℕ, [], ◌∷◌, ◌++◌, ◌+◌, ◌<◌, ◌≤◌, List, length, get_or, arith, ap, ◌∙◌, subst, sym, refl}
use Rattle.std.proofs.lemmas.List.{length-take-le}
use Rattle.spiel_poker.specs.declared.leduc.Round.{Round}
use Rattle.spiel_poker.specs.declared.leduc.Round.TheVariants.{Second}
use Rattle.spiel_poker.specs.Betting.{Opening}
use Rattle.spiel_api.proofs.PlayLemmas.{IsPlay-next}
use Rattle.spiel_poker.specs.Leduc.{leduc_rules, parts, opening_of}
use Rattle.spiel_poker.specs.LeducState.{round_number, HasCards, ShowsParts, front}
use Rattle.spiel_poker.specs.Table.{IsTable}
use Rattle.spiel_poker.proofs.Steps.{shows_more, shows_card, shows_last_card, shows_word, shows_public, first_round, first_size, second_size, nobody_folded, second_owed, speaks}
use Rattle.spiel_poker.proofs.leduc.LeducState.show.Goals as goal

-- the player whose turn it is says a word
pub after-self-requires-clause-speaks : goal.after-self-requires-clause-speaks
after-self-requires-clause-speaks c =
    let now = c.args.self.now in
    let s = front c.args.count now in
    let a = get_or c.items.result.now c.args.count 0 in
    let same : a ≡ get_or now.history c.args.count 0 = ap (λ (xs : List ℕ). get_or xs c.args.count 0) c.items.ensures in
    let next = IsPlay-next leduc_rules now.history c.args.count a c.requires.play c.requires.more same in
    let round = c.requires.shown.shows.round ∙ ap round_number c.in-First.is in
    speaks s a 0 c.requires.shown next round (omega arith)

pub after-self-requires-in-Second-clause-speaks : goal.after-self-requires-in-Second-clause-speaks
after-self-requires-in-Second-clause-speaks c =
    let now = c.args.self.now in
    let s = front c.args.count now in
    let a = get_or c.items.result.now c.args.count 0 in
    let same : a ≡ get_or now.history c.args.count 0 = ap (λ (xs : List ℕ). get_or xs c.args.count 0) c.items.ensures in
    let next = IsPlay-next leduc_rules now.history c.args.count a c.requires.play c.requires.more same in
    let round = c.requires.shown.shows.round ∙ ap round_number c.in-Second.is in
    speaks s a 1 c.requires.shown next round (second_owed s a c.requires.shown next round)

-- the second card
pub returns-then-count-eq1-clause-shown : goal.returns-then-count-eq1-clause-shown
returns-then-count-eq1-clause-shown c =
    let now = c.args.self.now in
    let s = front c.args.count now in
    let a = get_or c.items.result.now c.args.count 0 in
    let same : a ≡ get_or now.history c.args.count 0 = ap (λ (xs : List ℕ). get_or xs c.args.count 0) c.items.ensures in
    let long : length s.history ≡ c.args.count = length-take-le c.args.count now.history (omega (arith, c.requires.more)) in
    shows_more now _ c.args.count a c.requires.play c.requires.more same refl
    (shows_last_card s.round s.public s.public_at s.table s.history a (long ∙ c.if-count-eq1.true) c.requires.shown.shows)
    (omega (arith, c.if-count-eq1.true))

-- the first card
pub returns-else-count-eq1-clause-shown : goal.returns-else-count-eq1-clause-shown
returns-else-count-eq1-clause-shown c =
    let now = c.args.self.now in
    let s = front c.args.count now in
    let a = get_or c.items.result.now c.args.count 0 in
    let same : a ≡ get_or now.history c.args.count 0 = ap (λ (xs : List ℕ). get_or xs c.args.count 0) c.items.ensures in
    let long : length s.history ≡ c.args.count = length-take-le c.args.count now.history (omega (arith, c.requires.more)) in
    let few : length s.history < 2 = subst (λ (r : Round). HasCards r (length s.history)) c.in-Deal.is c.requires.shown.cards in
    let none : c.args.count + 1 < 2 = omega (arith, few, long, c.if-count-eq1.false) in
    shows_more now _ c.args.count a c.requires.play c.requires.more same refl
    (shows_card s.round s.public s.public_at s.table s.history a (omega (arith, long, none)) c.requires.shown.shows)
    (subst (λ (r : Round). HasCards r (c.args.count + 1)) (sym c.in-Deal.is) none)

-- the public card
pub returns-in-First-clause-shown : goal.returns-in-First-clause-shown
returns-in-First-clause-shown c =
    let now = c.args.self.now in
    let s = front c.args.count now in
    let a = get_or c.items.result.now c.args.count 0 in
    let same : a ≡ get_or now.history c.args.count 0 = ap (λ (xs : List ℕ). get_or xs c.args.count 0) c.items.ensures in
    let next = IsPlay-next leduc_rules now.history c.args.count a c.requires.play c.requires.more same in
    let long : length s.history ≡ c.args.count = length-take-le c.args.count now.history (omega (arith, c.requires.more)) in
    let x = parts 2 s.history in
    let both : 2 ≤ length s.history = subst (λ (r : Round). HasCards r (length s.history)) c.in-First.is c.requires.shown.cards in
    let round : x.round ≡ 1 = c.requires.shown.shows.round ∙ ap round_number c.in-First.is in
    let table = subst (λ (o : Opening). IsTable s.table o x.words) (first_round x round) c.requires.shown.shows.table in
    let here = shows_public s.round s.public s.public_at s.table c.second_table-self.result s.history a both c.requires.shown.shows round c.if-self-eq0.true
    (c.second_table-self.ensures x.words table (nobody_folded s a 0 c.requires.shown next round)) in
    shows_more now _ c.args.count a c.requires.play c.requires.more same refl
    (subst (λ (n : ℕ). ShowsParts Second a n c.second_table-self.result (parts 2 (s.history ++ a ∷ []))) long here)
    (omega (arith, both, long))

-- a word of the first round
pub returns-in-First-2-clause-shown : goal.returns-in-First-2-clause-shown
returns-in-First-2-clause-shown c =
    let now = c.args.self.now in
    let s = front c.args.count now in
    let a = get_or c.items.result.now c.args.count 0 in
    let same : a ≡ get_or now.history c.args.count 0 = ap (λ (xs : List ℕ). get_or xs c.args.count 0) c.items.ensures in
    let long : length s.history ≡ c.args.count = length-take-le c.args.count now.history (omega (arith, c.requires.more)) in
    let x = parts 2 s.history in
    let both : 2 ≤ length s.history = subst (λ (r : Round). HasCards r (length s.history)) c.in-First.is c.requires.shown.cards in
    let round : x.round ≡ 1 = c.requires.shown.shows.round ∙ ap round_number c.in-First.is in
    let enough : 2 ≤ c.args.count + 1 = omega (arith, both, long) in
    shows_more now _ c.args.count a c.requires.play c.requires.more same refl
    (shows_word s.round s.public s.public_at s.table c.after-self.result s.history a 0 both c.requires.shown.shows round (omega arith)
    (c.after-self.ensures (opening_of 2 x) x.words (first_size x round) c.requires.shown.shows.table))
    (subst (λ (r : Round). HasCards r (c.args.count + 1)) (sym c.in-First.is) enough)

-- a word of the second round
pub returns-in-Second-clause-shown : goal.returns-in-Second-clause-shown
returns-in-Second-clause-shown c =
    let now = c.args.self.now in
    let s = front c.args.count now in
    let a = get_or c.items.result.now c.args.count 0 in
    let same : a ≡ get_or now.history c.args.count 0 = ap (λ (xs : List ℕ). get_or xs c.args.count 0) c.items.ensures in
    let next = IsPlay-next leduc_rules now.history c.args.count a c.requires.play c.requires.more same in
    let long : length s.history ≡ c.args.count = length-take-le c.args.count now.history (omega (arith, c.requires.more)) in
    let x = parts 2 s.history in
    let both : 2 ≤ length s.history = subst (λ (r : Round). HasCards r (length s.history)) c.in-Second.is c.requires.shown.cards in
    let round : x.round ≡ 2 = c.requires.shown.shows.round ∙ ap round_number c.in-Second.is in
    let enough : 2 ≤ c.args.count + 1 = omega (arith, both, long) in
    shows_more now _ c.args.count a c.requires.play c.requires.more same refl
    (shows_word s.round s.public s.public_at s.table c.after-self-in-Second.result s.history a 1 both c.requires.shown.shows round
    (second_owed s a c.requires.shown next round)
    (c.after-self-in-Second.ensures (opening_of 2 x) x.words (second_size x round) c.requires.shown.shows.table))
    (subst (λ (r : Round). HasCards r (c.args.count + 1)) (sym c.in-Second.is) enough)
