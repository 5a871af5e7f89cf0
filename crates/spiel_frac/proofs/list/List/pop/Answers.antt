use Rattle.std.proofs.Common.{◌≡◌, ℕ, ◌+◌, List, [], ◌∷◌, ◌++◌, Option, Some, None, length, ap, sym, ◌∙◌, arith, length-append}
use Rattle.std.specs.Prelude.{option_to_list, MatchOption}
use Rattle.std.proofs.lemmas.List.{append-nil, nil_from_length, same_from_push}
use Rattle.spiel_frac.proofs.list.List.pop.Goals as goal

-- what was there, by what is left and what was taken
was : {T : Type 0} (items old new : List T) (taken : Option T) (n m : ℕ) → items ≡ old → items ≡ new ++ option_to_list taken → n ≡ length items → MatchOption taken ((n ≡ 0) × (m ≡ 0)) (λ item. m + 1 ≡ n) → MatchOption taken ((old ≡ []) × (new ≡ [])) (λ item. old ≡ new ++ item ∷ [])
was items old new None n m view e long count =
    let none = nil_from_length items (sym long ∙ count.0) in (sym view ∙ none, sym (append-nil new) ∙ sym e ∙ none)
was items old new (Some item) n m view e long count = sym view ∙ e

-- the last of the items is taken
last_is : {T : Type 0} (old new : List T) (taken : Option T) (front : List T) (item : T) → MatchOption taken ((old ≡ []) × (new ≡ [])) (λ item. old ≡ new ++ item ∷ []) → old ≡ front ++ item ∷ [] → (new ≡ front) × (taken ≡ Some item)
last_is old new None front item is e = absurd (omega (arith, ap length (sym is.0 ∙ e), length-append front (item ∷ [])))
last_is old new (Some last) front item is e =
    let same = same_from_push new front last item (sym is ∙ e) in (same.0, ap (λ i. Some i) same.1)

pub returns-clause-taken : goal.returns-clause-taken
returns-clause-taken g c =
    let v = c.self.inside.items in
    was v.items c.args.self.now c.pop.new.self.items c.pop.result v.len c.pop.new.self.len c.self.view_is c.pop.ensures.items v.ok.0 c.pop.ensures.cases

pub returns-clause-last : goal.returns-clause-last
returns-clause-last g c front item e =
    let v = c.self.inside.items in
    let taken = was v.items c.args.self.now c.pop.new.self.items c.pop.result v.len c.pop.new.self.len c.self.view_is c.pop.ensures.items v.ok.0 c.pop.ensures.cases in
    last_is c.args.self.now c.pop.new.self.items c.pop.result front item taken e
