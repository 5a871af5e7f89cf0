-- A text has one value or one first fault, and not both.
use Rattle.std.proofs.Common.{◌≡◌, ◌<◌, ◌≤◌, ℕ, List, [], ◌∷◌, length, Result, Ok, Err, refl, sym, ◌∙◌, ap, ◌⊎◌, inl, inr, arith}
use Rattle.std.specs.Prelude.{IfOk, IfErr}
use Rattle.std.proofs.lemmas.Bool.{cases_lt}
use Rattle.spiel_string.specs.Game.{Game}
use Rattle.spiel_string.specs.Grammar.{Whole, Spells, IsSyntaxPlace}
use Rattle.spiel_string.specs.Nesting.{nesting}
use Rattle.spiel_string.specs.Reading.{IsRead, IsTooDeep, IsRepeated, IsFaultOf, MayRefuse, Gives, Refuses}
use Rattle.spiel_string.specs.Repeats.{second_keys}
use Rattle.spiel_string.specs.Values.{game_of}
use Rattle.spiel_string.specs.View.{view}
use Rattle.spiel_string.specs.declared.fault.StringFault.{StringFault}
use Rattle.spiel_string.specs.declared.fault.StringFault.TheVariants.{TooLong, Syntax, TooDeep, Repeated, NoMemory}
use Rattle.spiel_string.specs.declared.value.GameText.{GameText}
use Rattle.spiel_string.proofs.SyntaxPlaces.{one_tree}

-- ---- values

pub one_value : (text : List ℕ) (g h : Game) → IsRead text g → IsRead text h → g ≡ h
one_value text g h r q = r.value ∙ ap (λ (t : Whole). game_of t.top) (one_tree r.tree q.tree text r.spells q.spells) ∙ sym q.value

same_nesting : (text : List ℕ) (t u : Whole) → Spells t text → Spells u text → nesting t.top ≡ nesting u.top
same_nesting text t u h q = ap (λ (t : Whole). nesting t.top) (one_tree t u text h q)

same_seconds : (text : List ℕ) (t u : Whole) → Spells t text → Spells u text → second_keys t.top [] ≡ second_keys u.top []
same_seconds text t u h q = ap (λ (t : Whole). second_keys t.top []) (one_tree t u text h q)

-- ---- a value and a fault

pub not_both : (text : List ℕ) (g : Game) (fault : StringFault) → IsRead text g → IsFaultOf text fault → ⊥
not_both text g TooLong r f = let short = r.short in omega (arith, short, f)
not_both text g (Syntax at) r f = f.1.refused (r.tree, r.spells)
not_both text g TooDeep r f =
    let same = same_nesting text r.tree f.tree r.spells f.spells in let few = r.shallow in let more = f.deep in omega (arith, same, few, more)
not_both text g (Repeated at) r f =
    let bad : [] ≡ f.second.suffix ∷ f.second.others = sym r.once ∙ same_seconds text r.tree f.tree r.spells f.spells ∙ f.second.first in cc
not_both text g NoMemory r f = f

-- ---- two faults

not_above : (text : List ℕ) (p q : ℕ) → IsSyntaxPlace text p → IsSyntaxPlace text q → p < q → ⊥
not_above text p q a b lt = a.longest q lt b.within b.front

one_place : (text : List ℕ) (p q : ℕ) → IsSyntaxPlace text p → IsSyntaxPlace text q → p ≡ q
one_place text p q a b = go (cases_lt p q) (cases_lt q p)
  where
    go : (p < q) ⊎ (q ≤ p) → (q < p) ⊎ (p ≤ q) → p ≡ q
    go (inl lt) r = absurd (not_above text p q a b lt)
    go (inr le) (inl lt) = absurd (not_above text q p b a lt)
    go (inr le) (inr ge) = omega (arith, le, ge)

one_key : (text : List ℕ) (p q : ℕ) → IsRepeated text p → IsRepeated text q → p ≡ q
one_key text p q a b =
    let same : a.second.suffix ∷ a.second.others ≡ b.second.suffix ∷ b.second.others =
    sym a.second.first ∙ same_seconds text a.tree b.tree a.spells b.spells ∙ b.second.first in
    let suffix : a.second.suffix ≡ b.second.suffix = cc in
    let lengths = ap (λ (u : List ℕ). length u) suffix in
    let here = a.second.at_place in let there = b.second.at_place in omega (arith, lengths, here, there)

deep_or_not : (text : List ℕ) (p : ℕ) → IsTooDeep text → IsRepeated text p → ⊥
deep_or_not text p a b =
    let same = same_nesting text a.tree b.tree a.spells b.spells in let more = a.deep in let few = b.shallow in omega (arith, same, more, few)

pub one_fault : (text : List ℕ) (fault answer : StringFault) → IsFaultOf text fault → IsFaultOf text answer → answer ≡ fault
one_fault text TooLong TooLong f a = refl
one_fault text TooLong (Syntax q) f a = absurd (let short = a.0 in omega (arith, f, short))
one_fault text TooLong TooDeep f a = absurd (let short = a.short in omega (arith, f, short))
one_fault text TooLong (Repeated q) f a = absurd (let short = a.short in omega (arith, f, short))
one_fault text (Syntax p) TooLong f a = absurd (let short = f.0 in omega (arith, a, short))
one_fault text (Syntax p) (Syntax q) f a = ap (λ at. Syntax at) (one_place text q p a.1 f.1)
one_fault text (Syntax p) TooDeep f a = absurd (f.1.refused (a.tree, a.spells))
one_fault text (Syntax p) (Repeated q) f a = absurd (f.1.refused (a.tree, a.spells))
one_fault text TooDeep TooLong f a = absurd (let short = f.short in omega (arith, a, short))
one_fault text TooDeep (Syntax q) f a = absurd (a.1.refused (f.tree, f.spells))
one_fault text TooDeep TooDeep f a = refl
one_fault text TooDeep (Repeated q) f a = absurd (deep_or_not text q f a)
one_fault text (Repeated p) TooLong f a = absurd (let short = f.short in omega (arith, a, short))
one_fault text (Repeated p) (Syntax q) f a = absurd (a.1.refused (f.tree, f.spells))
one_fault text (Repeated p) TooDeep f a = absurd (deep_or_not text p a f)
one_fault text (Repeated p) (Repeated q) f a = ap (λ at. Repeated at) (one_key text q p a f)
one_fault text NoMemory answer f a = absurd f
one_fault text fault NoMemory f a = absurd a

-- ---- answers

fault_or_memory : (text : List ℕ) (answer : StringFault) → MayRefuse text answer → IsFaultOf text answer ⊎ (answer ≡ NoMemory)
fault_or_memory text NoMemory m = inr refl
fault_or_memory text TooLong m = inl m
fault_or_memory text (Syntax at) m = inl m
fault_or_memory text TooDeep m = inl m
fault_or_memory text (Repeated at) m = inl m

pub value_is_given : (text : List ℕ) (r : Result GameText StringFault) → IfOk r (λ read. IsRead text (view read)) → IfErr r (MayRefuse text)
    → (g : Game) → IsRead text g → Gives g r
value_is_given text (Ok read) ok err g h = one_value text (view read) g ok h
value_is_given text (Err fault) ok err g h = go (fault_or_memory text fault err)
  where
    go : IsFaultOf text fault ⊎ (fault ≡ NoMemory) → fault ≡ NoMemory
    go (inl f) = absurd (not_both text g fault h f)
    go (inr e) = e

pub fault_is_answered : (text : List ℕ) (r : Result GameText StringFault) → IfOk r (λ read. IsRead text (view read)) → IfErr r (MayRefuse text)
    → (fault : StringFault) → IsFaultOf text fault → Refuses fault r
fault_is_answered text (Ok read) ok err fault h = not_both text (view read) fault ok h
fault_is_answered text (Err answer) ok err fault h = go (fault_or_memory text answer err)
  where
    go : IsFaultOf text answer ⊎ (answer ≡ NoMemory) → (answer ≡ fault) ⊎ (answer ≡ NoMemory)
    go (inl f) = inl (one_fault text fault answer h f)
    go (inr e) = inr e
