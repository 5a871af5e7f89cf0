-- What is got along a play, one action after another.
use Rattle.std.proofs.Common.{◌≡◌, ℕ, ◌+◌, ◌-◌, ◌^◌, ◌<◌, ◌≤◌, true, List, [], ◌∷◌, ◌++◌, length, drop, take, get_or, reverse, refl, sym, ap, subst, ◌∙◌, arith}
use Rattle.std.specs.Prelude.{ℤ, pos, ◌+ℤ◌, nat_abs, slice_index, slice_index_or}
use Rattle.std.proofs.lemmas.Int.{ints}
use Rattle.std.proofs.lemmas.List.{length-drop, take_more}
use Rattle.spiel_api.specs.declared.place.Place.TheVariants.{End}
use Rattle.spiel_api.specs.Plays.{IsPlay}
use Rattle.spiel_api.proofs.PlayLemmas.{IsPlay-take}
use Rattle.spiel_efg.specs.declared.parts.EfgNode.{EfgNode}
use Rattle.spiel_efg.specs.declared.parts.EfgParts.{EfgParts}
use Rattle.spiel_efg.specs.Efg.{efg_rules, kind_after, kind_place}
use Rattle.spiel_efg.specs.EfgLaws.{return_low}
use Rattle.spiel_efg.specs.EfgPays.{own_pay, pay_along}
use Rattle.spiel_efg.specs.EfgPlays.{IsThere, efg_from, play_there}
use Rattle.spiel_efg.specs.EfgState.{no_node}
use Rattle.spiel_efg.specs.Places.{children_from}
use Rattle.spiel_efg.specs.Sound.{is_sound}
use Rattle.spiel_efg.specs.Tree.{counts_of, nodes_after, subtrees}
use Rattle.spiel_efg.proofs.Children.{first_own, pay_more, play_step, some_there}
use Rattle.spiel_efg.proofs.Forests.{rest_is}

first_got : (count : EfgNode → ℕ) (own : EfgNode → ℤ) (nodes : List EfgNode) → 0 < length nodes → pay_along count own nodes [] ≡ own (get_or nodes 0 no_node)
first_got count own [] l = absurd (omega arith)
first_got count own (node ∷ nodes) l = refl

module _ (parts : EfgParts) (is : is_sound parts ≡ true) where
  -- there is a root
  pub root_within : 0 < length parts.nodes
  root_within = some_there parts is parts.nodes (record { trees = 0; forest = (efg_from parts is).tree })

  -- at the root
  pub start_sum : (p : ℕ) (own : ℤ) → own ≡ own_pay parts p (get_or parts.nodes 0 no_node) → pos 0 +ℤ own ≡ pay_along (subtrees parts.sets) (own_pay parts p) parts.nodes []
  start_sum p own e =
      let same : pos 0 +ℤ own ≡ own = omega (arith, ints) in
      same ∙ e ∙ sym (first_got (subtrees parts.sets) (own_pay parts p) parts.nodes root_within)

  module _ (children : List (List ℕ)) (h : List ℕ) (k place next : ℕ) (kept : children ≡ reverse (children_from 0 (counts_of parts.sets parts.nodes))) (play : IsPlay (efg_rules parts) h) (low : k < length h)
      (node : drop place parts.nodes ≡ nodes_after (subtrees parts.sets) parts.nodes (take k h)) (child : next ≡ slice_index (slice_index_or children (length parts.nodes - 1 - place) []) (slice_index h k)) where
    -- one action on
    pub next_node : drop next parts.nodes ≡ nodes_after (subtrees parts.sets) parts.nodes (take (k + 1) h)
    next_node =
        ap (λ n. drop n parts.nodes) child ∙ (play_step parts is children h k place kept play low node).leads
        ∙ ap (λ z. nodes_after (subtrees parts.sets) parts.nodes z) (sym (take_more h k 0 low))

    pub next_within : next < length parts.nodes
    next_within =
        let there = subst (λ xs. IsThere (subtrees parts.sets) xs) (sym next_node) (play_there parts (efg_from parts is) (take (k + 1) h) (IsPlay-take (efg_rules parts) h (k + 1) play)) in
        omega (arith, some_there parts is (drop next parts.nodes) there, length-drop next parts.nodes)

    pub next_sum : (p : ℕ) (above own : ℤ) → above ≡ pay_along (subtrees parts.sets) (own_pay parts p) parts.nodes (take k h) → own ≡ own_pay parts p (get_or parts.nodes next no_node)
        → above +ℤ own ≡ pay_along (subtrees parts.sets) (own_pay parts p) parts.nodes (take (k + 1) h)
    next_sum p above own e f =
        let count = subtrees parts.sets in
        let got = own_pay parts p in
        let last : nodes_after count parts.nodes (take k h ++ slice_index h k ∷ []) ≡ get_or parts.nodes next no_node ∷ drop (next + 1) parts.nodes =
        ap (λ z. nodes_after count parts.nodes z) (sym (take_more h k 0 low)) ∙ sym next_node ∙ rest_is parts.nodes next no_node next_within in
        ap (λ z. z +ℤ own) e
        ∙ ap (λ z. pay_along count got parts.nodes (take k h) +ℤ z) (f ∙ sym (ap (λ xs. first_own got xs) last))
        ∙ sym (pay_more count got parts.nodes (take k h) (slice_index h k))
        ∙ ap (λ z. pay_along count got parts.nodes z) (sym (take_more h k 0 low))

  -- a return at a leaf has 64 bits
  pub return_fits : (h : List ℕ) (p : ℕ) → IsPlay (efg_rules parts) h → kind_place parts.sets (kind_after parts h) ≡ End → p < length parts.players → nat_abs (pay_along (subtrees parts.sets) (own_pay parts p) parts.nodes h) ≤ 2 ^ 62
  return_fits h p play end l = omega (arith, return_low parts is h p play end l, (efg_from parts is).cap_high)
