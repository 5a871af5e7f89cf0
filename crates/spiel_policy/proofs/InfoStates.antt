-- The information state of a tree that an entry names.
use Rattle.std.proofs.Common.{◌≡◌, ℕ, ◌<◌, ◌≤◌, Bool, true, false, cond, ◌&&◌, ◌==◌, List, length, nat_lt, lt-ltb, le-ltb, eq-eqb, eqb-true, refl, sym, ap, ap₂, ◌∙◌, subst, Option, Some, None, arith}
use Rattle.std.specs.Prelude.{Contains, IfSome, IfNone}
use Rattle.std.specs.List.{position_or_len}
use Rattle.std.specs.Str.{bytes_eq}
use Rattle.std.proofs.lemmas.Bool.{and_parts}
use Rattle.std.proofs.lemmas.Slice.Eq.{bytes_eq-Decides}
use Rattle.std.proofs.lemmas.List.Sums.{position_or_len_is}
use Rattle.std.proofs.lemmas.List.Elements.{Contains-get_or}
use Rattle.spiel_tree.specs.States.{InfoState, no_state, state_at, states_below}
use Rattle.spiel_tree.specs.Trees.{Whole}
use Rattle.spiel_tree.proofs.StatePlayers.{one_number, player_low}
use Rattle.spiel_policy.specs.Reading.{is_state, state_named}

-- ---- the test
is_state-self : (player : ℕ) (text : List ℕ) (state : InfoState) → state ≡ record { player = player; text = text } → is_state player text state ≡ true
is_state-self player text state e =
    ap (is_state player text) e ∙ ap₂ (λ (a b : Bool). a && b) (eq-eqb player player refl) ((bytes_eq-Decides text text).1 refl)

pub is_state-is : (player : ℕ) (text : List ℕ) (state : InfoState) → is_state player text state ≡ true → state ≡ record { player = player; text = text }
is_state-is player text state e =
    let parts = and_parts (state.player == player) (bytes_eq state.text text) e in
    ap₂ (λ (p : ℕ) (t : List ℕ). let is : InfoState = record { player = p; text = t } in is) (eqb-true state.player player parts.0) ((bytes_eq-Decides state.text text).0 parts.1)

false_by : (b : Bool) → (b ≡ true → ⊥) → b ≡ false
false_by true none = absurd (none refl)
false_by false none = refl

-- ---- the information state that is named
pub named : (tree : Whole) (player : ℕ) (text : List ℕ) (s : ℕ) → s < length (states_below tree.players tree.rows)
    → state_at tree.players tree.rows s ≡ record { player = player; text = text } → state_named tree player text ≡ Some s
named tree player text s l e =
    let states = states_below tree.players tree.rows in
    let first : position_or_len (is_state player text) states ≡ s =
    position_or_len_is (is_state player text) states s no_state (omega (arith, l))
    (λ k m. false_by (is_state player text (state_at tree.players tree.rows k))
    (λ t. let same : k ≡ s = one_number tree.players tree.rows k s (omega (arith, m, l)) l (is_state-is player text (state_at tree.players tree.rows k) t ∙ sym e) in omega (arith, same, m)))
    (λ m. is_state-self player text (state_at tree.players tree.rows s) e) in
    ap (λ (n : ℕ). cond (nat_lt n (length states)) (Some n) None) first ∙ ap (λ (b : Bool). cond b (Some s) None) (lt-ltb s (length states) l)

pub not_named : (tree : Whole) (player : ℕ) (text : List ℕ)
    → ((s : ℕ) → s < length (states_below tree.players tree.rows) → state_at tree.players tree.rows s ≡ record { player = player; text = text } → ⊥) → state_named tree player text ≡ None
not_named tree player text none =
    let states = states_below tree.players tree.rows in
    let last : position_or_len (is_state player text) states ≡ length states =
    position_or_len_is (is_state player text) states (length states) no_state (omega arith)
    (λ k m. false_by (is_state player text (state_at tree.players tree.rows k)) (λ t. none k m (is_state-is player text (state_at tree.players tree.rows k) t)))
    (λ m. absurd (omega arith)) in
    ap (λ (n : ℕ). cond (nat_lt n (length states)) (Some n) None) last ∙ ap (λ (b : Bool). cond b (Some (length states)) None) (le-ltb (length states) (length states) (omega arith))

-- there are no information states of players that there aren't
pub no_player : (tree : Whole) (player : ℕ) (text : List ℕ) → tree.players ≤ player → state_named tree player text ≡ None
no_player tree player text l =
    not_named tree player text (λ s m e. let low = player_low tree.players tree.rows s m in let same : (state_at tree.players tree.rows s).player ≡ player = ap (λ (state : InfoState). state.player) e in omega (arith, low, same, l))

-- what a search for it answers
pub named_by : (tree : Whole) (player : ℕ) (text : List ℕ) (answer : Option ℕ) → IfSome answer (λ s. state_at tree.players tree.rows s ≡ record { player = player; text = text })
    → IfSome answer (λ s. s < length (states_below tree.players tree.rows)) → IfNone answer (Contains (states_below tree.players tree.rows) (record { player = player; text = text }) → ⊥)
    → answer ≡ state_named tree player text
named_by tree player text None there within none =
    sym (not_named tree player text (λ s m e. none (subst (Contains (states_below tree.players tree.rows)) e (Contains-get_or (states_below tree.players tree.rows) s no_state m))))
named_by tree player text (Some s) there within none = sym (named tree player text s within there)
