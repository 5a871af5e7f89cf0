-- Which rule of a shape a name or a place finds.
use Rattle.std.proofs.Common.{◌≡◌, ◌∙◌, ◌||◌, ◌==◌, ◌<◌, ◌⊎◌, inl, inr, cond, ap, refl, arith, ℕ, suc, ◌+◌, Bool, true, false, List, [], ◌∷◌, ◌++◌, map, length, Option, Some, None, eq-eqb}
use Rattle.std.specs.Prelude.{if◌then◌else◌}
use Rattle.std.specs.Str.{bytes_eq}
use Rattle.std.proofs.lemmas.Bool.{ne_eqb}
use Rattle.clap.specs.Walk.{Text, Rule, arg_by_id, arg_by_index, arg_by_long, arg_by_short}
use Rattle.spiel_words.specs.Line.{Shape, is_among}
use Rattle.spiel_words.specs.Rules.{numbered}
use Rattle.spiel_words.proofs.Names.{itself, neither, same}
use Rattle.spiel_words.proofs.Built.{all_built, flag_built, option_built, place_built}

-- ---- by a long name

abbrev pub option_of : Shape → Text → Option Rule
option_of shape name = if is_among name shape.options then Some (option_built name) else None

abbrev pub long_of_shape : Shape → Text → Option Rule
long_of_shape shape name = if is_among name shape.flags then Some (flag_built name) else option_of shape name

long-options : (names : List Text) (name : Text) → arg_by_long (map option_built names) name ≡ (if is_among name names then Some (option_built name) else None)
long-options [] name = refl
long-options (n ∷ names) name = go (bytes_eq n name) refl (long-options names name)
  where
    go : (b : Bool) → bytes_eq n name ≡ b → arg_by_long (map option_built names) name ≡ (if is_among name names then Some (option_built name) else None)
        → cond (b || false) (Some (option_built n)) (arg_by_long (map option_built names) name) ≡ (if b || is_among name names then Some (option_built name) else None)
    go true e h = ap (λ (x : Text). Some (option_built x)) (same n name e)
    go false e h = h

long-flags : (flags options : List Text) (name : Text) → arg_by_long (map flag_built flags ++ map option_built options) name
    ≡ (if is_among name flags then Some (flag_built name) else (if is_among name options then Some (option_built name) else None))
long-flags [] options name = long-options options name
long-flags (n ∷ names) options name = go (bytes_eq n name) refl (long-flags names options name)
  where
    go : (b : Bool) → bytes_eq n name ≡ b
        → arg_by_long (map flag_built names ++ map option_built options) name
        ≡ (if is_among name names then Some (flag_built name) else (if is_among name options then Some (option_built name) else None))
        → cond (b || false) (Some (flag_built n)) (arg_by_long (map flag_built names ++ map option_built options) name)
        ≡ (if b || is_among name names then Some (flag_built name) else (if is_among name options then Some (option_built name) else None))
    go true e h = ap (λ (x : Text). Some (flag_built x)) (same n name e)
    go false e h = h

long-places : (k : ℕ) (places flags options : List Text) (name : Text)
    → arg_by_long (numbered place_built k places ++ (map flag_built flags ++ map option_built options)) name ≡ arg_by_long (map flag_built flags ++ map option_built options) name
long-places k [] flags options name = refl
long-places k (n ∷ names) flags options name = long-places (suc k) names flags options name

pub by_long : (shape : Shape) (name : Text) → arg_by_long (all_built shape) name ≡ long_of_shape shape name
by_long shape name = long-places 1 shape.places shape.flags shape.options name ∙ long-flags shape.flags shape.options name

-- ---- by a place

index-options : (names : List Text) (j : ℕ) → arg_by_index (map option_built names) j ≡ None
index-options [] j = refl
index-options (n ∷ names) j = index-options names j

index-flags : (flags options : List Text) (j : ℕ) → arg_by_index (map flag_built flags ++ map option_built options) j ≡ None
index-flags [] options j = index-options options j
index-flags (n ∷ names) options j = index-flags names options j

abbrev pub place_at : ℕ → List Text → Option Rule
place_at j [] = None
place_at j (name ∷ names) = Some (place_built j name)

abbrev after : List Text → List Text → List Rule
after flags options = map flag_built flags ++ map option_built options

past : (k j : ℕ) → j < k → (names flags options : List Text) → arg_by_index (numbered place_built k names ++ after flags options) j ≡ None
past k j lt [] flags options = index-flags flags options j
past k j lt (n ∷ names) flags options =
    ap (λ b. cond b (Some (place_built k n)) (arg_by_index (numbered place_built (suc k) names ++ after flags options) j)) (ne_eqb k j (λ e. omega arith))
    ∙ past (suc k) j (omega arith) names flags options

index-places : (k j : ℕ) (front left flags options : List Text) → j ≡ k + length front
    → arg_by_index (numbered place_built k (front ++ left) ++ after flags options) j ≡ place_at j left
index-places k j [] [] flags options e = index-flags flags options j
index-places k j [] (n ∷ left) flags options e =
    let here : k ≡ j = omega arith in
    ap (λ b. cond b (Some (place_built k n)) (arg_by_index (numbered place_built (suc k) left ++ after flags options) j)) (eq-eqb k j here)
    ∙ ap (λ i. Some (place_built i n)) here
index-places k j (f ∷ front) left flags options e =
    let behind : k < j = omega arith in
    let next : j ≡ suc k + length front = omega arith in
    ap (λ b. cond b (Some (place_built k f)) (arg_by_index (numbered place_built (suc k) (front ++ left) ++ after flags options) j)) (ne_eqb k j (λ same_index. omega arith))
    ∙ index-places (suc k) j front left flags options next

-- the place of the first of `left` has the number behind those of `front`
pub by_index : (shape : Shape) (j : ℕ) (front left : List Text) → shape.places ≡ front ++ left → j ≡ suc (length front) → arg_by_index (all_built shape) j ≡ place_at j left
by_index shape j front left split e =
    ap (λ (places : List Text). arg_by_index (numbered place_built 1 places ++ after shape.flags shape.options) j) split
    ∙ index-places 1 j front left shape.flags shape.options (omega arith)

-- whatever stands at a place is the rule of a place
pub at_any_index : (shape : Shape) (j : ℕ) → (arg_by_index (all_built shape) j ≡ None) ⊎ ((k : ℕ) × (name : Text) × (arg_by_index (all_built shape) j ≡ Some (place_built k name)))
at_any_index shape j = go 1 shape.places
  where
    go : (k : ℕ) (names : List Text) → (arg_by_index (numbered place_built k names ++ after shape.flags shape.options) j ≡ None)
        ⊎ ((i : ℕ) × (name : Text) × (arg_by_index (numbered place_built k names ++ after shape.flags shape.options) j ≡ Some (place_built i name)))
    go k [] = inl (index-flags shape.flags shape.options j)
    go k (n ∷ names) = here (k == j) (go (suc k) names)
      where
        rest : Option Rule
        rest = arg_by_index (numbered place_built (suc k) names ++ after shape.flags shape.options) j

        here : (b : Bool) → (rest ≡ None) ⊎ ((i : ℕ) × (name : Text) × (rest ≡ Some (place_built i name)))
            → (cond b (Some (place_built k n)) rest ≡ None) ⊎ ((i : ℕ) × (name : Text) × (cond b (Some (place_built k n)) rest ≡ Some (place_built i name)))
        here true h = inr (k, n, refl)
        here false h = h

-- ---- by an id

id-places : (k j : ℕ) (front left flags options : List Text) (name : Text) → is_among name front ≡ false → j ≡ k + length front
    → arg_by_id (numbered place_built k (front ++ name ∷ left) ++ after flags options) name ≡ Some (place_built j name)
id-places k j [] left flags options name new e =
    ap (λ b. cond b (Some (place_built k name)) (arg_by_id (numbered place_built (suc k) left ++ after flags options) name)) (itself name)
    ∙ ap (λ i. Some (place_built i name)) (omega arith)
id-places k j (f ∷ front) left flags options name new e =
    let next : j ≡ suc k + length front = omega arith in
    ap (λ b. cond b (Some (place_built k f)) (arg_by_id (numbered place_built (suc k) (front ++ name ∷ left) ++ after flags options) name)) (neither _ _ new).0
    ∙ id-places (suc k) j front left flags options name (neither _ _ new).1 next

-- a place is found by its own name
pub place_by_id : (shape : Shape) (j : ℕ) (front left : List Text) (name : Text) → shape.places ≡ front ++ name ∷ left → is_among name front ≡ false → j ≡ suc (length front)
    → arg_by_id (all_built shape) name ≡ Some (place_built j name)
place_by_id shape j front left name split new e =
    ap (λ (places : List Text). arg_by_id (numbered place_built 1 places ++ after shape.flags shape.options) name) split
    ∙ id-places 1 j front left shape.flags shape.options name new (omega arith)

id-options : (names : List Text) (name : Text) → is_among name names ≡ true → arg_by_id (map option_built names) name ≡ Some (option_built name)
id-options [] name h = let bad : false ≡ true = h in cc
id-options (n ∷ names) name h = go (bytes_eq n name) refl h (id-options names name)
  where
    go : (b : Bool) → bytes_eq n name ≡ b → (b || is_among name names) ≡ true → (is_among name names ≡ true → arg_by_id (map option_built names) name ≡ Some (option_built name))
        → cond b (Some (option_built n)) (arg_by_id (map option_built names) name) ≡ Some (option_built name)
    go true e m below = ap (λ (x : Text). Some (option_built x)) (same n name e)
    go false e m below = below m

id-flags : (flags options : List Text) (name : Text) → is_among name flags ≡ false → arg_by_id (after flags options) name ≡ arg_by_id (map option_built options) name
id-flags [] options name new = refl
id-flags (n ∷ names) options name new =
    ap (λ b. cond b (Some (flag_built n)) (arg_by_id (after names options) name)) (neither _ _ new).0 ∙ id-flags names options name (neither _ _ new).1

id-past : (k : ℕ) (places flags options : List Text) (name : Text) → is_among name places ≡ false
    → arg_by_id (numbered place_built k places ++ after flags options) name ≡ arg_by_id (after flags options) name
id-past k [] flags options name new = refl
id-past k (n ∷ names) flags options name new =
    ap (λ b. cond b (Some (place_built k n)) (arg_by_id (numbered place_built (suc k) names ++ after flags options) name)) (neither _ _ new).0
    ∙ id-past (suc k) names flags options name (neither _ _ new).1

-- an option is found by its own name
pub option_by_id : (shape : Shape) (name : Text) → is_among name shape.places ≡ false → is_among name shape.flags ≡ false → is_among name shape.options ≡ true
    → arg_by_id (all_built shape) name ≡ Some (option_built name)
option_by_id shape name no_place no_flag h =
    id-past 1 shape.places shape.flags shape.options name no_place ∙ id-flags shape.flags shape.options name no_flag ∙ id-options shape.options name h

-- ---- by a short name: there are none

short-options : (names : List Text) (c : ℕ) → arg_by_short (map option_built names) c ≡ None
short-options [] c = refl
short-options (n ∷ names) c = short-options names c

short-flags : (flags options : List Text) (c : ℕ) → arg_by_short (after flags options) c ≡ None
short-flags [] options c = short-options options c
short-flags (n ∷ names) options c = short-flags names options c

short-places : (k : ℕ) (places flags options : List Text) (c : ℕ) → arg_by_short (numbered place_built k places ++ after flags options) c ≡ None
short-places k [] flags options c = short-flags flags options c
short-places k (n ∷ names) flags options c = short-places (suc k) names flags options c

pub by_short : (shape : Shape) (c : ℕ) → arg_by_short (all_built shape) c ≡ None
by_short shape c = short-places 1 shape.places shape.flags shape.options c
