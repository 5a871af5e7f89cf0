-- Changes at the end of the list of open brackets.
use Rattle.std.proofs.Common.{◌≡◌, ◌-◌, suc, length, Bool, true, false, ◌||◌, arith, ℕ, List, [], ◌∷◌, ◌++◌, refl, sym, ◌∙◌, ap, Option, Some, None, map}
use Rattle.std.specs.Prelude.{Vec, option_map, slice_get, if◌then◌else◌}
use Rattle.std.specs.List.{list_any}
use Rattle.std.specs.Str.{bytes_eq}
use Rattle.std.specs.declared.alloc.Global.{Global}
use Rattle.std.proofs.lemmas.List.{map-append}
use Rattle.spiel_string.specs.Game.{Game, Value}
use Rattle.spiel_string.specs.Kept.{Open, Read, open_view, kept_view, on_last, without_last, last_of, keyed, ended, value_read, closed_up, game_in}
use Rattle.spiel_string.specs.Insertion.{insert_pair}
use Rattle.spiel_string.specs.Sorted.{key_lt}
use Rattle.spiel_string.specs.Tracking.{is_again, is_key_of}
use Rattle.spiel_string.specs.View.{view, value_view, pair_view}
use Rattle.spiel_string.specs.declared.kept.Frame.{Frame}
use Rattle.spiel_string.specs.declared.kept.Kept.{Kept}
use Rattle.spiel_string.specs.declared.value.GameText.{GameText}
use Rattle.spiel_string.specs.declared.value.ParamValue.{ParamValue}

-- ---- the last item

pub on_last-push : {X : Type 0} (f : X → X) (xs : List X) (x : X) → on_last f (xs ++ x ∷ []) ≡ xs ++ f x ∷ []
on_last-push f [] x = refl
on_last-push f (y ∷ []) x = refl
on_last-push f (y ∷ z ∷ ys) x = ap (λ r. y ∷ r) (on_last-push f (z ∷ ys) x)

pub without_last-push : {X : Type 0} (xs : List X) (x : X) → without_last (xs ++ x ∷ []) ≡ xs
without_last-push [] x = refl
without_last-push (y ∷ []) x = refl
without_last-push (y ∷ z ∷ ys) x = ap (λ r. y ∷ r) (without_last-push (z ∷ ys) x)

pub last_of-push : {X : Type 0} (xs : List X) (x : X) → last_of (xs ++ x ∷ []) ≡ Some x
last_of-push [] x = refl
last_of-push (y ∷ []) x = refl
last_of-push (y ∷ z ∷ ys) x = last_of-push (z ∷ ys) x

last_of-map : {X Y : Type 0} (f : X → Y) (xs : List X) → last_of (map f xs) ≡ option_map f (last_of xs)
last_of-map f [] = refl
last_of-map f (x ∷ []) = refl
last_of-map f (x ∷ y ∷ ys) = last_of-map f (y ∷ ys)

slice_get-last : {X : Type 0} (xs : List X) → slice_get xs (length xs - 1) ≡ last_of xs
slice_get-last [] = refl
slice_get-last (x ∷ []) = refl
slice_get-last (x ∷ y ∷ ys) = let e : length (x ∷ y ∷ ys) - 1 ≡ suc (length (y ∷ ys) - 1) = omega arith in ap (slice_get (x ∷ y ∷ ys)) e ∙ slice_get-last (y ∷ ys)

-- ---- the open brackets

views_push : (fs : List Frame) (f : Frame) → map open_view (fs ++ f ∷ []) ≡ map open_view fs ++ open_view f ∷ []
views_push fs f = map-append open_view fs (f ∷ [])

-- the last bracket is put back changed
views_on_last : (olds news rest : List Frame) (f f' : Frame) (g : Open → Open) → olds ≡ rest ++ f ∷ [] → news ≡ rest ++ f' ∷ []
    → open_view f' ≡ g (open_view f) → map open_view news ≡ on_last g (map open_view olds)
views_on_last olds news rest f f' g e q h =
    ap (map open_view) q ∙ views_push rest f' ∙ ap (λ o. map open_view rest ++ o ∷ []) h
    ∙ sym (on_last-push g (map open_view rest) (open_view f)) ∙ ap (on_last g) (sym (views_push rest f) ∙ ap (map open_view) (sym e))

abbrev kept_as : List Open → List ℕ → Option Game → Read
kept_as opens part last = record { opens = opens; part = part; last = last }

-- the word is a key
pub key_set : (old : Kept) (frames : Vec Frame Global) (rest : List Frame) (f : Frame) (part key : List ℕ)
    → old.frames.items ≡ rest ++ f ∷ [] → frames.items ≡ rest ++ record f { key = key } ∷ [] → key ≡ old.part → part ≡ []
    → kept_view (record { frames = frames; part = part; last = old.last }) ≡ keyed (kept_view old)
key_set old frames rest f part key e q k p =
    let g : Open → Open = λ o. record o { key = old.part } in
    let opens : map open_view frames.items ≡ on_last g (map open_view old.frames.items) =
    views_on_last old.frames.items frames.items rest f (record f { key = key }) g e q
    (ap (λ (u : List ℕ). record { name = f.name; params = map pair_view f.params.items; key = u }) k) in
    ap (λ o. kept_as o part (option_map view old.last)) opens ∙ ap (λ u. kept_as (on_last g (map open_view old.frames.items)) u (option_map view old.last)) p

-- the last bracket is closed
pub bracket_closed : (old : Kept) (frames : Vec Frame Global) (f : Frame) (params : List (List ℕ × ParamValue))
    → old.frames.items ≡ frames.items ++ f ∷ [] → params ≡ f.params.items
    → kept_view (record { frames = frames; part = old.part; last = Some (record { name = f.name; params = params }) }) ≡ closed_up (kept_view old)
bracket_closed old frames f params e h =
    let whole : map open_view old.frames.items ≡ map open_view frames.items ++ open_view f ∷ [] = ap (map open_view) e ∙ views_push frames.items f in
    let opens : map open_view frames.items ≡ without_last (map open_view old.frames.items) =
    sym (without_last-push (map open_view frames.items) (open_view f)) ∙ ap without_last (sym whole) in
    let last : Some (game_in (open_view f)) ≡ option_map game_in (last_of (map open_view old.frames.items)) =
    ap (option_map game_in) (sym (last_of-push (map open_view frames.items) (open_view f)) ∙ ap last_of (sym whole)) in
    ap (λ (ps : List (List ℕ × ParamValue)). kept_as (map open_view frames.items) old.part (Some (view (record { name = f.name; params = ps })))) h
    ∙ ap (λ o. kept_as o old.part (Some (game_in (open_view f)))) opens
    ∙ ap (λ u. kept_as (without_last (map open_view old.frames.items)) old.part u) last

-- a parameter's view is put in the same place
views_insert : (p : List ℕ × ParamValue) (ps : List (List ℕ × ParamValue)) → map pair_view (insert_pair p ps) ≡ insert_pair (pair_view p) (map pair_view ps)
views_insert p [] = refl
views_insert p (q ∷ qs) = go (key_lt p.0 q.0) (views_insert p qs)
  where
    go : (b : Bool) → map pair_view (insert_pair p qs) ≡ insert_pair (pair_view p) (map pair_view qs) → map pair_view (if b then p ∷ q ∷ qs else q ∷ insert_pair p qs)
        ≡ (if b then pair_view p ∷ pair_view q ∷ map pair_view qs else pair_view q ∷ insert_pair (pair_view p) (map pair_view qs))
    go true h = refl
    go false h = ap (λ u. pair_view q ∷ u) h

-- the value goes to its key
pub value_ended : (old : Kept) (frames : Vec Frame Global) (rest : List Frame) (f : Frame) (part key key' : List ℕ) (value : ParamValue) (params : Vec (List ℕ × ParamValue) Global) (last : Option GameText)
    → old.frames.items ≡ rest ++ f ∷ [] → frames.items ≡ rest ++ record f { params = params; key = key' } ∷ []
    → params.items ≡ insert_pair (key, value) f.params.items → key ≡ f.key → key' ≡ [] → value_view value ≡ value_read (option_map view old.last) old.part → part ≡ [] → last ≡ None
    → kept_view (record { frames = frames; part = part; last = last }) ≡ ended (kept_view old)
value_ended old frames rest f part key key' value params last e q pe ke ke' ve p le =
    let read : Value = value_read (option_map view old.last) old.part in
    let g : Open → Open = λ o. record o { params = insert_pair (o.key, read) o.params; key = [] } in
    let ps : map pair_view params.items ≡ insert_pair (f.key, read) (map pair_view f.params.items) =
    ap (map pair_view) pe ∙ views_insert (key, value) f.params.items
    ∙ ap (λ (u : List ℕ). insert_pair (u, value_view value) (map pair_view f.params.items)) ke
    ∙ ap (λ (u : Value). insert_pair (f.key, u) (map pair_view f.params.items)) ve in
    let opens : map open_view frames.items ≡ on_last g (map open_view old.frames.items) =
    views_on_last old.frames.items frames.items rest f (record f { params = params; key = key' }) g e q
    (ap (λ (u : List (List ℕ × Value)). record { name = f.name; params = u; key = key' }) ps
    ∙ ap (λ (u : List ℕ). record { name = f.name; params = insert_pair (f.key, read) (map pair_view f.params.items); key = u }) ke') in
    ap (λ o. kept_as o part (option_map view last)) opens
    ∙ ap (λ u. kept_as (on_last g (map open_view old.frames.items)) u (option_map view last)) p
    ∙ ap (λ u. kept_as (on_last g (map open_view old.frames.items)) [] (option_map view u)) le

-- ---- keys that stand in the last bracket

list_any-map : {X Y : Type 0} (p : Y → Bool) (f : X → Y) (xs : List X) → list_any p (map f xs) ≡ list_any (λ x. p (f x)) xs
list_any-map p f [] = refl
list_any-map p f (x ∷ xs) = ap (λ b. p (f x) || b) (list_any-map p f xs)

pub again_in_last : (kept : Kept) (f : Frame) (key : List ℕ) (b : Bool) → Some f ≡ slice_get kept.frames.items (length kept.frames.items - 1) → key ≡ kept.part
    → b ≡ list_any (λ p. bytes_eq key p.0) f.params.items → b ≡ is_again (kept_view kept)
again_in_last kept f key b e q h =
    h ∙ ap (λ (k : List ℕ). list_any (λ p. bytes_eq k p.0) f.params.items) q
    ∙ sym (list_any-map (λ p. bytes_eq kept.part p.0) pair_view f.params.items)
    ∙ ap (is_key_of kept.part) (ap (option_map open_view) (e ∙ slice_get-last kept.frames.items) ∙ sym (last_of-map open_view kept.frames.items))
