-- The kinds of a design's signals have their codes.
use Rattle.std.proofs.Common.{ℕ, zero, suc, ℤ, ◌≡◌, ◌<◌, ◌≤◌, Bool, true, false, ◌&&◌, List, [], ◌∷◌, ◌++◌, map, take, ◌+◌, length, slice_index_or, Option, None, Some, refl, ap, sym, ◌∙◌, arith}
use Rattle.std.specs.Prelude.{slice_get, IfSome}
use Rattle.std.specs.List.{list_all}
use Rattle.std.specs.Option.{option_map_or}
use Rattle.std.proofs.lemmas.Bool.{leb-true}
use Rattle.mh_design.specs.declared.design.Design.{Design}
use Rattle.mh_design.specs.declared.design.EnumDecl.{EnumDecl}
use Rattle.mh_design.specs.declared.design.Kind.{Kind}
use Rattle.mh_design.specs.declared.design.Kind.TheVariants as kind
use Rattle.mh_design.specs.declared.design.SignalDecl.{SignalDecl}
use Rattle.mh_design.specs.Enums.{encoding_width}
use Rattle.mh_design.specs.WellFormed as formed
use Rattle.mh_design.specs.Values.{limits_of}
use Rattle.mh_design.specs.Deltas.{first_waiter}
use Rattle.mh_design.specs.Bodies.{waits_room}
use Rattle.mh_design.specs.declared.design.Generator.{Generator}
use Rattle.mh_signals.specs.declared.limits.Limits.{Limits as Kept}
use Rattle.mh_signals.specs.Seen.{limits_seen}
use Rattle.mh_signals.specs.Woken.{HasCodes, woken_with}
use Rattle.std.proofs.lemmas.List.{map_more}

both-left : (a b : Bool) → (a && b) ≡ true → a ≡ true
both-left true b e = refl
both-left false b e = e

both-right : (a b : Bool) → (a && b) ≡ true → b ≡ true
both-right true b e = e
both-right false b e = absurd cc

all-at : {X : Type 0} (p : X → Bool) (xs : List X) (k : ℕ) (d : X) → list_all p xs ≡ true → k < length xs → p (slice_index_or xs k d) ≡ true
all-at p [] k d e h = absurd (omega (arith, h))
all-at p (x ∷ xs) zero d e h = both-left (p x) (list_all p xs) e
all-at p (x ∷ xs) (suc k) d e h = all-at p xs k d (both-right (p x) (list_all p xs) e) (omega (arith, h))

-- an item's value has a code
coded : (x : EnumDecl) (z : ℤ) → formed.is_item_value x z ≡ true → encoding_width x.encoding (length x.names) ≤ 127
coded x z e = leb-true (encoding_width x.encoding (length x.names)) 127 (both-left (formed.enum_fits x) _ e)

found : (o : Option EnumDecl) (z : ℤ) → option_map_or (λ x. formed.is_item_value x z) o false ≡ true → IfSome o (λ x. encoding_width x.encoding (length x.names) ≤ 127)
found None z e = tt
found (Some x) z e = coded x z e

value-has : (d : Design) (k : Kind) (z : ℤ) → formed.is_value d k z ≡ true → HasCodes d k
value-has d kind.Bool z e = tt
value-has d kind.Int z e = tt
value-has d (kind.Bits b) z e = tt
value-has d (kind.Item n) z e = found (slice_get d.enums n) z e

signals-fit : (d : Design) → formed.is_well_formed d ≡ true → list_all (formed.signal_fits d) d.signals ≡ true
signals-fit d e =
    both-right (list_all formed.enum_fits d.enums) _ (both-left _ _ (both-right (formed.ports_fit d) (formed.declarations_fit d) (both-right (formed.names_fit d && formed.sizes_fit d) _ (both-left _ (list_all (formed.generator_fits d) d.generators) e))))

pub has_codes : (d : Design) (k : ℕ) (x : SignalDecl) → formed.is_well_formed d ≡ true → k < length d.signals → x ≡ slice_index_or d.signals k x → HasCodes d x.kind
has_codes d k x e h i =
    let f = ap (formed.signal_fits d) i ∙ all-at (formed.signal_fits d) d.signals k x (signals-fit d e) h in
    value-has d x.kind x.init (both-left _ _ (both-right (formed.is_name x.path && formed.kind_fits d x.kind) _ f))

map-push : {X Y : Type 0} (f : X → Y) (xs : List X) (x : X) → map f (xs ++ x ∷ []) ≡ map f xs ++ f x ∷ []
map-push f [] x = refl
map-push f (y ∷ xs) x = ap (λ zs. f y ∷ zs) (map-push f xs x)

-- one signal more
pub limits-more : (d : Design) (all : List Kept) (k : ℕ) (l : Kept) (x : SignalDecl) → map limits_seen all ≡ map (λ y. limits_of d y.kind) (take k d.signals) → limits_seen l ≡ limits_of d x.kind → k < length d.signals → x ≡ slice_index_or d.signals k x → map limits_seen (all ++ l ∷ []) ≡ map (λ y. limits_of d y.kind) (take (k + 1) d.signals)
limits-more d all k l x i e h f =
    map-push limits_seen all l
    ∙ ap (λ us. us ++ limits_seen l ∷ []) i
    ∙ ap (λ v. map (λ y. limits_of d y.kind) (take k d.signals) ++ v ∷ []) e
    ∙ ap (λ y. map (λ y. limits_of d y.kind) (take k d.signals) ++ limits_of d y.kind ∷ []) f
    ∙ sym (map_more (λ y. limits_of d y.kind) d.signals k x h)

-- the waiters of all generators
pub waiters-first : (d : Design) (gs : List Generator) → map woken_with (map (λ g. waits_room d g g.kind) gs) ≡ map (first_waiter d) gs
waiters-first d [] = refl
waiters-first d (g ∷ gs) = ap (λ ws. first_waiter d g ∷ ws) (waiters-first d gs)
