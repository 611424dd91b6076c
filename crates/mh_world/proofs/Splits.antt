-- The arguments of a call by how many come before the first one by name.
use Rattle.std.proofs.Common.{◌≡◌, ℕ, ◌-◌, ◌<◌, ◌≤◌, suc, zero, List, [], ◌∷◌, Option, Some, None, length, map, take, drop, refl, ap, sym, subst, ◌∙◌, arith}
use Rattle.std.specs.Option.{option_map}
use Rattle.std.proofs.lemmas.List.{drop-map, take_rest}
use Rattle.mh_pytree.specs.declared.expression.Argument.{Argument}
use Rattle.mh_consts.specs.declared.kinds.Const.{Const}
use Rattle.mh_consts.specs.Expression.{Keys, given_of, key_of, keys_of}
use Rattle.mh_world.specs.World.{Bindings}
use Rattle.mh_world.specs.Arguments.{Arguments, named_onto, only_named, with_positional, split, count_positional}

abbrev pub with_named : List Const → Bindings → Arguments
with_named ps bs = record { positional = ps; named = bs }

both : (v : Const) (ps : List Const) (r : Option Bindings) → option_map (with_positional v) (option_map (with_named ps) r) ≡ option_map (with_named (v ∷ ps)) r
both v ps (Some bs) = refl
both v ps None = refl

pub split-takes : (ks : Keys) (vs : List Const) → count_positional ks ≤ length vs →
    split ks vs ≡ option_map (with_named (take (count_positional ks) vs)) (named_onto [] (drop (count_positional ks) ks) (drop (count_positional ks) vs))
split-takes (None ∷ ks) (v ∷ vs) h =
    ap (option_map (with_positional v)) (split-takes ks vs (omega arith))
    ∙ both v (take (count_positional ks) vs) (named_onto [] (drop (count_positional ks) ks) (drop (count_positional ks) vs))
split-takes (None ∷ ks) [] h = absurd (omega arith)
split-takes (Some t ∷ ks) vs h = refl
split-takes [] vs h = refl

pub split_short : (ks : Keys) (vs : List Const) → length vs < count_positional ks → split ks vs ≡ None
split_short (None ∷ ks) (v ∷ vs) h = ap (option_map (with_positional v)) (split_short ks vs (omega arith))
split_short (None ∷ ks) [] h = refl
split_short (Some t ∷ ks) vs h = absurd (omega arith)
split_short [] vs h = absurd (omega arith)

keys-drop : (n : ℕ) (xs : List Argument) → drop n (keys_of (map given_of xs)) ≡ keys_of (map given_of (drop n xs))
keys-drop n xs = drop-map key_of n (map given_of xs) ∙ ap (map key_of) (drop-map given_of n xs)

-- what arguments give, of which so many come before the first one by name
pub split-by : (xs : List Argument) (vs : List Const) (n : ℕ) (r : Option Bindings) → n ≡ count_positional (keys_of (map given_of xs)) → n ≤ length vs →
    r ≡ named_onto [] (keys_of (map given_of (take (length xs - n) (drop n xs)))) (take (length vs - n) (drop n vs)) →
    option_map (with_named (take n vs)) r ≡ split (keys_of (map given_of xs)) vs
split-by xs vs n r e h p =
    let within : count_positional (keys_of (map given_of xs)) ≤ length vs = subst (λ m. m ≤ length vs) e h in
    ap (option_map (with_named (take n vs))) p
    ∙ (ap (λ ys. option_map (with_named (take n vs)) (named_onto [] (keys_of (map given_of ys)) (take (length vs - n) (drop n vs)))) (take_rest xs n)
    ∙ (ap (λ us. option_map (with_named (take n vs)) (named_onto [] (keys_of (map given_of (drop n xs))) us)) (take_rest vs n)
    ∙ (ap (λ ks. option_map (with_named (take n vs)) (named_onto [] ks (drop n vs))) (sym (keys-drop n xs))
    ∙ (ap (λ m. option_map (with_named (take m vs)) (named_onto [] (drop m (keys_of (map given_of xs))) (drop m vs))) e
    ∙ sym (split-takes (keys_of (map given_of xs)) vs within)))))
