-- What a value more changes, where each is met once.
use Rattle.std.proofs.Common.{◌≡◌, ◌∙◌, Bool, true, false, cond, ◌&&◌, List, [], ◌∷◌, ◌++◌, refl, ap, sym}
use Rattle.std.specs.Prelude.{filter}
use Rattle.mh_consts.specs.declared.kinds.Const.{Const}
use Rattle.mh_world.specs.Blocks.{are_parts, is_part, once_onto}

-- ---- one after the other

pub onto-both : (vs xs ys : List Const) → once_onto vs (xs ++ ys) ≡ once_onto (once_onto vs xs) ys
onto-both vs [] ys = refl
onto-both vs (x ∷ xs) ys = onto-both (once_onto vs (x ∷ [])) xs ys

part_step : (vs us : List Const) (v : Const) (b : Bool) → once_onto vs (cond b (v ∷ us) us) ≡ once_onto (once_onto vs (cond b (v ∷ []) [])) us
part_step vs us v true = refl
part_step vs us v false = refl

-- the parts among a value and those after it
pub onto-next : (vs us : List Const) (v : Const) → once_onto vs (filter is_part (v ∷ us)) ≡ once_onto (once_onto vs (filter is_part (v ∷ []))) (filter is_part us)
onto-next vs us v = part_step vs (filter is_part us) v (is_part v)

-- where all are parts, those among them are all
part_first : (vs : List Const) (v : Const) (b : Bool) → is_part v ≡ b → are_parts (v ∷ vs) ≡ true → (are_parts vs ≡ true → filter is_part vs ≡ vs) → filter is_part (v ∷ vs) ≡ v ∷ vs
part_first vs v true p h next =
    let rest : are_parts vs ≡ true = sym (ap (λ t. t && are_parts vs) p) ∙ h in
    ap (λ t. cond t (v ∷ filter is_part vs) (filter is_part vs)) p ∙ ap (λ us. v ∷ us) (next rest)
part_first vs v false p h next = let none : false ≡ true = sym (ap (λ t. t && are_parts vs) p) ∙ h in absurd (cc)

pub filter_all : (vs : List Const) → are_parts vs ≡ true → filter is_part vs ≡ vs
filter_all [] h = refl
filter_all (v ∷ vs) h = part_first vs v (is_part v) refl h (filter_all vs)

pub ruleset onward = (onto-both, onto-next)
