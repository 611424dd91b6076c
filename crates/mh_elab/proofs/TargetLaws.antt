-- What stands on the left of assignments: several names, one by one, and what a target holds.
use Rattle.std.proofs.Common.{◌≡◌, ℕ, suc, zero, ◌+◌, Bool, true, false, List, [], ◌∷◌, Option, Some, None, Err, refl, sym, ap, ◌∙◌, length, is_some, slice_get, add-one}
use Rattle.std.proofs.lemmas.Bool.{false≢true}
use Rattle.mh_pytree.specs.declared.expression.PyExpr.{PyExpr}
use Rattle.mh_pytree.specs.declared.expression.PyExpr.TheVariants as tree_of
use Rattle.mh_text.specs.declared.code.Code.TheVariants.{E2NotElaborable, E10KindClash}
use Rattle.mh_consts.specs.declared.kinds.Const.{Const}
use Rattle.mh_consts.specs.Expression as x
use Rattle.mh_consts.specs.Expression.{Ex}
use Rattle.mh_consts.proofs.Shapes.{ex-index}
use Rattle.mh_world.specs.World.{World, after, given, pure, seeing}
use Rattle.mh_world.specs.Heads.{computed_in}
use Rattle.mh_world.specs.Lists.{items_of}
use Rattle.mh_world.specs.Statements.{ToItem, name_of, names_of, target_of, target_step, to_names, with_name}
use Rattle.mh_elab.specs.Elaboration.{held, is_target, put, unpack}
use Rattle.mh_elab.specs.Views.{names_given}
use Rattle.mh_elab.proofs.OutForms.{out-tuple, outs}

-- ---- several names

pub all-more : (t : List ℕ) (r : Option (List (List ℕ))) → is_some (with_name (Some t) r) ≡ is_some r
all-more t None = refl
all-more t (Some ts) = refl

pub given-more : (t : List ℕ) (r : Option (List (List ℕ))) → is_some r ≡ true → names_given (with_name (Some t) r) ≡ t ∷ names_given r
given-more t None h = absurd (false≢true h)
given-more t (Some ts) h = refl

more_given : (o : Option (List ℕ)) (r : Option (List (List ℕ))) (n : ℕ) → (is_some r ≡ true → length (names_given r) ≡ n) → is_some (with_name o r) ≡ true → length (names_given (with_name o r)) ≡ suc n
more_given None r n f h = absurd (false≢true h)
more_given (Some t) None n f h = absurd (false≢true h)
more_given (Some t) (Some ts) n f h = ap suc (f refl)

-- as many as there are
pub given_length : (xs : List PyExpr) → is_some (names_of xs) ≡ true → length (names_given (names_of xs)) ≡ length xs
given_length [] h = refl
given_length (e ∷ es) h = more_given (name_of e) (names_of es) (length es) (given_length es) h

pub put_nothing : (l : ℕ) (o : Option (List (List ℕ))) (v : Const) (us : List Const) (w : World) → is_some o ≡ false → put l (to_names o) v us w ≡ Err (E2NotElaborable, l)
put_nothing l None v us w h = refl
put_nothing l (Some ts) v us w h = cc

pub put_names : (l : ℕ) (o : Option (List (List ℕ))) (v : Const) (us : List Const) (w : World) → is_some o ≡ true →
    put l (to_names o) v us w ≡ after (seeing l (items_of v) w) (λ x. unpack l (names_given o) x.0 x.1)
put_names l None v us w h = cc
put_names l (Some ts) v us w h = refl

-- the target that a tuple of names is
pub tuple_target : (target : PyExpr) (xs ys : List PyExpr) → target ≡ tree_of.Tuple xs → ys ≡ xs → target_of target ≡ to_names (names_of ys)
tuple_target target xs ys h g = ap target_of h ∙ ap target_step (out-tuple xs) ∙ ap (λ (zs : List PyExpr). to_names (names_of zs)) (sym g)

pub ruleset target_laws = (all-more, given-more)

pub ruleset unpacking = (put_nothing, put_names)

-- ---- what a target holds

pub held-names : (l : ℕ) (o : Option (List (List ℕ))) (us : List Const) (w : World) → held l (to_names o) us w ≡ given (slice_get us 0) E10KindClash l pure w
held-names l None us w = refl
held-names l (Some ts) us w = refl

pub held-item : (l : ℕ) (a b : Ex) (us : List Const) (w : World) → computed_in l (x.Op x.Index (x.two a b)) us w ≡ held l (ToItem a b) us w
held-item l a b [] w = refl
held-item l a b (u ∷ []) w = refl
held-item l a b (u ∷ v ∷ us) w = refl

pub is_target-names : (o : Option (List (List ℕ))) → is_target (to_names o) ≡ false
is_target-names None = refl
is_target-names (Some ts) = refl

pub ruleset holding = (outs, ex-index, held-names, held-item, is_target-names)
