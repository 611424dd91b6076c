-- The kinds of the parts of `concat`.
use Rattle.std.proofs.Common.{◌≡◌, Bool, true, false, ◌&&◌, List, [], ◌∷◌, Option, None, Some, refl, ◌≢◌, length, map, arith}
use Rattle.std.specs.Prelude.{is_some, is_none}
use Rattle.std.specs.Option.{option_map, option_map_or, option_and_then}
use Rattle.std.specs.List.{list_all}
use Rattle.mh_design.specs.declared.design.Design.{Design}
use Rattle.mh_design.specs.declared.design.Local.{Local as Variable}
use Rattle.mh_design.specs.declared.kinds.ValueKind.{ValueKind}
use Rattle.mh_design.specs.declared.kinds.ValueKind.TheVariants as value
use Rattle.mh_design.specs.declared.expression.GExpr.{GExpr}
use Rattle.mh_design.specs.Tree.{Expression, Expressions, NoMore, More, expression_of, row}
use Rattle.mh_design.specs.Kinds.{kind_of, kinds_of, is_part, concat_kind, given}

and_false : (b : Bool) → false ≡ (b && false)
and_false true = refl
and_false false = refl

-- one more part
pub parts-more : (k : ValueKind) (ks : Option (List ValueKind)) → option_map_or (list_all is_part) (option_map (λ ls. k ∷ ls) ks) false ≡ (is_part k && option_map_or (list_all is_part) ks false)
parts-more k None = and_false (is_part k)
parts-more k (Some ks) = refl

concat_some : (k : ValueKind) (ks : Option (List ValueKind)) → option_and_then concat_kind (option_map (λ ls. k ∷ ls) ks) ≡ given (option_map_or (list_all is_part) (option_map (λ ls. k ∷ ls) ks) false) (value.Bits false)
concat_some k None = refl
concat_some k (Some ks) = refl

by_first : (k : Option ValueKind) (ks : Option (List ValueKind)) → option_and_then concat_kind (option_and_then (λ x. option_map (λ ls. x ∷ ls) ks) k) ≡ given (option_map_or (list_all is_part) (option_and_then (λ x. option_map (λ ls. x ∷ ls) ks) k) false) (value.Bits false)
by_first None ks = refl
by_first (Some k) ks = concat_some k ks

-- `concat` of one part or more
pub concat-more : (d : Design) (ls : List Variable) (x : Expression) (xs : Expressions) → option_and_then concat_kind (kinds_of d ls (More x xs)) ≡ given (option_map_or (list_all is_part) (kinds_of d ls (More x xs)) false) (value.Bits false)
concat-more d ls x xs = by_first (kind_of d ls x) (kinds_of d ls xs)

pub concat_is : (d : Design) (ls : List Variable) (xs : List GExpr) → length xs ≢ 0 → option_and_then concat_kind (kinds_of d ls (row (map expression_of xs))) ≡ given (option_map_or (list_all is_part) (kinds_of d ls (row (map expression_of xs))) false) (value.Bits false)
concat_is d ls [] h = absurd (h refl)
concat_is d ls (x ∷ xs) h = concat-more d ls (expression_of x) (row (map expression_of xs))

-- `concat` without parts has no kind
pub concat_none : (d : Design) (ls : List Variable) (xs : List GExpr) → length xs ≡ 0 → option_and_then concat_kind (kinds_of d ls (row (map expression_of xs))) ≡ None
concat_none d ls [] h = refl
concat_none d ls (x ∷ xs) h = absurd (omega (arith, h))

pub ruleset concat_laws = (parts-more, concat_is, concat_none)
